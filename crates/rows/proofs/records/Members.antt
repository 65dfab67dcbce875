-- Going through the members of an object: from name to name, or from value to value.
use Prim.Native.Nat.{ℕ, ◌+◌, ◌-◌, ◌≤◌, ◌<◌}
use mathlib.Core.Path.{◌≡◌, refl, ap, ◌∙◌}
use mathlib.Core.List.{List}
use native.Mathlib.Omega.{arith}
use lib.ListN.{length}
use Rattle.tokens.specs.Spelling.{IsQuoted}
use Rattle.tokens.proofs.Facts.{quoted_bounds}
use Rattle.syntax.specs.Tree.{Members, no_member, member}
use Rattle.syntax.specs.Rows.{count_members, size}
use Rattle.syntax.specs.Holding.{word, Row, HoldsMembers, PlacedMembers}
use Rattle.rows.specs.Records.{InTable, Reads, Rowed, ObjectRow}
use Rattle.rows.specs.declared.records.Record.{Record}
use Rattle.rows.proofs.records.Trees.{row_of, row_in}

-- ---- from name to name

-- those not yet seen: `left` of them, from row `here` on
pub record MembersLeft (s t : List ℕ) (here left : ℕ) (rest : Members) : Type 0 where
  pub holds : HoldsMembers t here rest
  pub placed : PlacedMembers s rest
  pub counts : left ≡ count_members rest

-- the first of them: its name at row `here`, its value behind it, and the others behind that
pub record MemberHere (s t : List ℕ) (here : ℕ) (rest : Members) : Type 0 where
  pub value : Rowed s t (here + 1)
  pub others : Members
  pub is : rest ≡ member (word t here 1) (word t here 2) value.tree others
  pub in_table : InTable t here
  pub quoted : IsQuoted s (word t here 1) (word t here 2)
  pub behind : HoldsMembers t (here + 1 + word t (here + 1) 4) others
  pub placed : PlacedMembers s others

pub members_start : {s t : List ℕ} {r left : ℕ} (o : ObjectRow s t r) → left ≡ word t r 3 → MembersLeft s t (r + 1) left o.members
members_start o e = record { holds = o.holds.1; placed = o.placed.2; counts = e ∙ o.holds.0.direct }

module _ {s t : List ℕ} {here left : ℕ} where
  first_member : (rest : Members) → MembersLeft s t here left rest → 0 < left → MemberHere s t here rest
  first_member no_member a l = absurd (omega arith)
  first_member (member f e n ms) a l =
      let w : Row t here 9 f e 0 1 = a.holds.0 in
      let x : word t here 1 ≡ f = w.first in
      let y : word t here 2 ≡ e = w.last in
      let z : word t (here + 1) 4 ≡ size n = (row_of t (here + 1) n a.holds.1).subtree in
      record {
        value = record { tree = n; holds = a.holds.1; placed = a.placed.1 };
        others = ms;
        is = rw (x, y);
        in_table = row_in w (omega arith);
        quoted = rw (x, y) a.placed.0;
        behind = rw z a.holds.2;
        placed = a.placed.2;
      }

  module _ {rest : Members} (a : MembersLeft s t here left rest) where
    pub member_here : 0 < left → MemberHere s t here rest
    member_here l = first_member rest a l

    pub members_next : (m : MemberHere s t here rest) {r : ℕ} → r ≡ here + 1 + word t (here + 1) 4 → MembersLeft s t r (left - 1) m.others
    members_next m {r} e = record { holds = rw e m.behind; placed = m.placed; counts = omega (arith, a.counts, ap count_members m.is) }

  pub members_end : {rest : Members} → MembersLeft s t here left rest → left ≤ 0 → rest ≡ no_member
  members_end {rest = no_member} a l = refl
  members_end {rest = member f e n ms} a l = absurd (omega arith)

-- a name or a string by the row that was read: the bytes between its quotes
module _ {s t : List ℕ} {r : ℕ} {x : Record} (p : Reads t r x) (q : IsQuoted s (word t r 1) (word t r 2)) where
  pub quoted_read : IsQuoted s x.first x.end
  quoted_read = rw (p.first, p.last) q

  pub quotes_read : (x.first + 2 ≤ x.end) × (x.end ≤ length s)
  quotes_read = let b = quoted_bounds quoted_read in (b.0, b.1)

module _ {s t : List ℕ} {here : ℕ} {rest : Members} (m : MemberHere s t here rest) {x : Record} (p : Reads t here x) where
  pub member_read : rest ≡ member x.first x.end m.value.tree m.others
  member_read = m.is ∙ rw (p.first, p.last)

-- ---- from value to value: `at` is the row of the next member's value, and its name is at the row before

pub record ValuesLeft (s t : List ℕ) (at left : ℕ) (rest : Members) : Type 0 where
  pub name : ℕ
  pub behind : at ≡ name + 1
  pub ahead : MembersLeft s t name left rest

pub record ValueHere (s t : List ℕ) (at : ℕ) (rest : Members) : Type 0 where
  pub first : ℕ
  pub end : ℕ
  pub value : Rowed s t at
  pub others : Members
  pub is : rest ≡ member first end value.tree others
  pub behind : HoldsMembers t (at + word t at 4) others
  pub placed : PlacedMembers s others

pub values_start : {s t : List ℕ} {r left : ℕ} (o : ObjectRow s t r) → left ≡ word t r 3 → ValuesLeft s t (r + 2) left o.members
values_start {r = r} o e = record { name = r + 1; behind = omega arith; ahead = members_start o e }

module _ {s t : List ℕ} {at left : ℕ} {rest : Members} (a : ValuesLeft s t at left rest) where
  pub value_here : 0 < left → ValueHere s t at rest
  value_here l =
      let m = member_here a.ahead l in
      let e : at ≡ a.name + 1 = a.behind in
      record {
        first = word t a.name 1;
        end = word t a.name 2;
        value = record { tree = m.value.tree; holds = rw e m.value.holds; placed = m.value.placed };
        others = m.others;
        is = m.is;
        behind = rw e m.behind;
        placed = m.placed;
      }

  pub values_next : (m : ValueHere s t at rest) {r : ℕ} → r ≡ at + word t at 4 + 1 → ValuesLeft s t r (left - 1) m.others
  values_next m e = record {
    name = at + word t at 4;
    behind = e;
    ahead = record { holds = m.behind; placed = m.placed; counts = omega (arith, a.ahead.counts, ap count_members m.is) };
  }

  pub values_end : left ≤ 0 → rest ≡ no_member
  values_end l = members_end a.ahead l
