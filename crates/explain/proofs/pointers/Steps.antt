-- A step from an array or object to a value that stands in it: what the table says of it, and its token.
use Prim.Native.Nat.{ℕ, ◌+◌, ◌-◌, ◌≤◌, ◌<◌}
use mathlib.Core.Path.{◌≡◌, refl, sym, ap, ◌∙◌}
use mathlib.Core.List.{List, [], ◌∷◌}
use native.Mathlib.Omega.{arith}
use lib.ListN.{length, length-take, length-drop}
use Rattle.chars.specs.Strings.{characters, part}
use Rattle.tokens.specs.Spelling.{IsQuoted}
use Rattle.syntax.specs.Tree.{Node, scalar, array, object, Members, no_member, member}
use Rattle.syntax.specs.Rows.{size}
use Rattle.syntax.specs.Grammar.{name_of}
use Rattle.syntax.specs.Holding.{word, Row, Holds, HoldsMembers, Placed, PlacedMembers}
use Rattle.rows.specs.Records.{InTable, Reads}
use Rattle.rows.specs.declared.records.Record.{Record}
use Rattle.explain.specs.Pointers.{token_chars, decimal, name_token, index_token}
use Rattle.explain.specs.Writing.{Puts, MemberAt, member_first, member_later, StepTo, to_element, to_member, ElementRow, Counts, StepRow}
use Rattle.explain.proofs.pieces.Buffers.{puts_append, puts_as}

-- ---- a member: its name is at the row before c

pub record Named (s t : List ℕ) (c : ℕ) (w : List ℕ) : Type 0 where
  pub behind : 0 < c
  pub in_table : InTable t (c - 1)
  pub quoted : IsQuoted s (word t (c - 1) 1) (word t (c - 1) 2)
  pub is : w ≡ name_token (name_of s (word t (c - 1) 1) (word t (c - 1) 2))

named_first : {s t : List ℕ} {r f e : ℕ} → Row t r 9 f e 0 1 → IsQuoted s f e → Named s t (r + 1) (name_token (name_of s f e))
named_first {s} {t} {r} {f} {e} h q =
    let z : r + 1 - 1 ≡ r = omega arith in
    let x : word t r 1 ≡ f = h.first in
    let y : word t r 2 ≡ e = h.last in
    record {
      behind = omega arith;
      in_table = rw z record { here = omega (arith, h.room); room = omega (arith, h.room, h.subtree) };
      quoted = rw (z, x, y) q;
      is = rw (z, x, y);
    }

named_of : {s t : List ℕ} {r g k c : ℕ} {m : Node} (ms : Members) → HoldsMembers t r ms → PlacedMembers s ms → MemberAt r ms g k c m
    → Named s t c (name_token (name_of s g k))
named_of no_member h p a = elim a [ ]
named_of (member f e n ms) h p member_first = named_first h.0 p.0
named_of {r = r} (member f e n ms) h p (member_later a) = named_of {r = r + 1 + size n} ms h.2 p.2 a

member_of : {s t : List ℕ} {r c : ℕ} {m : Node} {w : List ℕ} (n : Node) → Holds t r n → Placed s n → StepTo s r n c m w → word t r 0 ≡ 8 → Named s t c w
member_of (scalar q f e) h p a k = elim a [ ]
member_of (array f e ns) h p (to_element a) k = absurd (omega (arith, h.0.kind))
member_of (object f e ms) h p (to_member a) k = named_of ms h.1 p.2 a

-- ---- an element

pub record Indexed (t : List ℕ) (r c : ℕ) (w : List ℕ) : Type 0 where
  pub element : ElementRow t r c
  pub is : w ≡ index_token element.index

element_of : {s t : List ℕ} {r c : ℕ} {m : Node} {w : List ℕ} (n : Node) → Holds t r n → StepTo s r n c m w → (word t r 0 ≡ 8 → ⊥) → Indexed t r c w
element_of (scalar q f e) h a k = elim a [ ]
element_of {m = m} (array f e ns) h (to_element {j = j} a) k =
    record { element = record { elements = ns; holds = h.1; index = j; value = m; is = a }; is = refl }
element_of (object f e ms) h (to_member a) k = absurd (k h.0.kind)

-- ---- by the rows that were read

pub part_short : (s : List ℕ) (a e : ℕ) → length (part s a e) ≤ length s
part_short s a e = simp (length-take, length-drop) (omega arith)

pub body_short : (s : List ℕ) (y : Record) {body : List ℕ} → body ≡ part s (y.first + 1) (y.end - 1) → length s ≤ 65536 → length body ≤ 65536
body_short s y q l = omega (arith, ap length q, part_short s (y.first + 1) (y.end - 1))

module _ {s t : List ℕ} {r c : ℕ} (d : StepRow s t r c) where
  pub step_name : {x : Record} → Reads t r x → x.kind ≡ 8 → Named s t c d.token
  step_name p k = member_of d.around.tree d.around.holds d.around.placed d.is (sym p.kind ∙ k)

  pub step_element : {x : Record} → Reads t r x → (x.kind ≡ 8 → ⊥) → Indexed t r c d.token
  step_element p k = element_of d.around.tree d.around.holds d.is (λ q. k (p.kind ∙ q))

  module _ {x : Record} (p : Reads t r x) {i j k : ℕ} {out out₂ out₃ : List ℕ} (h : Puts (0x2F ∷ []) i j out out₂) where
    pub put_named : x.kind ≡ 8 → {y : Record} → Reads t (c - 1) y → {body : List ℕ} → body ≡ part s (y.first + 1) (y.end - 1)
        → Puts (token_chars (characters body)) j k out₂ out₃ → Puts d.token i k out out₃
    put_named q {y} z {body} e g =
        let n = step_name p q in
        puts_as (n.is ∙ rw (e, z.first, z.last)) (puts_append h g)

    pub put_indexed : (x.kind ≡ 8 → ⊥) → {n : ℕ} → Counts t r c n → Puts (decimal n) j k out₂ out₃ → Puts d.token i k out out₃
    put_indexed q {n} z g =
        let e = step_element p q in
        puts_as (e.is ∙ ap index_token (sym (z.tells e.element))) (puts_append h g)
