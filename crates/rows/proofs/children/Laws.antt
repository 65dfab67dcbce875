-- Going through the names of an object, and through the elements of an array, by their iterators.
use Prim.Native.Nat.{ℕ, ◌+◌}
use mathlib.Core.Path.{◌≡◌, ◌∙◌}
use mathlib.Core.List.{List}
use native.Mathlib.Omega.{arith}
use Rattle.syntax.specs.Tree.{Node, Nodes, none, more, Members, no_member, member}
use Rattle.syntax.specs.Rows.{count, count_members, size}
use Rattle.syntax.specs.Holding.{word, Holds, HoldsAll, HoldsMembers}
use Rattle.syntax.proofs.Facts.{size_pos}
use Rattle.rows.specs.Records.{InTable, ObjectRow, ArrayRow}
use Rattle.rows.specs.Children.{InTableAll, Passes, Begins}
use Rattle.rows.specs.declared.children.Children.{Children}
use Rattle.rows.proofs.records.Trees.{row_of, row_in}
use Rattle.rows.proofs.records.Members.{MembersLeft, MemberHere, members_start, member_here, members_next, members_end}
use Rattle.rows.proofs.records.Elements.{ElementsLeft, ElementHere, elements_start, element_here, elements_next, elements_end}

held_in_table : {t : List ℕ} {r : ℕ} (n : Node) → Holds t r n → InTable t r
held_in_table {t} {r} n h = row_in (row_of t r n h) (size_pos n)

-- ---- names

members_in_table : (t : List ℕ) (r : ℕ) (ms : Members) → HoldsMembers t r ms → InTableAll 1 t r (count_members ms)
members_in_table t r no_member h = tt
members_in_table t r (member f e n ms) h =
    let z : word t (r + 1) 4 ≡ size n = (row_of t (r + 1) n h.1).subtree in (held_in_table n h.1, rw z (members_in_table t (r + 1 + size n) ms h.2))

pub all_names : {s t : List ℕ} {r n : ℕ} (o : ObjectRow s t r) → n ≡ word t r 3 → InTableAll 1 t (r + 1) n
all_names {t = t} {r = r} o e = rw (e, o.holds.0.direct) (members_in_table t (r + 1) o.members o.holds.1)

-- the members whose names are left
pub record NamesLeft (s t : List ℕ) (c : Children 1) (rest : Members) : Type 0 where
  pub table : c.tree.table.now ≡ t
  pub members : MembersLeft s t c.row c.left rest

module _ {s t : List ℕ} {c : Children 1} where
  pub names_start : {r : ℕ} (o : ObjectRow s t r) → Begins t r c → NamesLeft s t c o.members
  names_start o b = record { table = b.table; members = rw b.row (members_start o b.left) }

  module _ {rest : Members} (a : NamesLeft s t c rest) where
    pub names_end : c.left ≡ 0 → rest ≡ no_member
    names_end e = members_end a.members (omega (arith, e))

    module _ {r : ℕ} {d : Children 1} (p : Passes c r d) where
      pub name_here : MemberHere s t r rest
      name_here = rw p.is (member_here a.members p.some)

      pub names_next : (m : MemberHere s t r rest) → NamesLeft s t d m.others
      names_next m =
          let b : MembersLeft s t r c.left rest = rw p.is a.members in
          let e : d.row ≡ r + 1 + word t (r + 1) 4 = rw (p.is, ← a.table) p.row in
          record { table = p.table ∙ a.table; members = rw p.left (members_next b m e) }

-- ---- elements

elements_in_table : (t : List ℕ) (r : ℕ) (ns : Nodes) → HoldsAll t r ns → InTableAll 0 t r (count ns)
elements_in_table t r none h = tt
elements_in_table t r (more n ns) h =
    let i : r + 0 ≡ r = omega arith in
    let z : word t r 4 ≡ size n = (row_of t r n h.0).subtree in
    rw (i, z) (held_in_table n h.0, elements_in_table t (r + size n) ns h.1)

pub all_items : {s t : List ℕ} {r n : ℕ} (o : ArrayRow s t r) → n ≡ word t r 3 → InTableAll 0 t (r + 1) n
all_items {t = t} {r = r} o e = rw (e, o.holds.0.direct) (elements_in_table t (r + 1) o.elements o.holds.1)

-- the elements that are left
pub record ItemsLeft (s t : List ℕ) (c : Children 0) (rest : Nodes) : Type 0 where
  pub table : c.tree.table.now ≡ t
  pub elements : ElementsLeft s t c.row c.left rest

module _ {s t : List ℕ} {c : Children 0} where
  pub items_start : {r : ℕ} (o : ArrayRow s t r) → Begins t r c → ItemsLeft s t c o.elements
  items_start o b = record { table = b.table; elements = rw b.row (elements_start o b.left) }

  module _ {rest : Nodes} (a : ItemsLeft s t c rest) where
    pub items_end : c.left ≡ 0 → rest ≡ none
    items_end e = elements_end a.elements (omega (arith, e))

    module _ {r : ℕ} {d : Children 0} (p : Passes c r d) where
      pub item_here : ElementHere s t r rest
      item_here = rw p.is (element_here a.elements p.some)

      pub items_next : (m : ElementHere s t r rest) → ItemsLeft s t d m.others
      items_next m =
          let b : ElementsLeft s t r c.left rest = rw p.is a.elements in
          let i : c.row + 0 ≡ c.row = omega arith in
          let e : d.row ≡ r + word t r 4 = rw (p.is, ← a.table) (rw i at p.row) in
          record { table = p.table ∙ a.table; elements = rw p.left (elements_next b m e) }
