-- What a row says of its tree, by its kind and as it was read; objects among the values of a table.
use Prim.Native.Nat.{ℕ, ◌+◌, ◌*◌, ◌≤◌, ◌<◌}
use mathlib.Core.Path.{◌≡◌, refl, sym, ap, ◌∙◌}
use mathlib.Core.List.{List}
use native.Mathlib.Omega.{arith}
use lib.ListN.{length}
use Rattle.std.specs.Prelude.{Option, Some, None}
use Rattle.tokens.specs.Spelling.{IsQuoted}
use Rattle.tokens.specs.declared.tokens.Kind.{Kind}
use Rattle.tokens.specs.declared.tokens.Kind.TheVariants.{Quoted}
use Rattle.tokens.specs.Tokens.{kind_number}
use Rattle.syntax.specs.Tree.{Node, scalar, array, object, Nodes, none, Members, no_member, place_of}
use Rattle.syntax.specs.Rows.{row_words, count, count_members, size}
use Rattle.syntax.specs.Holding.{word, Row, Holds, Placed}
use Rattle.syntax.proofs.Facts.{kind_small, kind_same, holds_same, size_pos}
use Rattle.rows.specs.Records.{InTable, Reads, Rowed, ObjectRow, ArrayRow, PartRow}
use Rattle.rows.specs.declared.records.Record.{Record}

-- ---- trees by their parts

abbrev pub kind_of : Node → ℕ
kind_of (scalar k f e) = kind_number k
kind_of (array f e ns) = 7
kind_of (object f e ms) = 8

abbrev pub end_of : Node → ℕ
end_of (scalar k f e) = e
end_of (array f e ns) = e
end_of (object f e ms) = e

abbrev pub elements_in : Node → Nodes
elements_in (scalar k f e) = none
elements_in (array f e ns) = ns
elements_in (object f e ms) = none

abbrev pub members_in : Node → Members
members_in (scalar k f e) = no_member
members_in (array f e ns) = no_member
members_in (object f e ms) = ms

abbrev pub children_of : Node → ℕ
children_of (scalar k f e) = 0
children_of (array f e ns) = count ns
children_of (object f e ms) = count_members ms

pub string_kind : (n : Node) → kind_of n ≡ 6 → n ≡ scalar Quoted (place_of n) (end_of n)
string_kind (scalar k f e) h = ap (λ (k : Kind). scalar k f e) (kind_same k Quoted h)
string_kind (array f e ns) h = absurd (omega arith)
string_kind (object f e ms) h = absurd (omega arith)

pub array_kind : (n : Node) → kind_of n ≡ 7 → n ≡ array (place_of n) (end_of n) (elements_in n)
array_kind (scalar k f e) h = absurd (omega (arith, kind_small k))
array_kind (array f e ns) h = refl
array_kind (object f e ms) h = absurd (omega arith)

pub object_kind : (n : Node) → kind_of n ≡ 8 → n ≡ object (place_of n) (end_of n) (members_in n)
object_kind (scalar k f e) h = absurd (omega (arith, kind_small k))
object_kind (array f e ns) h = absurd (omega arith)
object_kind (object f e ms) h = refl

-- ---- the row of a tree

pub row_of : (t : List ℕ) (r : ℕ) (n : Node) → Holds t r n → Row t r (kind_of n) (place_of n) (end_of n) (children_of n) (size n)
row_of t r (scalar k f e) h = h
row_of t r (array f e ns) h = h.0
row_of t r (object f e ms) h = h.0

pub row_in : {t : List ℕ} {r k f e children rows : ℕ} → Row t r k f e children rows → 0 < rows → InTable t r
row_in {t} {r} {k} {f} {e} {children} {rows} w l =
    let q : word t r 4 ≡ rows = w.subtree in
    record { here = omega (arith, w.room); room = rw q w.room }

placed_string : (s : List ℕ) (n : Node) (f e : ℕ) → n ≡ scalar Quoted f e → Placed s n → IsQuoted s f e
placed_string s n f e q p = (rw q at p).2

module _ {s t : List ℕ} {r : ℕ} (w : Rowed s t r) where
  pub row : Row t r (kind_of w.tree) (place_of w.tree) (end_of w.tree) (children_of w.tree) (size w.tree)
  row = row_of t r w.tree w.holds

  pub in_table : InTable t r
  in_table = row_in row (size_pos w.tree)

  -- by the kind that the row says
  pub string_row : word t r 0 ≡ 6 → w.tree ≡ scalar Quoted (word t r 1) (word t r 2)
  string_row h = string_kind w.tree (sym row.kind ∙ h) ∙ rw (row.first, row.last)

  pub array_row : word t r 0 ≡ 7 → w.tree ≡ array (word t r 1) (word t r 2) (elements_in w.tree)
  array_row h = array_kind w.tree (sym row.kind ∙ h) ∙ rw (row.first, row.last)

  pub object_row : word t r 0 ≡ 8 → w.tree ≡ object (word t r 1) (word t r 2) (members_in w.tree)
  object_row h = object_kind w.tree (sym row.kind ∙ h) ∙ rw (row.first, row.last)

  pub string_quoted : word t r 0 ≡ 6 → IsQuoted s (word t r 1) (word t r 2)
  string_quoted h = placed_string s w.tree (word t r 1) (word t r 2) (string_row h) w.placed

  -- the row behind the subtree stands in the table, or at its end
  pub row_behind : {r' : ℕ} → r' ≡ r + word t r 4 → row_words * r' ≤ length t
  row_behind q = omega (arith, in_table.room)

  -- the same of the row that was read
  module _ {x : Record} (p : Reads t r x) where
    pub kind_read : x.kind ≡ kind_of w.tree
    kind_read = p.kind ∙ row.kind

    pub place_read : x.first ≡ place_of w.tree
    place_read = p.first ∙ row.first

    pub string_read : x.kind ≡ 6 → w.tree ≡ scalar Quoted x.first x.end
    string_read h = string_row (sym p.kind ∙ h) ∙ rw (p.first, p.last)

-- ---- one tree at most

pub same_tree : {s t : List ℕ} {r : ℕ} (w v : Rowed s t r) → w.tree ≡ v.tree
same_tree {s} {t} {r} w v = holds_same t r w.tree v.tree w.holds v.holds

-- an object, as a value of any kind
abbrev pub as_row : {s t : List ℕ} {r : ℕ} → ObjectRow s t r → Rowed s t r
as_row o = record { tree = object o.first o.end o.members; holds = o.holds; placed = o.placed }

pub row_object : {s t : List ℕ} {r : ℕ} (w : Rowed s t r) (o : ObjectRow s t r) → w.tree ≡ object o.first o.end o.members
row_object w o = same_tree w (as_row o)

pub same_members : {s t : List ℕ} {r : ℕ} (o p : ObjectRow s t r) → o.members ≡ p.members
same_members o p = ap members_in (same_tree (as_row o) (as_row p))

-- a value whose row says that it is an object
abbrev pub as_object : {s t : List ℕ} {r : ℕ} (w : Rowed s t r) → word t r 0 ≡ 8 → ObjectRow s t r
as_object {s} {t} {r} w h = record {
  first = word t r 1;
  end = word t r 2;
  members = members_in w.tree;
  holds = rw (object_row w h) at w.holds;
  placed = rw (object_row w h) at w.placed;
}

-- the same of an array
abbrev pub as_array : {s t : List ℕ} {r : ℕ} (w : Rowed s t r) → word t r 0 ≡ 7 → ArrayRow s t r
as_array {s} {t} {r} w h = record {
  first = word t r 1;
  end = word t r 2;
  elements = elements_in w.tree;
  holds = rw (array_row w h) at w.holds;
  placed = rw (array_row w h) at w.placed;
}

abbrev pub array_as_row : {s t : List ℕ} {r : ℕ} → ArrayRow s t r → Rowed s t r
array_as_row o = record { tree = array o.first o.end o.elements; holds = o.holds; placed = o.placed }

-- the members under "required" or "optional", where there is such a row
abbrev pub part_object : {s t : List ℕ} {r : Option ℕ} (p : PartRow s t r) {o : ℕ} → r ≡ Some o → ObjectRow s t o
part_object p e = record {
  first = (p.present e).0;
  end = (p.present e).1;
  members = p.members;
  holds = (p.present e).2;
  placed = (p.present e).3;
}

pub same_part : {s t : List ℕ} {r : Option ℕ} (o p : PartRow s t r) → o.members ≡ p.members
same_part {r = None} o p = o.absent refl ∙ sym (p.absent refl)
same_part {r = Some r} o p = same_members (part_object o refl) (part_object p refl)
