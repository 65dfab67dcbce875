-- The rows of a value (01, "Rows"; 02, L11).
use Rattle.std.specs.Prelude.{ℕ, suc, ◌+◌, List, [], ◌∷◌, ◌++◌}
use Rattle.tokens.specs.Tokens.{kind_number}
use Rattle.syntax.specs.Tree.{Node, scalar, array, object, Nodes, none, more, Members, no_member, member}

-- "Five words: kind, first byte, byte after the last, direct children (members or elements), rows of the whole subtree with its own."
pub record Entry : Type 0 where
  pub kind : ℕ
  pub first : ℕ
  pub end : ℕ
  pub children : ℕ
  pub rows : ℕ

abbrev pub entry : ℕ → ℕ → ℕ → ℕ → ℕ → Entry
entry k f e children rows = record { kind = k; first = f; end = e; children = children; rows = rows }

-- direct children: elements, or members
abbrev pub count : Nodes → ℕ
count none = 0
count (more n ns) = suc (count ns)

abbrev pub count_members : Members → ℕ
count_members no_member = 0
count_members (member f e n ms) = suc (count_members ms)

-- "One row for each value and each member name"
abbrev mutual
  pub size : Node → ℕ
  size (scalar k f e) = 1
  size (array f e ns) = suc (sizes ns)
  size (object f e ms) = suc (sizes_members ms)

  pub sizes : Nodes → ℕ
  sizes none = 0
  sizes (more n ns) = size n + sizes ns

  pub sizes_members : Members → ℕ
  sizes_members no_member = 0
  sizes_members (member f e n ms) = suc (size n + sizes_members ms)

-- "in order of their first bytes"; kinds 7 array, 8 object, 9 name
abbrev mutual
  pub entries : Node → List Entry
  entries (scalar k f e) = entry (kind_number k) f e 0 1 ∷ []
  entries (array f e ns) = entry 7 f e (count ns) (suc (sizes ns)) ∷ entries_all ns
  entries (object f e ms) = entry 8 f e (count_members ms) (suc (sizes_members ms)) ∷ entries_members ms

  pub entries_all : Nodes → List Entry
  entries_all none = []
  entries_all (more n ns) = entries n ++ entries_all ns

  pub entries_members : Members → List Entry
  entries_members no_member = []
  entries_members (member f e n ms) = entry 9 f e 0 1 ∷ (entries n ++ entries_members ms)

-- L11: "the row number of the array or object that it stands in", for each row of a value that stands at row r, in that of row p. A member's
-- name and its value both stand in the object.
abbrev mutual
  pub parents : ℕ → ℕ → Node → List ℕ
  parents p r (scalar k f e) = p ∷ []
  parents p r (array f e ns) = p ∷ parents_all r (r + 1) ns
  parents p r (object f e ms) = p ∷ parents_members r (r + 1) ms

  pub parents_all : ℕ → ℕ → Nodes → List ℕ
  parents_all p r none = []
  parents_all p r (more n ns) = parents p r n ++ parents_all p (r + size n) ns

  pub parents_members : ℕ → ℕ → Members → List ℕ
  parents_members p r no_member = []
  parents_members p r (member f e n ms) = p ∷ (parents p (r + 1) n ++ parents_members p (r + 1 + size n) ms)

-- ---- the words

-- L11: "each row gains a sixth word"
abbrev pub row_words : ℕ
row_words = 6

abbrev pub row : Entry → ℕ → List ℕ
row x parent = x.kind ∷ x.first ∷ x.end ∷ x.children ∷ x.rows ∷ parent ∷ []

-- row by row
abbrev pub lay_out : List Entry → List ℕ → List ℕ
lay_out [] ps = []
lay_out (x ∷ xs) [] = []
lay_out (x ∷ xs) (p ∷ ps) = row x p ++ lay_out xs ps

-- "the top has 0"
abbrev pub words : Node → List ℕ
words n = lay_out (entries n) (parents 0 0 n)
