-- A table that holds a tree from a row on, and a tree that lies in a text: what the crates above walk by.
use Rattle.std.specs.Prelude.{ℕ, suc, ◌+◌, ◌*◌, ◌≤◌, ◌<◌, ◌≡◌, List, length, get_or}
use Rattle.tokens.specs.Tokens.{kind_number}
use Rattle.tokens.specs.Spelling.{IsQuoted, Spells}
use Rattle.syntax.specs.Tree.{Node, scalar, array, object, Nodes, none, more, Members, no_member, member}
use Rattle.syntax.specs.Rows.{row_words, count, count_members, size, sizes, sizes_members}

-- a word of a row
abbrev pub word : List ℕ → ℕ → ℕ → ℕ
word t r i = get_or t (row_words * r + i) 0

-- row r of the table t has this entry's words, and the subtree's rows lie in the table
pub record Row (t : List ℕ) (r k f e children rows : ℕ) : Type 0 where
  pub kind : word t r 0 ≡ k
  pub first : word t r 1 ≡ f
  pub last : word t r 2 ≡ e
  pub direct : word t r 3 ≡ children
  pub subtree : word t r 4 ≡ rows
  pub room : row_words * (r + rows) ≤ length t

-- the children of row r start at r + 1, and the next sibling stands behind a child's rows
abbrev mutual
  pub Holds : List ℕ → ℕ → Node → Type 0
  Holds t r (scalar k f e) = Row t r (kind_number k) f e 0 1
  Holds t r (array f e ns) = Row t r 7 f e (count ns) (suc (sizes ns)) × HoldsAll t (r + 1) ns
  Holds t r (object f e ms) = Row t r 8 f e (count_members ms) (suc (sizes_members ms)) × HoldsMembers t (r + 1) ms

  pub HoldsAll : List ℕ → ℕ → Nodes → Type 0
  HoldsAll t r none = Unit
  HoldsAll t r (more n ns) = Holds t r n × HoldsAll t (r + size n) ns

  pub HoldsMembers : List ℕ → ℕ → Members → Type 0
  HoldsMembers t r no_member = Unit
  HoldsMembers t r (member f e n ms) = Row t r 9 f e 0 1 × Holds t (r + 1) n × HoldsMembers t (r + 1 + size n) ms

-- the value at row r stands in that of row p, and all that stands in it says so too (L11)
abbrev mutual
  pub Nested : List ℕ → ℕ → ℕ → Node → Type 0
  Nested t p r (scalar k f e) = word t r 5 ≡ p
  Nested t p r (array f e ns) = (word t r 5 ≡ p) × NestedAll t r (r + 1) ns
  Nested t p r (object f e ms) = (word t r 5 ≡ p) × NestedMembers t r (r + 1) ms

  pub NestedAll : List ℕ → ℕ → ℕ → Nodes → Type 0
  NestedAll t p r none = Unit
  NestedAll t p r (more n ns) = Nested t p r n × NestedAll t p (r + size n) ns

  pub NestedMembers : List ℕ → ℕ → ℕ → Members → Type 0
  NestedMembers t p r no_member = Unit
  NestedMembers t p r (member f e n ms) = (word t r 5 ≡ p) × Nested t p (r + 1) n × NestedMembers t p (r + 1 + size n) ms

-- every place lies within the text; strings and names have both quotes
abbrev mutual
  pub Placed : List ℕ → Node → Type 0
  Placed s (scalar k f e) = (f < e) × (e ≤ length s) × Spells k s f e
  Placed s (array f e ns) = (f < e) × (e ≤ length s) × PlacedAll s ns
  Placed s (object f e ms) = (f < e) × (e ≤ length s) × PlacedMembers s ms

  pub PlacedAll : List ℕ → Nodes → Type 0
  PlacedAll s none = Unit
  PlacedAll s (more n ns) = Placed s n × PlacedAll s ns

  pub PlacedMembers : List ℕ → Members → Type 0
  PlacedMembers s no_member = Unit
  PlacedMembers s (member f e n ms) = IsQuoted s f e × Placed s n × PlacedMembers s ms
