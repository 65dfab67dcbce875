-- For private contracts: bytes that are put into a buffer from a place on, and a step from a value of a text to one inside it, by rows.
use Rattle.std.specs.Prelude.{ℕ, ◌+◌, ◌≤◌, ◌≡◌, ◌⊎◌, List, [], ◌∷◌, length}
use Rattle.std.proofs.lemmas.List.Edits.{sets}
use Rattle.syntax.specs.Tree.{Node, array, object, Nodes, more, Members, member}
use Rattle.syntax.specs.Rows.{size}
use Rattle.syntax.specs.Grammar.{name_of}
use Rattle.syntax.specs.Holding.{Holds, HoldsAll, Placed}
use Rattle.schema.specs.Paths.{Path, paths}
use Rattle.rows.specs.Records.{Rowed}
use Rattle.explain.specs.Pointers.{name_token, index_token, Pointer, pointers, fitted}

-- ---- bytes in a buffer

-- the bytes w are put from place i on, as far as they lie in the buffer, and r is the place behind them
pub record Puts (w : List ℕ) (i r : ℕ) (out out₂ : List ℕ) : Type 0 where
  pub next : r ≡ i + length w
  pub holds : out₂ ≡ sets out i w

-- places from which on a token can be put, and a byte of it, so that no sum wraps
abbrev pub near : ℕ
near = 0x100000000000000

abbrev pub far : ℕ
far = 0x1000000000000000

-- ---- steps from a value to one that stands in it

-- of elements from row r on, the first with the index i: m has the index j and stands at row c
pub data ElementAt : ℕ → ℕ → Nodes → ℕ → ℕ → Node → Type 0 where
  element_first : {i r : ℕ} {n : Node} {ns : Nodes} → ElementAt i r (more n ns) i r n
  element_later : {i r j c : ℕ} {n m : Node} {ns : Nodes} → ElementAt (i + 1) (r + size n) ns j c m → ElementAt i r (more n ns) j c m

-- of members from row r on: m stands at row c, and its name from f to e of the text
pub data MemberAt : ℕ → Members → ℕ → ℕ → ℕ → Node → Type 0 where
  member_first : {r f e : ℕ} {n : Node} {ms : Members} → MemberAt r (member f e n ms) f e (r + 1) n
  member_later : {r g h f e c : ℕ} {n m : Node} {ms : Members} → MemberAt (r + 1 + size n) ms f e c m → MemberAt r (member g h n ms) f e c m

-- in the value at row r, another stands at row c, and w is its token
pub data StepTo (s : List ℕ) : ℕ → Node → ℕ → Node → List ℕ → Type 0 where
  to_element : {r f e j c : ℕ} {ns : Nodes} {m : Node} → ElementAt 0 (r + 1) ns j c m → StepTo s r (array f e ns) c m (index_token j)
  to_member : {r f e g h c : ℕ} {ms : Members} {m : Node} → MemberAt (r + 1) ms g h c m → StepTo s r (object f e ms) c m (name_token (name_of s g h))

-- ---- contracts

-- the element at row c in the array at row r
pub record ElementRow (t : List ℕ) (r c : ℕ) : Type 0 where
  pub elements : Nodes
  pub holds : HoldsAll t (r + 1) elements
  pub index : ℕ
  pub value : Node
  pub is : ElementAt 0 (r + 1) elements index c value

-- its index is i
pub record Counts (t : List ℕ) (r c i : ℕ) : Type 0 where
  pub tells : (d : ElementRow t r c) → i ≡ d.index

-- the value at row c in the array or object at row r
pub record StepRow (s t : List ℕ) (r c : ℕ) : Type 0 where
  pub around : Rowed s t r
  pub value : Node
  pub token : List ℕ
  pub is : StepTo s r around.tree c value token

pub record TokenReady (s t : List ℕ) (r c i : ℕ) : Type 0 where
  pub step : StepRow s t r c
  pub short : length s ≤ 65536
  pub place : i ≤ near

pub record TokenPut (s t : List ℕ) (r c i k : ℕ) (out out₂ : List ℕ) : Type 0 where
  pub tells : (d : StepRow s t r c) → Puts d.token i k out out₂

-- among these, the value at row r has the pointer w
abbrev pub Points : ℕ → List ℕ → List Pointer → Type 0
Points r w [] = ⊥
Points r w (p ∷ ps) = ((r ≡ p.row) × (w ≡ p.bytes)) ⊎ Points r w ps

-- one of these values has the rows `rows`: its own, and then those around it
abbrev pub HasRows : List ℕ → List Path → Type 0
HasRows rows [] = ⊥
HasRows rows (p ∷ ps) = (rows ≡ p.row ∷ p.around) ⊎ HasRows rows ps

-- the table has the rows of a value of the text, and `path` those of one that stands in it
pub record PointerReady (s t path : List ℕ) : Type 0 where
  pub tree : Node
  pub holds : Holds t 0 tree
  pub placed : Placed s tree
  pub short : length s ≤ 65536
  pub has : HasRows path (paths [] 0 tree)

-- what fits of the pointer of that value is written, and k is its length, whether or not it fits
pub record PointerWritten (s t path : List ℕ) (k : ℕ) (out out₂ : List ℕ) : Type 0 where
  pub tells : (n : Node) → Holds t 0 n → (row : ℕ) (around : List ℕ) → path ≡ row ∷ around → (w : List ℕ) → Points row w (pointers s [] 0 n)
      → (k ≡ length w) × (out₂ ≡ fitted w out)
