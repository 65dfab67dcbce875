-- For private contracts: a row of a table, as the code reads it, and the values that stand at rows.
use Rattle.std.specs.Prelude.{ℕ, ◌+◌, ◌*◌, ◌≤◌, ◌≡◌, List, length, Option, Some, None}
use Rattle.syntax.specs.Tree.{Node, array, object, Nodes, Members, no_member}
use Rattle.syntax.specs.Rows.{row_words}
use Rattle.syntax.specs.Holding.{word, Holds, Placed}
use Rattle.rows.specs.declared.records.Record.{Record}

-- a row lies in the table, and so do the rows of its subtree
pub record InTable (t : List ℕ) (r : ℕ) : Type 0 where
  pub here : row_words * (r + 1) ≤ length t
  pub room : row_words * (r + word t r 4) ≤ length t

-- a row as the code holds it; the next sibling stands behind its subtree
pub record Reads (t : List ℕ) (r : ℕ) (x : Record) : Type 0 where
  pub kind : x.kind ≡ word t r 0
  pub first : x.first ≡ word t r 1
  pub last : x.end ≡ word t r 2
  pub children : x.children ≡ word t r 3
  pub next : x.next ≡ r + word t r 4

-- a value of the text s at row r of the table t
pub record Rowed (s t : List ℕ) (r : ℕ) : Type 0 where
  pub tree : Node
  pub holds : Holds t r tree
  pub placed : Placed s tree

-- an object there
pub record ObjectRow (s t : List ℕ) (r : ℕ) : Type 0 where
  pub first : ℕ
  pub end : ℕ
  pub members : Members
  pub holds : Holds t r (object first end members)
  pub placed : Placed s (object first end members)

-- an array there
pub record ArrayRow (s t : List ℕ) (r : ℕ) : Type 0 where
  pub first : ℕ
  pub end : ℕ
  pub elements : Nodes
  pub holds : Holds t r (array first end elements)
  pub placed : Placed s (array first end elements)

-- the members under "required" or "optional", by the row of their object, where there is one
pub record PartRow (s t : List ℕ) (r : Option ℕ) : Type 0 where
  pub members : Members
  pub absent : r ≡ None → members ≡ no_member
  pub present : {o : ℕ} → r ≡ Some o → (f : ℕ) × (e : ℕ) × Holds t o (object f e members) × Placed s (object f e members)
