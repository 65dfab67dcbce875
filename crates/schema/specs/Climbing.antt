-- For private contracts: the row of the value at a place, and the rows from there up to the top.
use Rattle.std.specs.Prelude.{ℕ, zero, suc, ◌+◌, ◌*◌, ◌≤◌, ◌<◌, ◌≡◌, Bool, cond, not, ◌&&◌, List, [], length, eqb, Option, Some, None}
use Rattle.syntax.specs.Tree.{Node}
use Rattle.syntax.specs.Rows.{row_words, size}
use Rattle.syntax.specs.Holding.{word, Holds, Nested}
use Rattle.schema.specs.Paths.{paths, path_to, list_after, Leads}

-- row r is that of a value, and no name's, and begins at the place
abbrev pub begins_at : List ℕ → ℕ → ℕ → Bool
begins_at t place r = not (eqb (word t r 0) 9) && eqb (word t r 1) place

-- the first such row of the k from r on
abbrev pub first_at : List ℕ → ℕ → ℕ → ℕ → Option ℕ
first_at t place r zero = None
first_at t place r (suc k) = cond (begins_at t place r) (Some r) (first_at t place (r + 1) k)

-- a row from which one comes up to the top, with room for the rows on the way
pub record ClimbReady (t : List ℕ) (from : ℕ) (list : List ℕ) : Type 0 where
  pub rows : List ℕ
  pub leads : Leads t from rows
  pub few : length rows ≤ length list
  pub inside : row_words * (from + 1) ≤ length t
  pub small : from < 65536

pub record Climbed (t : List ℕ) (from k : ℕ) (list list₂ : List ℕ) : Type 0 where
  pub tells : (rows : List ℕ) → Leads t from rows → (k ≡ length rows) × (list₂ ≡ list_after rows list)

-- a document's table, and the place of one of its values, with room for the path to it
pub record PathReady (t : List ℕ) (place : ℕ) (list : List ℕ) : Type 0 where
  pub tree : Node
  pub holds : Holds t 0 tree
  pub nested : Nested t 0 0 tree
  pub small : size tree ≤ 65536
  pub found : path_to place (paths [] 0 tree) ≡ [] → ⊥
  pub few : length (path_to place (paths [] 0 tree)) ≤ length list

pub record PathWritten (t : List ℕ) (place k : ℕ) (list list₂ : List ℕ) : Type 0 where
  pub tells : (n : Node) → Holds t 0 n → (k ≡ length (path_to place (paths [] 0 n))) × (list₂ ≡ list_after (path_to place (paths [] 0 n)) list)
