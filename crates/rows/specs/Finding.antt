-- For private contracts: the value under a name in an object, and its row.
use Rattle.std.specs.Prelude.{ℕ, ◌<◌, cond, List, Option, Some, None}
use Rattle.model.specs.Text.{same}
use Rattle.syntax.specs.Tree.{Node, Members, no_member, member}
use Rattle.syntax.specs.Grammar.{name_of}
use Rattle.syntax.specs.Holding.{Holds}
use Rattle.rows.specs.Records.{ObjectRow}

-- the value under the name k
abbrev pub lookup : List ℕ → List ℕ → Members → Option Node
lookup s k no_member = None
lookup s k (member f e n ms) = cond (same k (name_of s f e)) (Some n) (lookup s k ms)

-- the row that stands for it
abbrev pub Agrees : List ℕ → Option ℕ → Option Node → Type 0
Agrees t None None = Unit {0}
Agrees t None (Some n) = ⊥
Agrees t (Some r) None = ⊥
Agrees t (Some r) (Some n) = (0 < r) × Holds t r n

-- v is the row of the value under the name `key` in the object at row r
pub record Finds (s t : List ℕ) (r : ℕ) (key : List ℕ) (v : Option ℕ) : Type 0 where
  pub tells : (o : ObjectRow s t r) → Agrees t v (lookup s key o.members)
