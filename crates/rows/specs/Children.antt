-- For private contracts: going through the children of an object or an array, row by row.
use Rattle.std.specs.Prelude.{ℕ, zero, suc, ◌+◌, ◌-◌, ◌<◌, ◌≡◌, List, Option, MatchOption}
use Rattle.syntax.specs.Holding.{word}
use Rattle.rows.specs.Records.{InTable}
use Rattle.rows.specs.declared.children.Children.{Children}

-- `left` children lie in the table, the first at row r; the value is k rows behind, where its name is
abbrev pub InTableAll : ℕ → List ℕ → ℕ → ℕ → Type 0
InTableAll k t r zero = Unit {0}
InTableAll k t r (suc left) = InTable t (r + k) × InTableAll k t (r + k + word t (r + k) 4) left

module _ {k : ℕ} where
  -- the children that are left lie in the table
  abbrev pub Ahead : Children k → Type 0
  Ahead c = InTableAll k c.tree.table.now c.row c.left

  -- the next of the children c is at row r, and d are the others
  pub record Passes (c : Children k) (r : ℕ) (d : Children k) : Type 0 where
    pub some : 0 < c.left
    pub is : r ≡ c.row
    pub table : d.tree.table.now ≡ c.tree.table.now
    pub row : d.row ≡ c.row + k + word c.tree.table.now (c.row + k) 4
    pub left : d.left ≡ c.left - 1

  -- the next of c, where there is one
  abbrev pub Gives : Children k → Option ℕ → Children k → Type 0
  Gives c r d = MatchOption r (c.left ≡ 0) (λ x. Passes c x d)

  -- all children of the value at row r
  pub record Begins (t : List ℕ) (r : ℕ) (c : Children k) : Type 0 where
    pub ahead : Ahead c
    pub table : c.tree.table.now ≡ t
    pub row : c.row ≡ r + 1
    pub left : c.left ≡ word t r 3
