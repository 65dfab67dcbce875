-- `value_at` meets its contract. Invariant: the first row from here on is the first of all.
use mathlib.Core.Path.{◌≡◌}
use Prim.Native.Nat.{◌-◌}
use Rattle.schema.specs.Climbing.{first_at}
use Rattle.schema.proofs.paths.value_at.Given as goal

abbrev pub invariant-loop-row : goal.invariant-loop-row
invariant-loop-row l = first_at l.table l.place 0 l.rows ≡ first_at l.table l.place l.row (l.rows - l.row)
