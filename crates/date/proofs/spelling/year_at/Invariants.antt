-- `date::spelling::year_at` meets its contract. The loop's invariant: the year begins with the count or before it, and is at most 9999;
-- the measure is how many are left.
use Prim.Native.Nat.{◌-◌, ◌≤◌}
use Rattle.model.specs.Calendar.{first_years}
use Rattle.date.proofs.spelling.year_at.Given as goal

abbrev pub invariant-loop-year : goal.invariant-loop-year
invariant-loop-year l = (l.year ≤ 9999) × (first_years l.year ≤ l.count)

abbrev pub decreases-loop-year : goal.decreases-loop-year
decreases-loop-year l = 10000 - l.year
