-- `date::spelling::month_at` meets its contract. The loop's invariant: the month begins with the count or before it, and is one of 1 to 12;
-- the measure is how many are left.
use Prim.Native.Nat.{◌-◌, ◌≤◌}
use Rattle.model.specs.Calendar.{first_months}
use Rattle.date.proofs.spelling.month_at.Given as goal

abbrev pub invariant-loop-month : goal.invariant-loop-month
invariant-loop-month l = (1 ≤ l.month) × (l.month ≤ 12) × (first_months l.year (l.month - 1) ≤ l.count)

abbrev pub decreases-loop-month : goal.decreases-loop-month
decreases-loop-month l = 13 - l.month
