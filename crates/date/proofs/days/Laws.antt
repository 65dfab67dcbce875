-- The days before a day, on plain values: they are few.
use mathlib.Core.Path.{◌≡◌}
use mathlib.Core.Bool.{true}
use Prim.Native.Nat.{ℕ, ◌+◌, ◌-◌, ◌≤◌}
use Rattle.model.specs.Calendar.{on, in_calendar, first_years, first_months, day_count}
use Rattle.model.proofs.DayNumbers.{count_most}

pub count_few :
    (y m d : ℕ) → in_calendar (on y m d) ≡ true → y ≤ 9999 → first_years y + first_months y (m - 1) + (d - 1) ≤ 3652424
unfolding day_count
count_few y m d h few = count_most y m d h few
