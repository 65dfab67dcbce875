-- The seconds of a minute, on plain values.
use mathlib.Core.Path.{◌≡◌}
use mathlib.Core.Bool.{true}
use Rattle.model.specs.Calendar.{Day, in_calendar, day_before}
use Rattle.model.specs.Date.{ends_half}
use Rattle.model.proofs.Days.{starts_half, eve as on_eve}

-- the day after 30 June or 31 December
pub eve : (x : Day) → in_calendar x ≡ true → ends_half (day_before x) ≡ starts_half x
eve x h = on_eve x.year x.month x.day h
