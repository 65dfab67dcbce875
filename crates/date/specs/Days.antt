-- Days by number: the one that a string begins with, and the text of one.
use Rattle.std.specs.Prelude.{ℕ, ◌≡◌, Bool, true, false, cond, ◌&&◌, List, ℤ, Option, Some, None, length}
use Rattle.std.specs.Int.Signed.{le_z}
use Rattle.model.specs.Calendar.{on, day_count, day_number}
use Rattle.model.specs.Date.{day_of, is_day}

-- the days from 0000-01-01 to the day that is written at the start of a string
abbrev pub written_day : List ℕ → Option ℕ
written_day l = cond (is_day l) (Some (day_count (day_of l))) None

-- a day of the years 0000 to 9999 has this number
abbrev pub is_day_number : ℤ → Bool
is_day_number z = le_z (day_number (on 0 1 1)) z && le_z z (day_number (on 9999 12 31))

-- the bytes are the day with this number, as `YYYY-MM-DD`, and nothing else
pub record WritesDay (z : ℤ) (bytes : List ℕ) : Type 0 where
  pub long : length bytes ≡ 10
  pub is-day : is_day bytes ≡ true
  pub number : day_number (day_of bytes) ≡ z

-- the text is that day, where there is one
abbrev pub DayText : ℤ → Option (List ℕ) → Type 0
DayText z (Some bytes) = (is_day_number z ≡ true) × WritesDay z bytes
DayText z None = is_day_number z ≡ false
