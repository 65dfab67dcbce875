-- The Gregorian calendar (01, "Dates"), and its days by number (02, L3).
use Rattle.std.specs.Prelude.{ℕ, zero, suc, ◌+◌, ◌-◌, ◌%◌, Bool, not, cond, ◌&&◌, ◌||◌, leb, ltb, eqb, ℤ, pos, ◌-ℤ◌}

-- "29 February in years divisible by 4 but not 100, or by 400"
abbrev pub is_leap : ℕ → Bool
is_leap y = eqb (y % 400) 0 || (eqb (y % 4) 0 && not (eqb (y % 100) 0))

-- "days by the Gregorian month"
abbrev pub days_in : ℕ → ℕ → ℕ
days_in y m = cond (eqb m 2) (cond (is_leap y) 29 28) (cond (eqb m 4 || eqb m 6 || eqb m 9 || eqb m 11) 30 31)

-- a day of the calendar, `YYYY-MM-DD`
pub record Day : Type 0 where
  pub year : ℕ
  pub month : ℕ
  pub day : ℕ

-- the day with these numbers
abbrev pub on : ℕ → ℕ → ℕ → Day
on y m d = record { year = y; month = m; day = d }

-- "months 01 to 12, days by the Gregorian month"
abbrev pub in_calendar : Day → Bool
in_calendar x = leb 1 x.month && leb x.month 12 && leb 1 x.day && leb x.day (days_in x.year x.month)

-- the day before: of the same month, or the last of the month before. Years begin with 0000, so the one before it is 0000 here too:
-- "At the year's ends only month and day matter" (02, L2)
unfoldable pub day_before : Day → Day
day_before x =
    cond (ltb 1 x.day) (on x.year x.month (x.day - 1))
    (cond (ltb 1 x.month) (on x.year (x.month - 1) (days_in x.year (x.month - 1))) (on (x.year - 1) 12 31))

-- the day after: of the same month, or the first of the next
unfoldable pub day_after : Day → Day
day_after x =
    cond (ltb x.day (days_in x.year x.month)) (on x.year x.month (x.day + 1))
    (cond (ltb x.month 12) (on x.year (x.month + 1) 1) (on (x.year + 1) 1 1))

-- the days of the first m months of a year
unfoldable pub first_months : ℕ → ℕ → ℕ
first_months y zero = 0
first_months y (suc m) = first_months y m + days_in y (suc m)

-- the days of the years from 0000 to the one before a year
unfoldable pub first_years : ℕ → ℕ
first_years zero = 0
first_years (suc y) = first_years y + first_months y 12

-- the days from 0000-01-01 to a day
unfoldable pub day_count : Day → ℕ
day_count x = first_years x.year + first_months x.year (x.month - 1) + (x.day - 1)

-- the days from 1970-01-01 to a day, negative before it
unfoldable pub day_number : Day → ℤ
day_number x = pos (day_count x) -ℤ pos (day_count (on 1970 1 1))
