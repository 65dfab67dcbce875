-- For private contracts: in which year and month a count of days falls, and the day that bytes spell.
use Rattle.std.specs.Prelude.{ℕ, ◌+◌, ◌-◌, ◌≤◌, ◌<◌, ◌≡◌, true, List, length}
use Rattle.model.specs.Calendar.{Day, first_months, first_years}
use Rattle.model.specs.Date.{day_of, is_day}

-- the day with the count n from 0000-01-01 is in the year y
pub record InYear (n y : ℕ) : Type 0 where
  pub small : y ≤ 9999
  pub begins : first_years y ≤ n
  pub ends : n < first_years (y + 1)

-- the day with the count n from the start of the year y is in its month m
pub record InMonth (y n m : ℕ) : Type 0 where
  pub first : 1 ≤ m
  pub last : m ≤ 12
  pub begins : first_months y (m - 1) ≤ n
  pub ends : n < first_months y m

-- the bytes are the day x, as `YYYY-MM-DD`
pub record Spells (x : Day) (bytes : List ℕ) : Type 0 where
  pub long : length bytes ≡ 10
  pub is-day : is_day bytes ≡ true
  pub is : day_of bytes ≡ x
