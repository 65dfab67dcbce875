-- The text of a day, on plain values: the year and the month of its count, its digits, and its number. A signed number is read back
-- through its bits.
use Prim.Native.Nat.{ℕ, ◌+◌, ◌*◌, ◌-◌, ◌/◌, ◌%◌, ◌≤◌, ◌<◌}
use mathlib.Core.Path.{◌≡◌, refl, sym, ap, subst, ◌∙◌}
use mathlib.Core.Bool.{true, ◌&&◌}
use mathlib.Core.List.{List, [], ◌∷◌}
use native.Mathlib.Omega.{arith}
use lib.IntN.{ℤ, pos, negsuc, sub_ℕ, ◌-ℤ◌}
use lib.Signed.{◌≤ℤ◌}
use Rattle.std.proofs.lemmas.Int.{ints}
use borrow.Author.Tests.{le-leb}
use Rattle.model.specs.Value.{is_digit}
use Rattle.model.specs.Calendar.{Day, on, in_calendar, first_years, first_months, day_count}
use Rattle.model.specs.Date.{day_of}
use Rattle.model.proofs.Days.{on_calendar}
use Rattle.model.proofs.Differences.{sub_back}
use Rattle.model.proofs.DayNumbers.{days_most, year_days, day_at_in, day_at_count}
use Rattle.model.proofs.DayNumbers.{number_count, least_number, greatest_number}
use Rattle.date.specs.Days.{is_day_number, WritesDay}
use Rattle.date.specs.Spelling.{InYear, InMonth, Spells}

-- ---- digits

-- the bytes a and b are the last two digits of n
abbrev Pair : ℕ → ℕ → ℕ → Type 0
Pair n a b = (a ≡ 0x30 + n / 10 % 10) × (b ≡ 0x30 + n % 10)

module _ (n a b : ℕ) (p : Pair n a b) where
  pair_digits : (is_digit a && is_digit b) ≡ true
  pair_digits =
      rw (le-leb 0x30 a (omega arith), le-leb a 0x39 (omega arith), le-leb 0x30 b (omega arith), le-leb b 0x39 (omega arith))

  pair_number : 10 * (a - 0x30) + (b - 0x30) ≡ n % 100
  pair_number = omega arith

-- a day of the calendar
module _ (y m d : ℕ) (h : in_calendar (on y m d) ≡ true) (small : y ≤ 9999) where
  module _ (a b c e f g i j : ℕ) (p : Pair (y / 100) a b) (q : Pair y c e) (r : Pair m f g) (s : Pair d i j) where
    abbrev bytes : List ℕ
    bytes = a ∷ b ∷ c ∷ e ∷ 0x2D ∷ f ∷ g ∷ 0x2D ∷ i ∷ j ∷ []

    spelled_day : day_of bytes ≡ on y m d
    spelled_day =
        let k = on_calendar y m d h in
        let year : 100 * (y / 100 % 100) + y % 100 ≡ y = omega arith in
        let month : m % 100 ≡ m = omega (arith, k.month_last) in
        let day : d % 100 ≡ d = omega (arith, k.day_last, days_most y m) in
        rw (pair_number (y / 100) a b p, pair_number y c e q, pair_number m f g r, pair_number d i j s, year, month, day)

    pub spells : Spells (on y m d) bytes
    spells = record {
      long = refl;
      is-day = rw (pair_digits (y / 100) a b p, pair_digits y c e q, pair_digits m f g r, pair_digits d i j s)
          (subst (λ (x : Day). in_calendar x ≡ true) (sym spelled_day) h);
      is = spelled_day;
    }

-- ---- the day with the count n; a days are before its year y, and b days of that are before its month m

module _ (n y : ℕ) (year : InYear n y) (a : ℕ) (p : a ≡ first_years y) where
  pub days_left : n - a < first_months y 12
  days_left = rw p (year_days y n year.begins year.ends)

  module _ (m : ℕ) (month : InMonth y (n - a) m) (b : ℕ) (q : b ≡ first_months y (m - 1)) where
    pub day_in : in_calendar (on y m (n - a - b + 1)) ≡ true
    day_in = rw q (day_at_in y m (n - a) month.first month.last month.begins month.ends)

    pub count_back : day_count (on y m (n - a - b + 1)) ≡ n
    count_back = rw q (day_at_count y m (n - a) month.first month.last month.begins month.ends ∙ omega (arith, year.begins))

-- ---- the number z

-- of a day that is spelled
pub writes : (x : Day) (l : List ℕ) (z : ℤ) → Spells x l → pos (day_count x) -ℤ pos 719528 ≡ z → WritesDay z l
writes x l z s e = record {
  long = s.long;
  is-day = s.is-day;
  number = number_count (day_of l) ∙ ap (λ (k : ℕ). sub_ℕ k 719528) (ap day_count s.is) ∙ sym (sub_back (day_count x) 719528) ∙ e;
}

-- of a day of the years 0000 to 9999
pub is_number : (z : ℤ) → negsuc 719527 ≤ℤ z → z ≤ℤ pos 2932896 → is_day_number z ≡ true
is_number z least greatest = rw (least_number, greatest_number) (grind (arith, ints))
