-- The parts of what is written like a date: which they are, and how great their numbers.
use Prim.Native.Nat.{ℕ, ◌+◌, ◌≤◌, ◌<◌}
use mathlib.Core.Path.{◌≡◌}
use mathlib.Core.Bool.{Bool, true, ◌&&◌, ◌||◌}
use mathlib.Core.List.{List}
use native.Mathlib.Omega.{arith}
use lib.Dec.{leb, eqb}
use lib.ListN.{length, drop}
use borrow.Author.Tests.{leb-true}
use Rattle.model.specs.Value.{is_digit}
use Rattle.model.specs.Calendar.{in_calendar}
use Rattle.model.specs.Date.{at, two_digits, two, day_of, is_day, is_clock, minutes, is_offset, is_end, offset, behind_utc, is_written}
use Rattle.model.proofs.Basics.{and_ways, both}

-- a digit, and a number of two
pub digit_range : (x : ℕ) → is_digit x ≡ true → (0x30 ≤ x) × (x ≤ 0x39)
digit_range x t = and_ways (leb 0x30 x) (leb x 0x39) t (λ a b. (leb-true 0x30 x a, leb-true x 0x39 b))

pub two_range : (s : List ℕ) (i : ℕ) → two_digits s i ≡ true → two s i ≤ 99
two_range s i t = and_ways (is_digit (at s i)) (is_digit (at s (i + 1))) t (λ a b. omega (arith, digit_range (at s i) a, digit_range (at s (i + 1)) b))

-- a time and an offset have less than a day
pub clock_less : (s : List ℕ) (i : ℕ) → is_clock s i ≡ true → minutes s i < 1440
clock_less s i h =
    let digits = two_digits s i && eqb (at s (i + 2)) 0x3A && two_digits s (i + 3) in
    and_ways (digits && leb (two s i) 23) (leb (two s (i + 3)) 59) h (λ f m.
    and_ways digits (leb (two s i) 23) f (λ _ n. omega (arith, leb-true (two s i) 23 n, leb-true (two s (i + 3)) 59 m)))

pub offset_less : (c : ℕ) (z : List ℕ) → offset c z < 1440
offset_less c z = both (λ (n : ℕ). n < 1440) (is_offset c z)
    (λ h. and_ways (eqb (at z 0) c && is_clock z 1) (eqb (length z) 6) h (λ f _.
    and_ways (eqb (at z 0) c) (is_clock z 1) f (λ _ k. clock_less z 1 k)))
    (λ _. omega arith)

-- the calendar has the day that is written, and its year has four digits
module _ (s : List ℕ) (h : is_day s ≡ true) where
  abbrev year : Bool
  year = two_digits s 0 && two_digits s 2

  pub day_in : in_calendar (day_of s) ≡ true
  day_in =
      and_ways (year && eqb (at s 4) 0x2D && two_digits s 5 && eqb (at s 7) 0x2D && two_digits s 8) (in_calendar (day_of s)) h (λ _ f. f)

  pub year_most : (day_of s).year ≤ 9999
  year_most =
      and_ways (year && eqb (at s 4) 0x2D && two_digits s 5 && eqb (at s 7) 0x2D && two_digits s 8) (in_calendar (day_of s)) h (λ a _.
      and_ways (year && eqb (at s 4) 0x2D && two_digits s 5 && eqb (at s 7) 0x2D) (two_digits s 8) a (λ b _.
      and_ways (year && eqb (at s 4) 0x2D && two_digits s 5) (eqb (at s 7) 0x2D) b (λ c _.
      and_ways (year && eqb (at s 4) 0x2D) (two_digits s 5) c (λ d _.
      and_ways year (eqb (at s 4) 0x2D) d (λ e _.
      and_ways (two_digits s 0) (two_digits s 2) e (λ f g. omega (arith, two_range s 0 f, two_range s 2 g)))))))

-- how far a zone is behind UTC, and a day more, is less than two days, and never nothing
pub behind_range : (z : List ℕ) → (0 < behind_utc z) × (behind_utc z < 2880)
behind_range z =
    let a = offset_less 0x2B z in
    let b = offset_less 0x2D z in
    (omega (arith, a, b), omega (arith, a, b))

-- the day and the time
module _ (s : List ℕ) (w : is_written s ≡ true) where
  abbrev letter : Bool
  letter = eqb (at s 10) 0x54 || eqb (at s 10) 0x74

  pub day_time : (is_day s ≡ true) × (is_clock s 11 ≡ true)
  day_time =
      and_ways (is_day s && letter && is_clock s 11 && eqb (at s 16) 0x3A && two_digits s 17) (is_end (drop 19 s)) w (λ a _.
      and_ways (is_day s && letter && is_clock s 11 && eqb (at s 16) 0x3A) (two_digits s 17) a (λ b _.
      and_ways (is_day s && letter && is_clock s 11) (eqb (at s 16) 0x3A) b (λ c _.
      and_ways (is_day s && letter) (is_clock s 11) c (λ d time.
      and_ways (is_day s) letter d (λ day _. (day, time))))))
