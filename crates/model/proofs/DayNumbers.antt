-- The numbers of days (02, L3): 1970-01-01 has 0, the day after a day the next. So a later day has a greater one, and each number is one day's.
use Prim.Native.Nat.{ℕ, zero, suc, ◌+◌, ◌*◌, ◌-◌, ◌/◌, ◌%◌, ◌≤◌, ◌<◌}
use mathlib.Core.Path.{◌≡◌, refl, sym, ap, ◌∙◌}
use mathlib.Core.Logic.{◌⊎◌, inl, inr}
use mathlib.Core.Bool.{true, cond, ◌||◌}
use native.Mathlib.Omega.{arith}
use native.Mathlib.Numerals.{add-one}
use native.Mathlib.Decide.{le_ind}
use lib.Dec.{eqb, leb, ltb}
use lib.IntN.{pos, negsuc, neg_ℤ, suc_ℤ, sub_ℕ, ◌-ℤ◌, suc_ℤ-+ℤ, +ℤ_invr}
use lib.Signed.{lt_z}
use borrow.Author.Tests.{eqb-true, eqb-false, leb-true, leb-false, ltb-true, ltb-false}
use Rattle.model.specs.Calendar.{Day, on, is_leap, days_in, in_calendar, day_after, first_months, first_years, day_count, day_number}
use Rattle.model.proofs.Basics.{both, by_test}
use Rattle.model.proofs.Span.{agree}
use Rattle.model.proofs.Differences.{sub_back, sub_lt, sub_same}
use Rattle.model.proofs.Days.{OnCalendar, on_calendar, in_calendar_lem, after_ways}

-- ---- months and years

no_months : (y : ℕ) → first_months y 0 ≡ 0
unfolding first_months
no_months y = refl

month_more : (y m : ℕ) → 1 ≤ m → first_months y m ≡ first_months y (m - 1) + days_in y m
unfolding first_months
month_more y zero h = absurd (omega arith)
month_more y (suc m) h = let e : suc m - 1 ≡ m = omega arith in rw e refl

months_rise : (y m n : ℕ) → m ≤ n → first_months y m ≤ first_months y n
unfolding first_months
months_rise y m n h = le_ind (λ (k : ℕ). first_months y m ≤ first_months y k) (omega arith) (λ k _ e. omega arith) n h

months_all : (y : ℕ) → first_months y 12 ≡ cond (is_leap y) 366 365
unfolding first_months
months_all y = by_test (is_leap y) (λ e. rw e refl) (λ e. rw e refl)

year_more : (y : ℕ) → first_years (y + 1) ≡ first_years y + first_months y 12
unfolding first_years
year_more y = rw (add-one y) refl

years_rise : (y z : ℕ) → y ≤ z → first_years y ≤ first_years z
unfolding first_years
years_rise y z h = le_ind (λ (k : ℕ). first_years y ≤ first_years k) (omega arith) (λ k _ e. omega arith) z h

-- ---- closed forms, for the code

-- months of 30 and 31 days in turn, and what is too many for February
pub months_closed : (y m : ℕ) → 1 ≤ m → m ≤ 13 → first_months y (m - 1) ≡ (367 * m - 362) / 12 - cond (leb m 2) 0 (cond (is_leap y) 1 2)
unfolding first_months
months_closed y m lo hi =
    agree (λ m. (367 * m - 362) / 12 - cond (leb m 2) 0 (cond (is_leap y) 1 2)) (λ m. first_months y (m - 1)) 1 13
    (by_test (is_leap y) (λ e. rw e tt) (λ e. rw e tt)) m lo (omega arith)

-- a leap day in each fourth year from 0000 on, but in a hundredth only where it is a four-hundredth
module _ (y : ℕ) where
  up_4 : y % 4 ≡ 0 → (suc y + 3) / 4 ≡ (y + 3) / 4 + 1
  up_4 h = omega arith

  same_4 : (y % 4 ≡ 0 → ⊥) → (suc y + 3) / 4 ≡ (y + 3) / 4
  same_4 h = omega arith

  up_100 : y % 100 ≡ 0 → (suc y + 99) / 100 ≡ (y + 99) / 100 + 1
  up_100 h = omega arith

  same_100 : (y % 100 ≡ 0 → ⊥) → (suc y + 99) / 100 ≡ (y + 99) / 100
  same_100 h = omega arith

  up_400 : y % 400 ≡ 0 → (suc y + 399) / 400 ≡ (y + 399) / 400 + 1
  up_400 h = omega arith

  same_400 : (y % 400 ≡ 0 → ⊥) → (suc y + 399) / 400 ≡ (y + 399) / 400
  same_400 h = omega arith

  by_100 : y % 400 ≡ 0 → y % 100 ≡ 0
  by_100 h = omega arith

  by_4 : y % 100 ≡ 0 → y % 4 ≡ 0
  by_4 h = omega arith

  enough : (y + 99) / 100 ≤ 365 * y
  enough = omega arith

abbrev closed : ℕ → ℕ
closed y = 365 * y + (y + 3) / 4 + (y + 399) / 400 - (y + 99) / 100

closed_more : (y : ℕ) → closed (suc y) ≡ closed y + cond (is_leap y) 366 365
closed_more y =
    by_test (eqb (y % 400) 0)
    (λ a.
    let h = eqb-true (y % 400) 0 a in
    let k = by_100 y h in
    rw (a, up_4 y (by_4 y k), up_400 y h, up_100 y k) (omega (arith, enough y)))
    (λ a.
    let h = eqb-false (y % 400) 0 a in
    by_test (eqb (y % 4) 0)
    (λ b.
    let k = eqb-true (y % 4) 0 b in
    by_test (eqb (y % 100) 0)
    (λ c. rw (a, b, c, up_4 y k, same_400 y h, up_100 y (eqb-true (y % 100) 0 c)) (omega (arith, enough y)))
    (λ c. rw (a, b, c, up_4 y k, same_400 y h, same_100 y (eqb-false (y % 100) 0 c)) (omega (arith, enough y))))
    (λ b.
    let k = eqb-false (y % 4) 0 b in
    rw (a, b, same_4 y k, same_400 y h, same_100 y (λ l. k (by_4 y l))) (omega (arith, enough y))))

pub years_closed : (y : ℕ) → first_years y ≡ 365 * y + (y + 3) / 4 + (y + 399) / 400 - (y + 99) / 100
unfolding first_years
years_closed zero = refl
years_closed (suc y) = rw (years_closed y, months_all y) (sym (closed_more y))

-- ---- counts from 0000-01-01

pub first_count : day_count (on 1970 1 1) ≡ 719528
unfolding day_count first_months
first_count = rw (years_closed 1970)

-- a day lies within its month, and so within its year
module _ (y m d : ℕ) (c : OnCalendar y m d) where
  in_month : first_months y (m - 1) + (d - 1) < first_months y m
  in_month = omega (arith, month_more y m c.month_first)

  in_year : day_count (on y m d) < first_years (y + 1)
  unfolding day_count
  in_year = omega (arith, in_month, months_rise y m 12 c.month_last, year_more y)

-- no day is after 9999-12-31
pub count_most : (y m d : ℕ) → in_calendar (on y m d) ≡ true → y ≤ 9999 → day_count (on y m d) ≤ 3652424
count_most y m d h k = omega (arith, in_year y m d (on_calendar y m d h), years_rise (y + 1) 10000 (omega arith), years_closed 10000)

pub after_count : (y m d : ℕ) → in_calendar (on y m d) ≡ true → day_count (day_after (on y m d)) ≡ day_count (on y m d) + 1
unfolding day_count
after_count y m d h =
    let c = on_calendar y m d h in
    after_ways (λ (x : Day). day_count x ≡ day_count (on y m d) + 1) y m d c
    (λ _. omega (arith, c.day_first))
    (λ e _. let g : m + 1 - 1 ≡ m = omega arith in rw g (omega (arith, e, c.day_first, month_more y m c.month_first)))
    (λ e f. rw f (omega (arith, rw f at e, c.day_first, month_more y 12 (omega arith), year_more y, no_months (y + 1))))

-- ---- the day with a count

-- no month has more than 31 days, and no year more than 366
pub days_most : (y m : ℕ) → days_in y m ≤ 31
days_most y m = both (λ (n : ℕ). n ≤ 31) (eqb m 2)
    (λ _. both (λ (n : ℕ). n ≤ 31) (is_leap y) (λ _. omega arith) (λ _. omega arith))
    (λ _. both (λ (n : ℕ). n ≤ 31) (eqb m 4 || eqb m 6 || eqb m 9 || eqb m 11) (λ _. omega arith) (λ _. omega arith))

pub months_most : (y m : ℕ) → first_months y m ≤ 31 * m
unfolding first_months
months_most y zero = omega arith
months_most y (suc m) = omega (arith, months_most y m, days_most y (suc m))

pub years_most : (y : ℕ) → first_years y ≤ 366 * y
unfolding first_years
years_most zero = omega arith
years_most (suc y) =
    let all : first_months y 12 ≤ 366 = rw (months_all y) (both (λ (n : ℕ). n ≤ 366) (is_leap y) (λ _. omega arith) (λ _. omega arith)) in
    omega (arith, years_most y)

-- a year that begins by 9999-12-31 is at most 9999, and a month that begins within its year at most 12
pub years_few : (y n : ℕ) → first_years y ≤ n → n ≤ 3652424 → y ≤ 9999
years_few y n h k =
    by_test (leb y 9999) (leb-true y 9999) (λ f. absurd (omega (arith, years_rise 10000 y (leb-false y 9999 f), years_closed 10000)))

pub months_few : (y m n : ℕ) → first_months y (m - 1) ≤ n → n < first_months y 12 → m ≤ 12
months_few y m n h k = by_test (leb m 12) (leb-true m 12) (λ f. absurd (omega (arith, months_rise y 12 (m - 1) (omega (arith, leb-false m 12 f)))))

-- what is left of a count in its year
pub year_days : (y n : ℕ) → first_years y ≤ n → n < first_years (y + 1) → n - first_years y < first_months y 12
year_days y n h k = omega (arith, year_more y)

-- the day with the count n in the year y is in its month m
module _ (y m n : ℕ) (lo : 1 ≤ m) (hi : m ≤ 12) (p : first_months y (m - 1) ≤ n) (q : n < first_months y m) where
  pub day_at_in : in_calendar (on y m (n - first_months y (m - 1) + 1)) ≡ true
  day_at_in = in_calendar_lem y m (n - first_months y (m - 1) + 1)
      (record { month_first = lo; month_last = hi; day_first = omega arith; day_last = omega (arith, month_more y m lo) })

  pub day_at_count : day_count (on y m (n - first_months y (m - 1) + 1)) ≡ first_years y + n
  unfolding day_count
  day_at_count = omega arith

-- ---- day numbers

-- by the count
pub number_count : (x : Day) → day_number x ≡ sub_ℕ (day_count x) 719528
unfolding day_number
number_count x = ap (λ (n : ℕ). pos (day_count x) -ℤ pos n) first_count ∙ sub_back (day_count x) 719528

pub least_number : day_number (on 0 1 1) ≡ negsuc 719527
unfolding day_count first_years first_months
least_number = number_count (on 0 1 1)

pub greatest_number : day_number (on 9999 12 31) ≡ pos 2932896
unfolding day_count first_months
greatest_number = number_count (on 9999 12 31) ∙ rw (years_closed 9999)

pub first_day : day_number (on 1970 1 1) ≡ pos 0
unfolding day_number
first_day = +ℤ_invr (pos (day_count (on 1970 1 1)))

pub next_day : (x : Day) → in_calendar x ≡ true → day_number (day_after x) ≡ suc_ℤ (day_number x)
unfolding day_number
next_day x h =
    let first = pos (day_count (on 1970 1 1)) in
    ap (λ (n : ℕ). pos n -ℤ first) (after_count x.year x.month x.day h ∙ add-one (day_count x)) ∙ suc_ℤ-+ℤ (pos (day_count x)) (neg_ℤ first)

-- x is before z: by the year, in one year by the month, in one month by the day
abbrev pub Before : Day → Day → Type 0
Before x z =
    (x.year < z.year)
    ⊎ ((x.year ≡ z.year) × ((x.month < z.month) ⊎ ((x.month ≡ z.month) × (x.day < z.day))))

pub rises : (x z : Day) → in_calendar x ≡ true → Before x z → day_count x < day_count z
unfolding day_count
rises x z h (inl e) =
    let c = on_calendar x.year x.month x.day h in
    omega (arith, in_year x.year x.month x.day c, years_rise (x.year + 1) z.year (omega arith))
rises x z h (inr (e, inl f)) =
    let c = on_calendar x.year x.month x.day h in
    rw (← e) (omega (arith, in_month x.year x.month x.day c, months_rise x.year x.month (z.month - 1) (omega arith)))
rises x z h (inr (e, inr (f, g))) = rw (← e, ← f) (omega (arith, (on_calendar x.year x.month x.day h).day_first, g))

pub later_day : (x z : Day) → in_calendar x ≡ true → in_calendar z ≡ true → Before x z → lt_z (day_number x) (day_number z) ≡ true
unfolding day_number
later_day x z h _ b = sub_lt (day_count x) (day_count z) (day_count (on 1970 1 1)) (rises x z h b)

-- of two days one is before the other, or they are the same
by_order : {A : Type 0} (x z : Day) → (Before x z → A) → (x ≡ z → A) → (Before z x → A) → A
by_order {A} x z f g h =
    order x.year z.year (λ e. f (inl e))
    (λ e. order x.month z.month (λ k. f (inr (e, inl k)))
    (λ k. order x.day z.day (λ l. f (inr (e, inr (k, l))))
    (λ l. g (λ i. record { year = e i; month = k i; day = l i }))
    (λ l. h (inr (sym e, inr (sym k, l)))))
    (λ k. h (inr (sym e, inl k))))
    (λ e. h (inl e))
  where
    order : (a b : ℕ) → (a < b → A) → (a ≡ b → A) → (b < a → A) → A
    order a b f g h =
        by_test (ltb a b) (λ e. f (ltb-true a b e))
        (λ e. by_test (ltb b a) (λ k. h (ltb-true b a k)) (λ k. g (omega (arith, ltb-false a b e, ltb-false b a k))))

pub one_day : (x z : Day) → in_calendar x ≡ true → in_calendar z ≡ true → day_number x ≡ day_number z → x ≡ z
unfolding day_number
one_day x z h k e =
    let same = sub_same (day_count x) (day_count z) (day_count (on 1970 1 1)) e in
    by_order x z (λ b. absurd (omega (arith, same, rises x z h b))) (λ p. p) (λ b. absurd (omega (arith, same, rises z x k b)))
