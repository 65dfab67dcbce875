-- The days of the calendar: what holds of each, of the day before, and of the day after.
use Prim.Native.Nat.{ℕ, ◌+◌, ◌-◌, ◌≤◌, ◌<◌}
use mathlib.Core.Path.{◌≡◌, refl, sym, ap, subst, ◌∙◌}
use mathlib.Core.Bool.{Bool, true, false, ◌&&◌, ◌||◌}
use native.Mathlib.Omega.{arith}
use lib.Dec.{leb, ltb, eqb}
use borrow.Author.Tests.{eqb-true, eqb-false, ne_eqb, leb-true, le-leb, ltb-true, ltb-false, lt-ltb}
use Rattle.model.specs.Calendar.{Day, on, is_leap, days_in, in_calendar, day_before, day_after}
use Rattle.model.specs.Date.{ends_half}
use Rattle.model.proofs.Basics.{and_ways, both, by_test}

-- the bounds of a day of the calendar
pub record OnCalendar (y m d : ℕ) : Type 0 where
  pub month_first : 1 ≤ m
  pub month_last : m ≤ 12
  pub day_first : 1 ≤ d
  pub day_last : d ≤ days_in y m

pub on_calendar : (y m d : ℕ) → in_calendar (on y m d) ≡ true → OnCalendar y m d
on_calendar y m d h =
    and_ways (leb 1 m && leb m 12 && leb 1 d) (leb d (days_in y m)) h (λ f last.
    and_ways (leb 1 m && leb m 12) (leb 1 d) f (λ g first.
    and_ways (leb 1 m) (leb m 12) g (λ a b. record {
      month_first = leb-true 1 m a;
      month_last = leb-true m 12 b;
      day_first = leb-true 1 d first;
      day_last = leb-true d (days_in y m) last;
    })))

pub in_calendar_lem : (y m d : ℕ) → OnCalendar y m d → in_calendar (on y m d) ≡ true
in_calendar_lem y m d c =
    rw (le-leb 1 m c.month_first, le-leb m 12 c.month_last, le-leb 1 d c.day_first, le-leb d (days_in y m) c.day_last)

-- ---- the day before: of the same month, the last of the month before, or that of the year before
before_day : (y m d : ℕ) → 1 < d → day_before (on y m d) ≡ on y m (d - 1)
unfolding day_before
before_day y m d h = rw (lt-ltb 1 d h)

before_month : (y m : ℕ) → 1 < m → day_before (on y m 1) ≡ on y (m - 1) (days_in y (m - 1))
unfolding day_before
before_month y m h = rw (lt-ltb 1 m h)

before_year : (y : ℕ) → day_before (on y 1 1) ≡ on (y - 1) 12 31
unfolding day_before
before_year y = refl

-- ---- the day after: of the same month, the first of the next, or that of the next year
pub after_ways : (P : Day → Type 0) (y m d : ℕ) → OnCalendar y m d
    → (d < days_in y m → P (on y m (d + 1)))
    → (d ≡ days_in y m → m < 12 → P (on y (m + 1) 1))
    → (d ≡ days_in y m → m ≡ 12 → P (on (y + 1) 1 1))
    → P (day_after (on y m d))
unfolding day_after
after_ways P y m d c f g h = both P (ltb d (days_in y m))
    (λ t. f (ltb-true d (days_in y m) t))
    (λ t.
    let e : d ≡ days_in y m = omega (arith, c.day_last, ltb-false d (days_in y m) t) in
    both P (ltb m 12) (λ u. g e (ltb-true m 12 u)) (λ u. h e (omega (arith, c.month_last, ltb-false m 12 u))))

-- a day is the one before the day after it
pub before_after : (y m d : ℕ) → in_calendar (on y m d) ≡ true → day_before (day_after (on y m d)) ≡ on y m d
before_after y m d h =
    let c = on_calendar y m d h in
    after_ways (λ (x : Day). day_before x ≡ on y m d) y m d c
    (λ _. before_day y m (d + 1) (omega (arith, c.day_first)) ∙ ap (on y m) (omega arith))
    (λ e _. before_month y (m + 1) (omega (arith, c.month_first)) ∙ (let f : m + 1 - 1 ≡ m = omega arith in rw (f, ← e) refl))
    (λ e f. before_year (y + 1) ∙ (let g : y + 1 - 1 ≡ y = omega arith in rw (g, e, f) refl))

-- the calendar has the day after
pub after_in : (y m d : ℕ) → in_calendar (on y m d) ≡ true → in_calendar (day_after (on y m d)) ≡ true
after_in y m d h =
    let c = on_calendar y m d h in
    after_ways (λ (x : Day). in_calendar x ≡ true) y m d c
    (λ l. rw (le-leb 1 m c.month_first, le-leb m 12 c.month_last, le-leb 1 (d + 1) (omega arith), le-leb (d + 1) (days_in y m) (omega (arith, l))))
    (λ _ l. rw (le-leb 1 (m + 1) (omega arith), le-leb (m + 1) 12 (omega (arith, l)), le-leb 1 (days_in y (m + 1)) (days_some y (m + 1))))
    (λ _ _. refl)
  where
    days_some : (y m : ℕ) → 1 ≤ days_in y m
    days_some y m = both (λ (n : ℕ). 1 ≤ n) (eqb m 2)
        (λ _. both (λ (n : ℕ). 1 ≤ n) (is_leap y) (λ _. omega arith) (λ _. omega arith))
        (λ _. both (λ (n : ℕ). 1 ≤ n) (eqb m 4 || eqb m 6 || eqb m 9 || eqb m 11) (λ _. omega arith) (λ _. omega arith))

-- ---- the ends of June and December

-- 1 July or 1 January
abbrev pub starts_half : Day → Bool
starts_half x = eqb x.day 1 && (eqb x.month 1 || eqb x.month 7)

-- the day before the first of a month: in June, in December, or in another
firsts : (y m : ℕ) → 1 ≤ m → m ≤ 12 → ends_half (day_before (on y m 1)) ≡ (eqb m 1 || eqb m 7)
firsts y m lo hi = by_test (ltb 1 m) (λ a. later (ltb-true 1 m a)) (λ a. january (omega (arith, ltb-false 1 m a)))
  where
    later : 1 < m → ends_half (day_before (on y m 1)) ≡ (eqb m 1 || eqb m 7)
    later a = rw (before_month y m a, ne_eqb m 1 (λ e. omega arith))
        (by_test (eqb m 7)
        (λ t. rw (eqb-true m 7 t) refl)
        (λ f. rw (f, ne_eqb (m - 1) 6 (λ e. eqb-false m 7 f (omega arith)), ne_eqb (m - 1) 12 (λ e. omega arith)) refl))

    january : m ≡ 1 → ends_half (day_before (on y m 1)) ≡ (eqb m 1 || eqb m 7)
    january e = rw (e, before_year y) refl

-- the days before 1 July and 1 January are 30 June and 31 December
pub eve : (y m d : ℕ) → in_calendar (on y m d) ≡ true → ends_half (day_before (on y m d)) ≡ starts_half (on y m d)
eve y m d h = by_test (ltb 1 d) (λ a. later (ltb-true 1 d a)) (λ a. first (omega (arith, c.day_first, ltb-false 1 d a)))
  where
    c : OnCalendar y m d
    c = on_calendar y m d h

    -- no month k goes on behind its last day l
    past : (k l : ℕ) → days_in y k ≡ l → 1 < d → (eqb m k && eqb (d - 1) l) ≡ false
    past k l e a =
        by_test (eqb m k)
        (λ t. rw t (ne_eqb (d - 1) l (λ f. let last = subst (λ (j : ℕ). d ≤ days_in y j) (eqb-true m k t) c.day_last in omega (arith, last, e))))
        (λ f. rw f)

    later : 1 < d → ends_half (day_before (on y m d)) ≡ starts_half (on y m d)
    later a = rw (before_day y m d a, ne_eqb d 1 (λ e. omega arith), past 6 30 refl a, past 12 31 refl a)

    first : d ≡ 1 → ends_half (day_before (on y m d)) ≡ starts_half (on y m d)
    first e = rw e (firsts y m c.month_first c.month_last)

-- and the days after those are these
pub morrow : (y m d : ℕ) → in_calendar (on y m d) ≡ true → ends_half (on y m d) ≡ starts_half (day_after (on y m d))
morrow y m d h =
    let x = day_after (on y m d) in
    ap ends_half (sym (before_after y m d h)) ∙ eve x.year x.month x.day (after_in y m d h)
