-- The seconds of a date (02, L2): 00 to 59 always, 60 in some minutes, said of these in three ways, and more never.
use Prim.Native.Nat.{ℕ, ◌+◌, ◌≤◌, ◌<◌}
use mathlib.Core.Path.{◌≡◌, refl, sym, ap, ◌∙◌}
use mathlib.Core.Logic.{◌⊎◌, inl, inr, ⊎_elim, ◌↔◌}
use mathlib.Core.Bool.{Bool, true, false, ◌&&◌}
use mathlib.Core.List.{List}
use native.Mathlib.Omega.{arith}
use lib.Dec.{ltb, eqb}
use lib.ListN.{drop}
use borrow.Author.Tests.{eqb-true, eqb-false, ne_eqb, le-leb, lt-leb, ltb-true, ltb-false}
use Rattle.model.specs.Calendar.{Day, on, in_calendar, day_before}
use Rattle.model.specs.Date.{two, day_of, minutes, zone_of, offset, behind_utc, moved_time}
use Rattle.model.specs.Date.{utc_day, utc_minute, ends_half, is_leap_minute, has_second, is_written, is_date}
use Rattle.model.proofs.Basics.{by_test, clash}
use Rattle.model.proofs.Days.{starts_half, eve, morrow}
use Rattle.model.proofs.DateFields.{clock_less, offset_less, day_in, behind_range, day_time}

module _ (x : Day) (n : ℕ) where
  -- the moved time n is 23:59 on 30 June or 31 December
  abbrev pub leaps : Bool
  leaps = is_leap_minute (utc_day x n) (utc_minute n)

  -- it is 23:59 of the day before the written one
  pub on_eve : n ≡ 1439 → leaps ≡ ends_half (day_before x)
  unfolding utc_day
  on_eve e = rw e refl

  -- it is 23:59 of the written day
  pub on_day : n ≡ 2879 → leaps ≡ ends_half x
  unfolding utc_day
  on_day e = rw e refl

  -- it is another minute
  pub off_minute : n < 4319 → (n ≡ 1439 → ⊥) → (n ≡ 2879 → ⊥) → leaps ≡ false
  off_minute h f g =
      rw (ne_eqb (utc_minute n) 1439 (λ e. by_test (ltb n 1440)
      (λ t. f (omega (arith, e, ltb-true n 1440 t)))
      (λ t. g (omega (arith, e, ltb-false n 1440 t)))))

  -- where it is 23:59 on such a day, it is that of one of these two
  leap_ways : {A : Type 0} → n < 4319 → leaps ≡ true → (n ≡ 1439 → ends_half (day_before x) ≡ true → A) → (n ≡ 2879 → ends_half x ≡ true → A) → A
  leap_ways h t f g =
      by_test (eqb n 1439)
      (λ a. let e = eqb-true n 1439 a in f e (sym (on_eve e) ∙ t))
      (λ a. by_test (eqb n 2879)
      (λ b. let e = eqb-true n 2879 b in g e (sym (on_day e) ∙ t))
      (λ b. clash leaps t (off_minute h (eqb-false n 1439 a) (eqb-false n 2879 b))))

  -- the seconds of the minute
  module _ (k : ℕ) where
    pub has_59 : k ≤ 59 → has_second k x n ≡ true
    has_59 h = rw (le-leb k 59 h)

    pub has_60 : k ≡ 60 → has_second k x n ≡ leaps
    has_60 e = rw e

    pub has_61 : 60 < k → has_second k x n ≡ false
    has_61 h = rw (lt-leb k 59 (omega arith), ne_eqb k 60 (λ e. omega arith))

    pub has_most : has_second k x n ≡ true → k ≤ 60
    has_most h = by_test (ltb 60 k) (λ t. clash (has_second k x n) h (has_61 (ltb-true 60 k t))) (λ f. ltb-false 60 k f)

-- by the written day and time: 23:59 with the offset added, on 30 June or 31 December, or past midnight on the day after
leap_minute : (x : Day) (time : ℕ) (z : List ℕ) → time < 1440
    → (leaps x (time + behind_utc z) ≡ true)
    ↔ (((ends_half x ≡ true) × (time + offset 0x2D z ≡ 1439 + offset 0x2B z))
    ⊎ ((ends_half (day_before x) ≡ true) × (time + offset 0x2D z + 1 ≡ offset 0x2B z)))
leap_minute x time z a =
    let n = time + behind_utc z in
    let b = offset_less 0x2B z in
    let c = offset_less 0x2D z in (
      λ h. leap_ways x n (omega (arith, a, (behind_range z).1)) h
          (λ e t. inr (t, omega (arith, e, b, c)))
          (λ e t. inl (t, omega (arith, e, b, c))),
      λ w. ⊎_elim (λ u. on_day x n (omega (arith, u.1, b, c)) ∙ u.0) (λ u. on_eve x n (omega (arith, u.1, b, c)) ∙ u.0) w,
    )

-- by the minute after, in UTC: 00:00 on 1 July or 1 January
leap_next : (y m d n : ℕ) → in_calendar (on y m d) ≡ true → n < 4319
    → leaps (on y m d) n ≡ (eqb (utc_minute (n + 1)) 0 && starts_half (utc_day (on y m d) (n + 1)))
unfolding utc_day
leap_next y m d n h k =
    by_test (eqb n 1439)
    (λ t. let e = eqb-true n 1439 t in on_eve (on y m d) n e ∙ eve y m d h ∙ rw e refl)
    (λ f. by_test (eqb n 2879)
    (λ t. let e = eqb-true n 2879 t in on_day (on y m d) n e ∙ morrow y m d h ∙ rw e refl)
    (λ g.
    let none = ne_eqb (utc_minute (n + 1)) 0 (λ e. by_test (ltb n 1440)
    (λ t. eqb-false n 1439 f (omega (arith, e, ltb-true n 1440 t)))
    (λ t. eqb-false n 2879 g (omega (arith, e, ltb-false n 1440 t)))) in
    off_minute (on y m d) n k (eqb-false n 1439 f) (eqb-false n 2879 g) ∙ rw none refl))

-- ---- dates

-- the moved time of what is written like a date is short
module _ (s : List ℕ) (w : is_written s ≡ true) where
  pub moved_short : moved_time s < 4319
  moved_short = omega (arith, clock_less s 11 (day_time s w).1, behind_range (zone_of (drop 19 s)))

  by_second : is_date s ≡ has_second (two s 17) (day_of s) (moved_time s)
  by_second = ap (λ (b : Bool). b && has_second (two s 17) (day_of s) (moved_time s)) w

  -- "seconds 00 to 59" (01)
  pub seconds_59 : two s 17 ≤ 59 → is_date s ≡ true
  seconds_59 h = by_second ∙ has_59 (day_of s) (moved_time s) (two s 17) h

  pub seconds_61 : 60 < two s 17 → is_date s ≡ false
  seconds_61 h = by_second ∙ has_61 (day_of s) (moved_time s) (two s 17) h

  -- "Second 60 is taken exactly when the time, moved by its offset to UTC, is 23:59 on 30 June or 31 December"
  module _ (e : two s 17 ≡ 60) where
    pub second_60 : is_date s ≡ is_leap_minute (utc_day (day_of s) (moved_time s)) (utc_minute (moved_time s))
    second_60 = by_second ∙ has_60 (day_of s) (moved_time s) (two s 17) e

    -- by the moved time
    pub second_60_ways : {A : Type 0} → is_date s ≡ true
        → (moved_time s ≡ 1439 → ends_half (day_before (day_of s)) ≡ true → A) → (moved_time s ≡ 2879 → ends_half (day_of s) ≡ true → A) → A
    second_60_ways h = leap_ways (day_of s) (moved_time s) moved_short (sym second_60 ∙ h)

    -- the same by what is written, with nothing moved
    pub second_60_written : let z = zone_of (drop 19 s) in
        (is_date s ≡ true)
        ↔ (((ends_half (day_of s) ≡ true) × (minutes s 11 + offset 0x2D z ≡ 1439 + offset 0x2B z))
        ⊎ ((ends_half (day_before (day_of s)) ≡ true) × (minutes s 11 + offset 0x2D z + 1 ≡ offset 0x2B z)))
    second_60_written =
        let l = leap_minute (day_of s) (minutes s 11) (zone_of (drop 19 s)) (clock_less s 11 (day_time s w).1) in
        (λ h. l.0 (sym second_60 ∙ h), λ u. second_60 ∙ l.1 u)

    -- the same by the minute after
    pub second_60_next : let n = moved_time s + 1 in is_date s ≡ (eqb (utc_minute n) 0 && starts_half (utc_day (day_of s) n))
    second_60_next =
        let x = day_of s in
        second_60 ∙ leap_next x.year x.month x.day (moved_time s) (day_in s (day_time s w).0) moved_short
