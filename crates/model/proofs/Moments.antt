-- The moments of dates (02, L3): the written day and time, less the offset; so their order, their bounds, and that of second 60.
use Prim.Native.Nat.{ℕ, ◌+◌, ◌*◌, ◌-◌, ◌≤◌, ◌<◌}
use mathlib.Core.Path.{◌≡◌, sym, ap, ◌∙◌}
use mathlib.Core.Logic.{◌⊎◌, inl, inr}
use mathlib.Core.Bool.{true}
use mathlib.Core.List.{List}
use native.Mathlib.Omega.{arith}
use lib.Dec.{leb}
use lib.IntN.{ℤ, pos, neg_ℤ, sub_ℕ, ◌+ℤ◌, ◌-ℤ◌, ◌*ℤ◌}
use lib.ListN.{drop}
use lib.Signed.{lt_z, le_z}
use borrow.Author.Tests.{leb-true, leb-false}
use Rattle.model.specs.Calendar.{Day, on, in_calendar, day_after, day_count, day_number}
use Rattle.model.specs.Date.{two, day_of, is_day, is_clock, minutes, zone_of, offset, behind_utc, moved_time, has_second, is_written, is_date, moment}
use Rattle.model.proofs.Basics.{and_ways, by_test}
use Rattle.model.proofs.Differences.{sub_lt, sub_le, sub_more, sub_less, sub_cross, sub_times}
use Rattle.model.proofs.Days.{starts_half, after_in, eve, morrow}
use Rattle.model.proofs.DayNumbers.{first_count, count_most, after_count, Before, rises}
use Rattle.model.proofs.DateFields.{clock_less, offset_less, day_in, year_most, behind_range, day_time}
use Rattle.model.proofs.LeapSeconds.{has_most, moved_short, second_60_ways}

-- ---- counts of seconds

-- k seconds from the start of the day before the one that is n days after another
from_eve : (n c k : ℕ) → pos 86400 *ℤ (pos n -ℤ pos c -ℤ pos 1) +ℤ pos k ≡ pos (86400 * n + k) -ℤ pos (86400 * (c + 1))
from_eve n c k =
    ap (λ (z : ℤ). pos 86400 *ℤ z +ℤ pos k) (sub_less n c 1)
    ∙ ap (λ (z : ℤ). z +ℤ pos k) (sub_times 86400 n (c + 1))
    ∙ sub_more (86400 * n) (86400 * (c + 1)) k

-- the seconds from the start of the day before 0000-01-01
abbrev seconds_of : List ℕ → ℕ
seconds_of s = 86400 * day_count (day_of s) + 60 * moved_time s + two s 17

pub moment_count : (s : List ℕ) → moment s ≡ sub_ℕ (86400 * day_count (day_of s) + 60 * moved_time s + two s 17) 62167305600
unfolding moment day_number
moment_count s =
    let n = day_count (day_of s) in
    let k = 60 * moved_time s + two s 17 in
    let e : 86400 * n + k ≡ seconds_of s = omega arith in
    from_eve n (day_count (on 1970 1 1)) k
    ∙ ap (λ (c : ℕ). pos (86400 * n + k) -ℤ pos (86400 * (c + 1))) first_count
    ∙ ap (λ (a : ℕ). sub_ℕ a 62167305600) e

-- the written day and time, less the offset
pub less_offset : (s : List ℕ) → let z = zone_of (drop 19 s) in
    moment s
    ≡ pos 86400 *ℤ day_number (day_of s) +ℤ pos (60 * minutes s 11 + two s 17) +ℤ pos (60 * offset 0x2D z) -ℤ pos (60 * offset 0x2B z)
unfolding moment day_number
less_offset s =
    let n = day_count (day_of s) in
    let c = day_count (on 1970 1 1) in
    let west = offset 0x2D (zone_of (drop 19 s)) in
    let east = offset 0x2B (zone_of (drop 19 s)) in
    let k = 60 * minutes s 11 + two s 17 in
    from_eve n c (60 * moved_time s + two s 17)
    ∙ sub_cross (86400 * n + (60 * moved_time s + two s 17)) (86400 * (c + 1)) (86400 * n + k + 60 * west) (86400 * c + 60 * east)
    (across n c (minutes s 11) (two s 17) west east (offset_less 0x2B (zone_of (drop 19 s))))
    ∙ sym
    (ap (λ (z : ℤ). z +ℤ pos k +ℤ pos (60 * west) -ℤ pos (60 * east)) (sub_times 86400 n c)
    ∙ ap (λ (z : ℤ). z +ℤ pos (60 * west) -ℤ pos (60 * east)) (sub_more (86400 * n) (86400 * c) k)
    ∙ ap (λ (z : ℤ). z -ℤ pos (60 * east)) (sub_more (86400 * n + k) (86400 * c) (60 * west))
    ∙ sub_less (86400 * n + k + 60 * west) (86400 * c) (60 * east))
  where
    across : (n c t k west east : ℕ) → east < 1440
        → 86400 * n + (60 * (t + (1440 + west - east)) + k) + (86400 * c + 60 * east) ≡ 86400 * n + (60 * t + k) + 60 * west + 86400 * (c + 1)
    across n c t k west east h = omega arith

-- ---- what a date keeps to

module _ (s : List ℕ) (h : is_date s ≡ true) where
  written : is_written s ≡ true
  written = and_ways (is_written s) (has_second (two s 17) (day_of s) (moved_time s)) h (λ w _. w)

  second_most : two s 17 ≤ 60
  second_most = and_ways (is_written s) (has_second (two s 17) (day_of s) (moved_time s)) h (λ _ k. has_most (day_of s) (moved_time s) (two s 17) k)

  day_is : is_day s ≡ true
  day_is = (day_time s written).0

  time_is : is_clock s 11 ≡ true
  time_is = (day_time s written).1

-- ---- the order of moments

-- what s writes is earlier: by the day, on one day by the minute, in one minute by the second
abbrev pub Earlier : List ℕ → List ℕ → Type 0
Earlier s u =
    Before (day_of s) (day_of u)
    ⊎ ((day_of s ≡ day_of u) × ((minutes s 11 < minutes u 11) ⊎ ((minutes s 11 ≡ minutes u 11) × (two s 17 < two u 17))))

-- days, minutes, how far the zone is behind, and seconds
module _ (n m t u b c k l j : ℕ) (same : b ≡ c) (most : k ≤ 59 + j) where
  by_day : n < m → t < 1440 → 86400 * n + 60 * (t + b) + k < 86400 * m + 60 * (u + c) + l + j
  by_day f g = omega arith

  by_minute : n ≡ m → t < u → 86400 * n + 60 * (t + b) + k < 86400 * m + 60 * (u + c) + l + j
  by_minute f g = omega arith

  by_second : n ≡ m → t ≡ u → k < l → 86400 * n + 60 * (t + b) + k < 86400 * m + 60 * (u + c) + l + j
  by_second f g h = omega arith

module _ (s u : List ℕ) (h : is_date s ≡ true) (same : behind_utc (zone_of (drop 19 s)) ≡ behind_utc (zone_of (drop 19 u))) where
  -- j is 1 for second 60, which is the next minute's second 0
  in_order : (j : ℕ) → Earlier s u → two s 17 ≤ 59 + j → seconds_of s < seconds_of u + j
  in_order j (inl e) most =
      by_day (day_count (day_of s)) (day_count (day_of u)) (minutes s 11) (minutes u 11) _ _ (two s 17) (two u 17) j same most
      (rises (day_of s) (day_of u) (day_in s (day_is s h)) e) (clock_less s 11 (time_is s h))
  in_order j (inr (e, inl f)) most =
      by_minute (day_count (day_of s)) (day_count (day_of u)) (minutes s 11) (minutes u 11) _ _ (two s 17) (two u 17) j same most (ap day_count e) f
  in_order j (inr (e, inr (f, g))) most =
      by_second (day_count (day_of s)) (day_count (day_of u)) (minutes s 11) (minutes u 11) _ _ (two s 17) (two u 17) j same most (ap day_count e) f g

-- equally far behind UTC, what is earlier has the lesser moment
pub later : (s u : List ℕ) → is_date s ≡ true → is_date u ≡ true → behind_utc (zone_of (drop 19 s)) ≡ behind_utc (zone_of (drop 19 u))
    → Earlier s u → two s 17 ≤ 59 → lt_z (moment s) (moment u) ≡ true
later s u h _ z e most =
    rw (moment_count s, moment_count u) (sub_lt (seconds_of s) (seconds_of u) 62167305600 (less (seconds_of s) (seconds_of u) (in_order s u h z 0 e most)))
  where
    less : (a b : ℕ) → a < b + 0 → a < b
    less a b h = omega arith

-- with any second
pub not_later : (s u : List ℕ) → is_date s ≡ true → is_date u ≡ true → behind_utc (zone_of (drop 19 s)) ≡ behind_utc (zone_of (drop 19 u))
    → Earlier s u → le_z (moment s) (moment u) ≡ true
not_later s u h _ z e =
    rw (moment_count s, moment_count u)
    (sub_le (seconds_of s) (seconds_of u) 62167305600 (most (seconds_of s) (seconds_of u) (in_order s u h z 1 e (second_most s h))))
  where
    most : (a b : ℕ) → a < b + 1 → a ≤ b
    most a b h = omega arith

-- ---- the bounds of moments

-- 0000-01-01T00:00:00+23:59
pub least : (s : List ℕ) → is_date s ≡ true → le_z (neg_ℤ (pos 62167305540)) (moment s) ≡ true
least s _ =
    rw (moment_count s)
    (sub_le 60 (seconds_of s) 62167305600 (some (day_count (day_of s)) (minutes s 11) (behind_utc z) (two s 17) (behind_range z).0))
  where
    z : List ℕ
    z = zone_of (drop 19 s)

    some : (n t b k : ℕ) → 0 < b → 60 ≤ 86400 * n + 60 * (t + b) + k
    some n t b k h = omega arith

-- 9999-12-31T23:59:59-23:59; second 60 stands no later than in the last minute of the written day
pub greatest : (s : List ℕ) → is_date s ≡ true → le_z (moment s) (pos 253402387139) ≡ true
greatest s h =
    rw (moment_count s) (sub_le (seconds_of s) 315569692739 62167305600 (by_test (leb (two s 17) 59)
    (λ t. to_59 (day_count (day_of s)) (moved_time s) (two s 17) days (moved_short s (written s h)) (leb-true (two s 17) 59 t))
    (λ f.
    let e : two s 17 ≡ 60 = omega (arith, leb-false (two s 17) 59 f, second_most s h) in
    let short : moved_time s ≤ 2879 = second_60_ways s (written s h) e h (λ m _. omega (arith, m)) (λ m _. omega (arith, m)) in
    at_60 (day_count (day_of s)) (moved_time s) (two s 17) days short e)))
  where
    days : day_count (day_of s) ≤ 3652424
    days = let x = day_of s in count_most x.year x.month x.day (day_in s (day_is s h)) (year_most s (day_is s h))

    to_59 : (n v k : ℕ) → n ≤ 3652424 → v < 4319 → k ≤ 59 → 86400 * n + 60 * v + k ≤ 315569692739
    to_59 n v k a b c = omega arith

    at_60 : (n v k : ℕ) → n ≤ 3652424 → v ≤ 2879 → k ≡ 60 → 86400 * n + 60 * v + k ≤ 315569692739
    at_60 n v k a b c = omega arith

-- ---- second 60

-- the moment at which the day x begins in UTC
midnight : (s : List ℕ) (x : Day) → seconds_of s ≡ 86400 * (day_count x + 1) → moment s ≡ pos 86400 *ℤ day_number x
unfolding day_number
midnight s x e =
    moment_count s
    ∙ sub_cross (seconds_of s) 62167305600 (86400 * day_count x) (86400 * 719528) (omega (arith, e))
    ∙ sym (ap (λ (c : ℕ). pos 86400 *ℤ (pos (day_count x) -ℤ pos c)) first_count ∙ sub_times 86400 (day_count x) 719528)

-- of a 1 January or 1 July: the written day, or the day after
pub half_begins : (s : List ℕ) → is_date s ≡ true → two s 17 ≡ 60
    → (x : Day) × (in_calendar x ≡ true) × (starts_half x ≡ true) × (moment s ≡ pos 86400 *ℤ day_number x)
half_begins s h e =
    let x = day_of s in
    let z = day_after x in
    let i = day_in s (day_is s h) in
    let count = after_count x.year x.month x.day i in
    second_60_ways s (written s h) e h
    (λ m t. (x, i, sym (eve x.year x.month x.day i) ∙ t, midnight s x (this_day (day_count x) (moved_time s) (two s 17) m e)))
    (λ m t. (
      z,
      after_in x.year x.month x.day i,
      sym (morrow x.year x.month x.day i) ∙ t,
      midnight s z (next (day_count x) (day_count z) (moved_time s) (two s 17) m e count),
    ))
  where
    this_day : (n v k : ℕ) → v ≡ 1439 → k ≡ 60 → 86400 * n + 60 * v + k ≡ 86400 * (n + 1)
    this_day n v k a b = omega arith

    next : (n m v k : ℕ) → v ≡ 2879 → k ≡ 60 → m ≡ n + 1 → 86400 * n + 60 * v + k ≡ 86400 * (m + 1)
    next n m v k a b c = omega arith
