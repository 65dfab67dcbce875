-- Worked examples of dates, computed. Those of 01's table are in `Starred`.
use Prim.Native.Nat.{ℕ}
use Prim.Native.String.{String}
use mathlib.Core.Path.{◌≡◌, refl}
use mathlib.Core.Bool.{Bool, true, not, ◌&&◌}
use mathlib.Core.List.{List, [], ◌∷◌}
use lib.IntN.{pos, neg_ℤ}
use Rattle.model.specs.Text.{text}
use Rattle.model.specs.Calendar.{Day, on, day_before, day_after, first_months, first_years, day_count, day_number}
use Rattle.model.specs.Date.{day_of, moved_time, utc_day, utc_minute, is_date, moment}

-- every one is a date; none is
abbrev dates : List String → Bool
dates [] = true
dates (s ∷ ss) = is_date (text s) && dates ss

abbrev others : List String → Bool
others [] = true
others (s ∷ ss) = not (is_date (text s)) && others ss

-- RFC 3339, section 5.8
published :
    dates
    ("1985-04-12T23:20:50.52Z" ∷ "1996-12-19T16:39:57-08:00" ∷ "1990-12-31T23:59:60Z" ∷ "1990-12-31T15:59:60-08:00"
    ∷ "1937-01-01T12:00:27.87+00:20" ∷ [])
    ≡ true
unfolding utc_day
published = refl

years :
    (dates ("0000-01-01T00:00:00Z" ∷ "9999-12-31T23:59:59Z" ∷ []) ≡ true)
    × (others ("202a-01-01T00:00:00Z" ∷ "a024-01-01T00:00:00Z" ∷ "024-01-01T00:00:00Z" ∷ "12024-01-01T00:00:00Z" ∷ "-024-01-01T00:00:00Z" ∷ []) ≡ true)
years = (refl, refl)

months :
    (dates ("2023-01-01T00:00:00Z" ∷ "2023-12-01T00:00:00Z" ∷ []) ≡ true)
    × (others ("2023-00-01T00:00:00Z" ∷ "2023-13-01T00:00:00Z" ∷ "2023-1-01T00:00:00Z" ∷ "2023/01-01T00:00:00Z" ∷ []) ≡ true)
months = (refl, refl)

-- the last day of each month in 2023, and the next
days :
    (dates
    ("2023-01-31T00:00:00Z" ∷ "2023-02-28T00:00:00Z" ∷ "2023-03-31T00:00:00Z" ∷ "2023-04-30T00:00:00Z" ∷ "2023-05-31T00:00:00Z"
    ∷ "2023-06-30T00:00:00Z" ∷ "2023-07-31T00:00:00Z" ∷ "2023-08-31T00:00:00Z" ∷ "2023-09-30T00:00:00Z" ∷ "2023-10-31T00:00:00Z"
    ∷ "2023-11-30T00:00:00Z" ∷ "2023-12-31T00:00:00Z" ∷ [])
    ≡ true)
    × (others
    ("2023-01-32T00:00:00Z" ∷ "2023-02-29T00:00:00Z" ∷ "2023-03-32T00:00:00Z" ∷ "2023-04-31T00:00:00Z" ∷ "2023-05-32T00:00:00Z"
    ∷ "2023-06-31T00:00:00Z" ∷ "2023-07-32T00:00:00Z" ∷ "2023-08-32T00:00:00Z" ∷ "2023-09-31T00:00:00Z" ∷ "2023-10-32T00:00:00Z"
    ∷ "2023-11-31T00:00:00Z" ∷ "2023-12-32T00:00:00Z" ∷ "2023-01-00T00:00:00Z" ∷ "2023-01-1T00:00:00Z" ∷ [])
    ≡ true)
days = (refl, refl)

-- "29 February in years divisible by 4 but not 100, or by 400"
leap_days :
    (dates ("2024-02-29T00:00:00Z" ∷ "2000-02-29T00:00:00Z" ∷ "0000-02-29T00:00:00Z" ∷ []) ≡ true)
    × (others
    ("2023-02-29T00:00:00Z" ∷ "2100-02-29T00:00:00Z" ∷ "2023-02-30T00:00:00Z" ∷ "2024-02-30T00:00:00Z" ∷ "1900-02-30T00:00:00Z"
    ∷ "2000-02-30T00:00:00Z" ∷ "0000-02-30T00:00:00Z" ∷ [])
    ≡ true)
leap_days = (refl, refl)

letters :
    (dates ("2023-01-01T00:00:00Z" ∷ "2023-01-01t00:00:00Z" ∷ "2023-01-01T00:00:00z" ∷ "2023-01-01t00:00:00z" ∷ []) ≡ true)
    × (others ("2023-01-01 00:00:00Z" ∷ "2023-01-01_00:00:00Z" ∷ "2023-01-0100:00:00Z" ∷ "2023-01-01T00:00:00" ∷ "2023-01-01T00:00:00Y" ∷ []) ≡ true)
letters = (refl, refl)

times :
    (dates ("2023-01-01T00:00:00Z" ∷ "2023-01-01T23:59:59Z" ∷ []) ≡ true)
    × (others
    ("2023-01-01T24:00:00Z" ∷ "2023-01-01T00:60:00Z" ∷ "2023-01-01T00:00:60Z" ∷ "2023-01-01T00:00Z" ∷ "2023-01-01T00-00:00Z"
    ∷ "2023-01-01T0:00:00Z" ∷ "2023-01-01T00:00:0Z" ∷ [])
    ≡ true)
times = (refl, refl)

fractions :
    (dates ("2023-01-01T00:00:00.5Z" ∷ "2023-01-01T00:00:00.000000000000000000000000000000123Z" ∷ "2023-01-01T00:00:00.9-01:00" ∷ []) ≡ true)
    × (others
    ("2023-01-01T00:00:00.Z" ∷ "2023-01-01T00:00:00.+01:00" ∷ "2023-01-01T00:00:00,5Z" ∷ "2023-01-01T00:00:00.5.5Z"
    ∷ "2023-01-01T00:00:00.5" ∷ "2023-01-01T00:00:005Z" ∷ [])
    ≡ true)
fractions = (refl, refl)

offsets :
    (dates ("2023-01-01T00:00:00+23:59" ∷ "2023-01-01T00:00:00-23:59" ∷ "2023-01-01T00:00:00-00:00" ∷ "2023-01-01T00:00:00+00:00" ∷ []) ≡ true)
    × (others
    ("2023-01-01T00:00:00+24:00" ∷ "2023-01-01T00:00:00+23:60" ∷ "2023-01-01T00:00:00-24:00" ∷ "2023-01-01T00:00:0000:00" ∷ "2023-01-01T00:00:00+0000"
    ∷ "2023-01-01T00:00:00+00" ∷ "2023-01-01T00:00:00+" ∷ [])
    ≡ true)
offsets = (refl, refl)

-- "Nothing before or behind."
ends :
    others
    ("" ∷ " 2023-01-01T00:00:00Z" ∷ "2023-01-01T00:00:00Z " ∷ "2023-01-01T00:00:00ZZ" ∷ "2023-01-01T00:00:00+00:000" ∷ "2023-01-01T00:00:00+00:00Z"
    ∷ "2023-01-01T00:00:00.5Z5" ∷ [])
    ≡ true
ends = refl

-- ---- second 60 (02, L2)

-- 02's own
leap_seconds :
    (dates ("1990-12-31T15:59:60-08:00" ∷ "0000-01-01T07:59:60+08:00" ∷ []) ≡ true) × (others ("2024-04-30T23:59:60Z" ∷ []) ≡ true)
unfolding utc_day day_before
leap_seconds = (refl, refl)

-- over the end of a month and of a year, by the least and the greatest offset: 30 June and 1 July, 31 December and 1 January, years 0000 and 9999
leap_ends :
    (dates
    ("2024-06-30T23:59:60Z" ∷ "2024-06-30T23:58:60-00:01" ∷ "2024-06-30T00:00:60-23:59" ∷ "2024-07-01T00:00:60+00:01" ∷ "2024-07-01T23:58:60+23:59"
    ∷ "2024-12-31T23:59:60-00:00" ∷ "2024-12-31T23:58:60-00:01" ∷ "2024-12-31T00:00:60-23:59" ∷ "2025-01-01T00:00:60+00:01" ∷ "2025-01-01T23:58:60+23:59"
    ∷ "0000-01-01T00:00:60+00:01" ∷ "0000-01-01T23:58:60+23:59" ∷ "0000-12-31T00:00:60-23:59" ∷ "9999-01-01T23:58:60+23:59" ∷ "9999-12-31T00:00:60-23:59"
    ∷ "9999-12-31T23:59:60Z" ∷ [])
    ≡ true)
    × (others
    ("2024-06-30T23:58:60+23:59" ∷ "2024-06-30T00:00:60+23:59" ∷ "2024-07-01T00:00:60-23:59" ∷ "2024-07-01T23:58:60-23:59" ∷ "2024-07-01T23:59:60Z"
    ∷ "2024-06-29T23:59:60Z" ∷ "2024-06-29T23:59:60-23:59" ∷ "2024-12-30T23:59:60-23:59" ∷ "2024-12-31T00:00:60+23:59" ∷ "2025-01-01T00:00:60-23:59"
    ∷ "0000-01-01T00:00:60Z" ∷ "0000-01-01T07:59:60-08:00" ∷ "9999-12-31T23:58:60+23:59" ∷ "2024-07-02T00:00:60+00:01" ∷ "2025-01-02T00:00:60+00:01" ∷ [])
    ≡ true)
unfolding utc_day day_before day_after
leap_ends = (refl, refl)

-- another minute, and the offset taken the other way
leap_minutes :
    others
    ("2024-06-30T23:58:60Z" ∷ "2024-06-30T22:59:60Z" ∷ "2024-12-31T00:00:60Z" ∷ "2024-12-31T23:59:60+00:01" ∷ "2024-12-31T23:59:60-00:01"
    ∷ "1990-12-31T15:59:60+08:00" ∷ "1991-01-01T07:59:60-08:00" ∷ "2024-06-30T24:59:60+01:00" ∷ "2024-06-30T23:60:60+00:01" ∷ [])
    ≡ true
unfolding utc_day day_before day_after
leap_minutes = refl

-- the ends of other months
leap_months :
    others
    ("2024-02-29T23:59:60Z" ∷ "2024-03-01T00:00:60+00:01" ∷ "2023-02-28T23:59:60Z" ∷ "2023-03-01T00:00:60+00:01" ∷ "2024-01-31T23:59:60Z"
    ∷ "2024-03-31T23:59:60Z" ∷ "2024-05-31T23:59:60Z" ∷ "2024-09-30T23:59:60Z" ∷ "2024-11-30T23:59:60Z" ∷ "2024-06-31T23:59:60Z" ∷ [])
    ≡ true
unfolding utc_day day_before
leap_months = refl

-- with a fraction, and under small letters; never second 61
leap_forms :
    (dates ("2024-06-30T23:59:60.0Z" ∷ "2024-12-31T12:29:60.999999-11:30" ∷ "2024-12-31T23:59:60z" ∷ "2024-07-01t01:59:60.5+02:00" ∷ []) ≡ true)
    × (others ("2024-06-30T23:59:61Z" ∷ "2024-12-31T23:59:61.0z" ∷ "2024-12-31T15:59:61-08:00" ∷ "2024-06-30T23:59:99Z" ∷ "2024-06-30T23:59:60.Z" ∷ []) ≡ true)
unfolding utc_day day_before
leap_forms = (refl, refl)

-- the day and the minute in UTC
abbrev utc : String → Day → ℕ → Type 0
utc s x n = let t = text s in (utc_day (day_of t) (moved_time t) ≡ x) × (utc_minute (moved_time t) ≡ n)

utc_times :
    utc "2024-03-01T00:00:00+00:01" (on 2024 2 29) 1439
    × utc "2023-03-01T00:00:00+00:01" (on 2023 2 28) 1439
    × utc "1900-03-01T00:00:00.5+00:01" (on 1900 2 28) 1439
    × utc "2024-02-29T23:59:00-00:01" (on 2024 3 1) 0
    × utc "2024-02-28T23:59:00-00:01" (on 2024 2 29) 0
    × utc "2023-02-28T23:59:00-23:59" (on 2023 3 1) 1438
    × utc "2024-07-01T00:00:00+23:59" (on 2024 6 30) 1
    × utc "2024-05-01T01:00:00+01:30" (on 2024 4 30) 1410
    × utc "2025-01-01T07:59:00.25+08:00" (on 2024 12 31) 1439
    × utc "2024-12-31T23:59:00-23:59" (on 2025 1 1) 1438
    × utc "9999-12-31T23:59:00-00:01" (on 10000 1 1) 0
    × utc "2024-06-15T12:00:00Z" (on 2024 6 15) 720
    × utc "2024-06-15T12:00:00-00:00" (on 2024 6 15) 720
    × utc "2024-06-15T12:00:00+12:01" (on 2024 6 14) 1439
unfolding utc_day day_before day_after
utc_times = (
  (refl, refl),
  (refl, refl),
  (refl, refl),
  (refl, refl),
  (refl, refl),
  (refl, refl),
  (refl, refl),
  (refl, refl),
  (refl, refl),
  (refl, refl),
  (refl, refl),
  (refl, refl),
  (refl, refl),
  (refl, refl),
)

-- 02, L3: "`1969-12-31T23:59:59Z` and `1969-12-31T23:59:59.5Z` are -1, `1970-01-01T00:00:00+01:00` is -3600"
moments :
    (moment (text "1969-12-31T23:59:59Z") ≡ neg_ℤ (pos 1))
    × (moment (text "1969-12-31T23:59:59.5Z") ≡ neg_ℤ (pos 1))
    × (moment (text "1970-01-01T00:00:00+01:00") ≡ neg_ℤ (pos 3600))
    × (moment (text "1970-01-01T00:00:00-01:00") ≡ pos 3600)
    × (moment (text "2016-12-31T23:59:60Z") ≡ pos 1483228800)
    × (moment (text "2017-01-01T00:00:00Z") ≡ pos 1483228800)
unfolding moment day_number day_count first_years first_months
moments = (refl, refl, refl, refl, refl, refl)

-- the first and the last of all
first_last :
    (moment (text "0000-01-01T00:00:00+23:59") ≡ neg_ℤ (pos 62167305540))
    × (moment (text "9999-12-31T23:59:59-23:59") ≡ pos 253402387139)
unfolding moment day_number day_count first_years first_months
first_last = (refl, refl)
