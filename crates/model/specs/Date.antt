-- Dates (01, "Dates"; 02, L2 and L3; RFC 3339, section 5.6), on the characters of a string after unescaping.
use Rattle.std.specs.Prelude.{ℕ, ◌+◌, ◌*◌, ◌-◌, ◌%◌, Bool, not, cond, ◌&&◌, ◌||◌, List, [], ◌∷◌, leb, ltb, eqb, ℤ, pos, ◌+ℤ◌, ◌-ℤ◌, ◌*ℤ◌, length, get_or, drop}
use Rattle.model.specs.Text.{text, same}
use Rattle.model.specs.Value.{is_digit}
use Rattle.model.specs.Calendar.{Day, on, in_calendar, day_before, day_after, day_number}

-- the character at i; 0 past the end
abbrev pub at : List ℕ → ℕ → ℕ
at s i = get_or s i 0

-- two digits stand at i
abbrev pub two_digits : List ℕ → ℕ → Bool
two_digits s i = is_digit (at s i) && is_digit (at s (i + 1))

-- the number that the two digits at i spell
abbrev pub two : List ℕ → ℕ → ℕ
two s i = 10 * (at s i - 0x30) + (at s (i + 1) - 0x30)

-- the day that is written at the start
abbrev pub day_of : List ℕ → Day
day_of s = on (100 * two s 0 + two s 2) (two s 5) (two s 8)

-- `YYYY-MM-DD` from the start: "Years 0000 to 9999, months 01 to 12, days by the Gregorian month"
abbrev pub is_day : List ℕ → Bool
is_day s =
    two_digits s 0 && two_digits s 2 && eqb (at s 4) 0x2D && two_digits s 5 && eqb (at s 7) 0x2D && two_digits s 8 && in_calendar (day_of s)

-- `hh:mm` from i, of the time ("Hours 00 to 23, minutes and seconds 00 to 59") and of the offset ("hours 00 to 23, minutes 00 to 59")
abbrev pub is_clock : List ℕ → ℕ → Bool
is_clock s i = two_digits s i && eqb (at s (i + 2)) 0x3A && two_digits s (i + 3) && leb (two s i) 23 && leb (two s (i + 3)) 59

-- the minutes that it spells
abbrev pub minutes : List ℕ → ℕ → ℕ
minutes s i = 60 * two s i + two s (i + 3)

-- `hh:mm` behind the sign c, and nothing behind it
abbrev pub is_offset : ℕ → List ℕ → Bool
is_offset c s = eqb (at s 0) c && is_clock s 1 && eqb (length s) 6

-- "`Z` or `z` or `+hh:mm` or `-hh:mm`"
abbrev pub is_zone : List ℕ → Bool
is_zone s = same s (text "Z") || same s (text "z") || is_offset 0x2B s || is_offset 0x2D s

-- what is behind the digits that it begins with
abbrev pub after_digits : List ℕ → List ℕ
after_digits [] = []
after_digits (c ∷ s) = cond (is_digit c) (after_digits s) (c ∷ s)

-- the zone of what follows the seconds: behind the point and the digits of a fraction, where there is one
abbrev pub zone_of : List ℕ → List ℕ
zone_of s = cond (eqb (at s 0) 0x2E) (after_digits (drop 1 s)) s

-- "perhaps `.` and one digit or more, then" a zone
abbrev pub is_end : List ℕ → Bool
is_end s = (not (eqb (at s 0) 0x2E) || is_digit (at s 1)) && is_zone (zone_of s)

-- the minutes of a zone that is an offset with the sign c; 0 of another
abbrev pub offset : ℕ → List ℕ → ℕ
offset c z = cond (is_offset c z) (minutes z 1) 0

-- how far a zone is behind UTC, in minutes, and a day of 1440 more, so that no number is negative: `-hh:mm` is behind, `+hh:mm` ahead
abbrev pub behind_utc : List ℕ → ℕ
behind_utc z = 1440 + offset 0x2D z - offset 0x2B z

-- "the time, moved by its offset to UTC": in minutes, from the start of the day before the written one
abbrev pub moved_time : List ℕ → ℕ
moved_time s = minutes s 11 + behind_utc (zone_of (drop 19 s))

-- the day in UTC, where the day x is written and n is the moved time
unfoldable pub utc_day : Day → ℕ → Day
utc_day x n = cond (ltb n 1440) (day_before x) (cond (ltb n 2880) x (day_after x))

-- the minute of that day
abbrev pub utc_minute : ℕ → ℕ
utc_minute n = n % 1440

-- "30 June or 31 December, in any year"
abbrev pub ends_half : Day → Bool
ends_half x = (eqb x.month 6 && eqb x.day 30) || (eqb x.month 12 && eqb x.day 31)

-- "23:59 on" such a day
abbrev pub is_leap_minute : Day → ℕ → Bool
is_leap_minute x n = eqb n (60 * 23 + 59) && ends_half x

-- "seconds 00 to 59" (01); "Second 60 is taken exactly when the time, moved by its offset to UTC, is" such a minute (02, L2)
abbrev pub has_second : ℕ → Day → ℕ → Bool
has_second k x n = leb k 59 || (eqb k 60 && is_leap_minute (utc_day x n) (utc_minute n))

-- "`YYYY-MM-DD`, `T` or `t`, `hh:mm:ss`", then its end; any two digits as seconds
abbrev pub is_written : List ℕ → Bool
is_written s =
    is_day s && (eqb (at s 10) 0x54 || eqb (at s 10) 0x74) && is_clock s 11 && eqb (at s 16) 0x3A && two_digits s 17 && is_end (drop 19 s)

-- "a string that is a date by the rules under Dates", as 02, L2 changes them
abbrev pub is_date : List ℕ → Bool
is_date s = is_written s && has_second (two s 17) (day_of s) (moved_time s)

-- "whole seconds from 1970-01-01T00:00:00Z, negative before it, leap seconds not counted and second 60 counted as the second after 59; a
-- written fraction is left out" (02, L3); the moved time is counted from the start of the day before the written one
unfoldable pub moment : List ℕ → ℤ
moment s = pos 86400 *ℤ (day_number (day_of s) -ℤ pos 1) +ℤ pos (60 * moved_time s + two s 17)
