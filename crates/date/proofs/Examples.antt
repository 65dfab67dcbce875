-- Worked examples of days by number, computed.
use mathlib.Core.Path.{◌≡◌, refl}
use mathlib.Core.Bool.{true, false}
use lib.IntN.{pos, neg_ℤ}
use Rattle.std.specs.Prelude.{Some, None}
use Rattle.model.specs.Text.{text}
use Rattle.model.specs.Calendar.{on, first_months, first_years, day_count}
use Rattle.model.proofs.DayNumbers.{first_day, number_count, least_number, greatest_number}
use Rattle.date.specs.Days.{written_day, is_day_number, WritesDay}

-- the written day counts, whatever the time and the offset, and what stands behind it
written :
    (written_day (text "2024-04-30T23:59:59.5+02:00") ≡ Some (day_count (on 2024 4 30)))
    × (written_day (text "2024-04-30T00:00:00+23:59") ≡ Some (day_count (on 2024 4 30)))
    × (written_day (text "2024-04-30T23:59:59-23:59") ≡ Some (day_count (on 2024 4 30)))
    × (written_day (text "2024-04-30 or so") ≡ Some (day_count (on 2024 4 30)))
written = (refl, refl, refl, refl)

counts :
    (written_day (text "0000-01-01T00:00:00Z") ≡ Some 0)
    × (written_day (text "0000-03-01T00:00:00Z") ≡ Some 60)
    × (written_day (text "1970-01-01T00:00:00Z") ≡ Some 719528)
unfolding day_count first_years first_months
counts = (refl, refl, refl)

-- no day
unwritten :
    (written_day (text "2023-02-29T00:00:00Z") ≡ None)
    × (written_day (text "2024-13-01T00:00:00Z") ≡ None)
    × (written_day (text "2024-4-30T00:00:00Z") ≡ None)
    × (written_day (text "2024-04-3") ≡ None)
    × (written_day (text "") ≡ None)
unwritten = (refl, refl, refl, refl, refl)

-- the first and the last number of a day, and the next
numbers :
    (is_day_number (neg_ℤ (pos 719529)) ≡ false)
    × (is_day_number (neg_ℤ (pos 719528)) ≡ true)
    × (is_day_number (pos 2932896) ≡ true)
    × (is_day_number (pos 2932897) ≡ false)
numbers = rw (least_number, greatest_number) (refl, refl, refl, refl)

texts :
    WritesDay (neg_ℤ (pos 719528)) (text "0000-01-01")
    × WritesDay (neg_ℤ (pos 1)) (text "1969-12-31")
    × WritesDay (pos 0) (text "1970-01-01")
    × WritesDay (pos 11016) (text "2000-02-29")
    × WritesDay (pos 19843) (text "2024-04-30")
    × WritesDay (pos 2932896) (text "9999-12-31")
unfolding day_count first_years first_months
texts = (
  record { long = refl; is-day = refl; number = least_number },
  record { long = refl; is-day = refl; number = number_count (on 1969 12 31) },
  record { long = refl; is-day = refl; number = first_day },
  record { long = refl; is-day = refl; number = number_count (on 2000 2 29) },
  record { long = refl; is-day = refl; number = number_count (on 2024 4 30) },
  record { long = refl; is-day = refl; number = greatest_number },
)
