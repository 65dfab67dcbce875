-- What a string is when it is judged as a date.
use Rattle.std.specs.Prelude.{ℕ, ◌+◌, ◌*◌, cond, List, ℤ, Option, Some, None}
use Rattle.std.proofs.Math.IntN.{sub_ℕ}
use Rattle.model.specs.Calendar.{Day, day_count}
use Rattle.model.specs.Date.{has_second, is_date, moment}

-- "Judging a date now yields whole seconds from 1970-01-01T00:00:00Z" (02, L3); no moment of a string that is no date
abbrev pub moment_of : List ℕ → Option ℤ
moment_of s = cond (is_date s) (Some (moment s)) None

-- for a private contract: the same by the day x, the moved time n and the second k
abbrev pub moment_at : Day → ℕ → ℕ → Option ℤ
moment_at x n k = cond (has_second k x n) (Some (sub_ℕ (86400 * day_count x + 60 * n + k) 62167305600)) None
