-- For private contracts: the number that is read from the end of a date, by the characters that stand there.
use Rattle.std.specs.Prelude.{ℕ, cond, List, Option, Some, None}
use Rattle.model.specs.Date.{minutes, is_offset, is_zone, zone_of, is_end, behind_utc}

-- the minutes of an offset with the sign c
abbrev pub offset_read : ℕ → List ℕ → Option ℕ
offset_read c z = cond (is_offset c z) (Some (minutes z 1)) None

-- how far a zone is behind UTC
abbrev pub zone_read : List ℕ → Option ℕ
zone_read z = cond (is_zone z) (Some (behind_utc z)) None

-- the same, where a fraction may stand before the zone
abbrev pub end_read : List ℕ → Option ℕ
end_read l = cond (is_end l) (Some (behind_utc (zone_of l))) None
