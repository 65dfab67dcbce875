-- Space (01, "Text").
use Rattle.std.specs.Prelude.{ℕ, List, Bool, ◌||◌, eqb}
use Rattle.chars.specs.Runs.{run}

-- "Space is 20, 09, 0A, 0D hex."
unfoldable pub is_space : ℕ → Bool
is_space b = eqb b 0x20 || eqb b 0x09 || eqb b 0x0A || eqb b 0x0D

-- the first place from i on that holds no space
abbrev pub skip : List ℕ → ℕ → ℕ
skip s i = run is_space s i
