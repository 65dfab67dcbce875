-- For private contracts: runs of bytes that stand for themselves in a string, which are passed at once.
use Rattle.std.specs.Prelude.{ℕ, Bool, not, ◌&&◌, List, leb, ltb, eqb}
use Rattle.chars.specs.Runs.{run}

-- a character of one byte, neither the quote nor the backslash
unfoldable pub is_plain : ℕ → Bool
is_plain b = leb 0x20 b && ltb b 0x80 && not (eqb b 0x22) && not (eqb b 0x5C)

-- the first place from i on that holds no such byte
abbrev pub plain_end : List ℕ → ℕ → ℕ
plain_end s i = run is_plain s i
