-- For private contracts: runs of bytes that are copied as they stand.
use Rattle.std.specs.Prelude.{ℕ, Bool, not, ◌||◌, List, eqb}
use Rattle.tokens.specs.Space.{is_space}
use Rattle.chars.specs.Runs.{run}

-- a byte of a string that neither ends it nor begins an escape
unfoldable pub is_ordinary : ℕ → Bool
is_ordinary b = not (eqb b 0x22 || eqb b 0x5C)

abbrev pub ordinary_end : List ℕ → ℕ → ℕ
ordinary_end s i = run is_ordinary s i

-- [ { ] } : and ,
unfoldable pub is_structural : ℕ → Bool
is_structural b = eqb b 0x5B || eqb b 0x7B || eqb b 0x5D || eqb b 0x7D || eqb b 0x3A || eqb b 0x2C

-- a byte of a number or a literal: none that begins or ends another token
unfoldable pub is_atom : ℕ → Bool
is_atom b = not (is_space b || eqb b 0x22 || is_structural b)

abbrev pub atom_end : List ℕ → ℕ → ℕ
atom_end s i = run is_atom s i
