-- For private contracts: numbers of digits alone, perhaps behind a minus, which are told without the rest.
use Rattle.std.specs.Prelude.{ℕ, ◌+◌, List, Bool, cond, ◌&&◌, ◌||◌, leb, eqb, Option, Some, None}
use Rattle.chars.specs.Bytes.{byte_at}
use Rattle.tokens.specs.Numbers.{digits_end}

-- [ minus ]: the place behind it
unfoldable pub minus_end : List ℕ → ℕ → ℕ
minus_end s i = cond (eqb (byte_at s i) 0x2D) (i + 1) i

-- a number goes on behind its digits with a point or a letter
unfoldable pub goes_on : ℕ → Bool
goes_on b = eqb b 0x2E || (eqb b 0x45 || eqb b 0x65)

-- the place behind the digits that begin at f with no 0, where the number does not go on behind them
unfoldable pub digits_from : List ℕ → ℕ → Option ℕ
digits_from s f =
    let e = digits_end s (f + 1) in
    cond (leb 0x31 (byte_at s f) && leb (byte_at s f) 0x39) (cond (goes_on (byte_at s e)) None (Some e)) None

-- the place behind the number at i, where it has digits alone, perhaps behind a minus, and begins with no 0
abbrev pub integer_end : List ℕ → ℕ → Option ℕ
integer_end s i = digits_from s (minus_end s i)
