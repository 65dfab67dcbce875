-- Numbers (RFC 8259, section 6): number = [ minus ] int [ frac ] [ exp ].
use Rattle.std.specs.Prelude.{ℕ, ◌+◌, List, cond, ◌||◌, eqb}
use Rattle.model.specs.Value.{is_digit}
use Rattle.chars.specs.Bytes.{byte_at}
use Rattle.chars.specs.Runs.{run}
use Rattle.tokens.specs.Parse.{Parse, parsed, unexpected}
use Rattle.tokens.specs.declared.tokens.Kind.{Kind}
use Rattle.tokens.specs.declared.tokens.Kind.TheVariants.{Whole, Fractional}

-- the place behind the digits at i
abbrev pub digits_end : List ℕ → ℕ → ℕ
digits_end s i = run is_digit s i

-- int = zero / ( digit1-9 *DIGIT ): the place behind it; i itself where none stands at i
unfoldable pub whole_end : List ℕ → ℕ → ℕ
whole_end s i = let e = digits_end s i in cond (eqb (byte_at s i) 0x30) (i + 1) e

-- [ minus / plus ]: the place behind it
unfoldable pub sign_end : List ℕ → ℕ → ℕ
sign_end s i = cond (eqb (byte_at s i) 0x2B || eqb (byte_at s i) 0x2D) (i + 1) i

-- exp = e [ minus / plus ] 1*DIGIT
unfoldable pub power_at : List ℕ → ℕ → Parse Kind
power_at s i =
    let p = sign_end s (i + 1) in
    let e = digits_end s p in
    cond (eqb e p) (unexpected s p) (parsed Fractional e)

-- [ exp ], behind a number of the kind k
unfoldable pub exponent_at : List ℕ → ℕ → Kind → Parse Kind
exponent_at s i k =
    let r = power_at s i in
    cond (eqb (byte_at s i) 0x45 || eqb (byte_at s i) 0x65) r (parsed k i)

-- [ frac ] [ exp ], frac = decimal-point 1*DIGIT
unfoldable pub fraction_at : List ℕ → ℕ → Parse Kind
fraction_at s i =
    let e = digits_end s (i + 1) in
    let r = cond (eqb e (i + 1)) (unexpected s (i + 1)) (exponent_at s e Fractional) in
    cond (eqb (byte_at s i) 0x2E) r (exponent_at s i Whole)

-- int [ frac ] [ exp ]
unfoldable pub unsigned_at : List ℕ → ℕ → Parse Kind
unsigned_at s i =
    let e = whole_end s i in
    cond (eqb e i) (unexpected s i) (fraction_at s e)

unfoldable pub number_at : List ℕ → ℕ → Parse Kind
number_at s i = cond (eqb (byte_at s i) 0x2D) (unsigned_at s (i + 1)) (unsigned_at s i)
