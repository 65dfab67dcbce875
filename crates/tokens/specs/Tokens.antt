-- Values that hold no other: their kinds (01, "Rows").
use Rattle.std.specs.Prelude.{ℕ}
use Rattle.chars.specs.Refusals.{Reading}
use Rattle.tokens.specs.Parse.{Parse, reading_of}
use Rattle.tokens.specs.declared.tokens.Kind.{Kind}
use Rattle.tokens.specs.declared.tokens.Kind.TheVariants.{Null, False, True, Whole, Fractional, Quoted}
use Rattle.tokens.specs.declared.tokens.Token.{Token}

-- "Kinds: 1 null, 2 false, 3 true, 4 number without fraction or exponent, 5 other number, 6 string"
abbrev pub kind_number : Kind → ℕ
kind_number Null = 1
kind_number False = 2
kind_number True = 3
kind_number Whole = 4
kind_number Fractional = 5
kind_number Quoted = 6

abbrev pub token : Kind → ℕ → Token
token kind end = record { kind = kind; end = end }

-- the answer that says what was read
abbrev pub token_of : Parse Kind → Reading Token
token_of o = reading_of token o
