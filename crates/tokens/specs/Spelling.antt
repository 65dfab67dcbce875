-- What the theorems say of a value that holds no other: the bytes from f up to e spell it.
use Rattle.std.specs.Prelude.{ℕ, ◌+◌, ◌≡◌, List, true, false, Ok}
use Rattle.model.specs.Text.{text}
use Rattle.model.specs.Value.{IsNumber, is_integer}
use Rattle.chars.specs.Bytes.{byte_at}
use Rattle.chars.specs.Strings.{string_at, part}
use Rattle.tokens.specs.declared.tokens.Kind.{Kind}
use Rattle.tokens.specs.declared.tokens.Kind.TheVariants.{Null, False, True, Whole, Fractional, Quoted}

-- a string or a name with both its quotes, its opening one at f
pub record IsQuoted (s : List ℕ) (f e : ℕ) : Type 0 where
  pub opens : byte_at s f ≡ 0x22
  pub ends : string_at s (f + 1) ≡ Ok e

abbrev pub Spells : Kind → List ℕ → ℕ → ℕ → Type 0
Spells Null s f e = part s f e ≡ text "null"
Spells False s f e = part s f e ≡ text "false"
Spells True s f e = part s f e ≡ text "true"
Spells Whole s f e = IsNumber (part s f e) × (is_integer (part s f e) ≡ true)
Spells Fractional s f e = IsNumber (part s f e) × (is_integer (part s f e) ≡ false)
Spells Quoted s f e = IsQuoted s f e
