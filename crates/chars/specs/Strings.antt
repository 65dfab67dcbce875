-- Strings and names: the characters one after the other.
use Rattle.std.specs.Prelude.{ℕ, zero, suc, ◌+◌, ◌-◌, List, [], ◌∷◌, length, take, drop, Ok, Err}
use Rattle.chars.specs.declared.characters.Step.{Step}
use Rattle.chars.specs.declared.characters.Step.TheVariants.{Char, Quote}
use Rattle.chars.specs.declared.refusals.Code.TheVariants.{Ended}
use Rattle.chars.specs.Refusals.{refusal, Reading}
use Rattle.chars.specs.Characters.{char_at}

-- behind a character the string goes on
abbrev pub go_on : (ℕ → Reading ℕ) → ℕ → Reading Step → Reading ℕ
go_on more i (Ok (Char v j)) = more j
go_on more i (Ok Quote) = Ok (i + 1)
go_on more i (Err r) = Err r

-- the place behind the string that goes on at i; k is at least the bytes left, so that without any the text has ended
unfoldable pub string_from : ℕ → List ℕ → ℕ → Reading ℕ
string_from zero s i = Err (refusal Ended (length s))
string_from (suc k) s i = go_on (λ j. string_from k s j) i (char_at s i)

unfoldable pub string_at : List ℕ → ℕ → Reading ℕ
string_at s i = string_from (length s - i) s i

-- the scalar values up to a quote, an offence or the end
abbrev pub values_on : (ℕ → List ℕ) → Reading Step → List ℕ
values_on more (Ok (Char v j)) = v ∷ more j
values_on more (Ok Quote) = []
values_on more (Err r) = []

unfoldable pub chars_from : ℕ → List ℕ → ℕ → List ℕ
chars_from zero s i = []
chars_from (suc k) s i = values_on (λ j. chars_from k s j) (char_at s i)

unfoldable pub chars_at : List ℕ → ℕ → List ℕ
chars_at s i = chars_from (length s - i) s i

-- the characters of a name, of which s is the bytes between its quotes
abbrev pub characters : List ℕ → List ℕ
characters s = chars_at s 0

-- the bytes from a up to e
abbrev pub part : List ℕ → ℕ → ℕ → List ℕ
part s a e = take (e - a) (drop a s)
