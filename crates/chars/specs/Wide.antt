-- For private contracts: a character of several bytes, which is passed without its value.
use Rattle.std.specs.Prelude.{ℕ, ◌≡◌, List, Ok}
use Rattle.chars.specs.declared.characters.Step.TheVariants.{Char}
use Rattle.chars.specs.Characters.{char_at}

-- next is the place behind the character that stands at i
abbrev pub WideStep : List ℕ → ℕ → ℕ → Type 0
WideStep s i next = (v : ℕ) × (char_at s i ≡ Ok (Char v next))
