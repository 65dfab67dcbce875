-- A backslash and a letter that names a character are that character.
use Prim.Native.Nat.{ℕ, ◌+◌}
use mathlib.Core.Path.{◌≡◌, sym, subst, ◌∙◌}
use mathlib.Core.List.{List}
use borrow.Author.Tests.{ne_eqb}
use Rattle.std.specs.Prelude.{Option, Some, None, Ok}
use Rattle.chars.specs.Bytes.{byte_at, escape_of}
use Rattle.chars.specs.Characters.{escape_at, char_from, char_at}
use Rattle.chars.specs.declared.characters.Step.TheVariants.{Char}

-- no value
abbrev Missing : Option ℕ → Type 0
Missing None = Unit {0}
Missing (Some v) = ⊥

-- behind a backslash u names no character by itself
no_unicode : {b c : ℕ} → escape_of b ≡ Some c → b ≡ 0x75 → ⊥
unfolding escape_of
no_unicode {b} {c} t z =
    let m : Missing (escape_of 0x75) = tt in
    let u : escape_of 0x75 ≡ Some c = rw z at t in
    subst Missing u m

pub short_char : (s : List ℕ) (i : ℕ) {b c : ℕ} → b ≡ byte_at s i → b ≡ 0x5C → escape_of (byte_at s (i + 1)) ≡ Some c → char_at s i ≡ Ok (Char c (i + 2))
unfolding char_at char_from escape_at
short_char s i e h t = rw (sym e ∙ h, ne_eqb (byte_at s (i + 1)) 0x75 (no_unicode t), t)
