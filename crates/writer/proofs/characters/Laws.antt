-- The spelling of a character, by cases.
use Prim.Native.Nat.{ℕ, ◌/◌, ◌%◌, ◌+◌, ◌≤◌, ◌<◌}
use mathlib.Core.Path.{◌≡◌, ap}
use mathlib.Core.Bool.{true}
use mathlib.Core.List.{List, [], ◌∷◌}
use native.Mathlib.Omega.{arith}
use lib.ListN.{length}
use lib.Seq.{sets}
use borrow.Author.Tests.{ne_eqb, lt-ltb, le-ltb}
use Rattle.std.specs.Prelude.{Some, None}
use Rattle.std.proofs.lemmas.Bool.Decides.{nat_tests}
use Rattle.grammar.specs.Utf8.{utf8}
use Rattle.writer.specs.Spell.{is_escaped, letter_of, hex_digit, long_form, spell_char}
use Rattle.writer.specs.Compact.{over}
use Rattle.writer.proofs.Over.{over_sets, over_as}

module _ (c : ℕ) where
  -- what has a short form is escaped
  letter_escaped : {l : ℕ} → letter_of c ≡ Some l → is_escaped c ≡ true
  unfolding letter_of
  letter_escaped e = grind (arith, nat_tests)

  -- the quote and the backslash have one
  no_letter : letter_of c ≡ None → (c ≡ 0x22 → ⊥) × (c ≡ 0x5C → ⊥)
  unfolding letter_of
  no_letter e = (λ h. grind (arith, nat_tests), λ h. grind (arith, nat_tests))

  pub by_short : {l : ℕ} → letter_of c ≡ Some l → spell_char c ≡ 0x5C ∷ l ∷ []
  unfolding spell_char
  by_short e = rw (letter_escaped e, e)

  pub by_long : letter_of c ≡ None → c < 0x20 → spell_char c ≡ long_form c
  unfolding spell_char
  by_long e l = rw (lt-ltb c 0x20 l, e)

  pub by_utf8 : letter_of c ≡ None → 0x20 ≤ c → spell_char c ≡ utf8 c
  unfolding spell_char
  by_utf8 e l = let n = no_letter e in rw (le-ltb c 0x20 l, ne_eqb c 0x22 n.0, ne_eqb c 0x5C n.1)

-- ---- a buffer that has room for the spelling

-- the two bytes of a short escape, stored one behind the other
pub short_written : (c : ℕ) {l : ℕ} → letter_of c ≡ Some l → (out : List ℕ) → length (spell_char c) ≤ length out
    → (2 ≡ length (spell_char c)) × (sets out 0 (0x5C ∷ l ∷ []) ≡ over (spell_char c) out)
short_written c e out h = over_as out (by_short c e) h

pub long_ready : (c : ℕ) {m : ℕ} → letter_of c ≡ None → c < 0x20 → length (spell_char c) ≤ m → (c < 0x20) × (6 ≤ m)
long_ready c e l h = (l, omega (arith, ap length (by_long c e l)))

-- the six bytes of the long one
pub long_written : (c : ℕ) (out : List ℕ) {a b : ℕ} → a ≡ hex_digit (c / 16) → b ≡ hex_digit (c % 16) → 6 ≤ length out
    → sets out 0 (0x5C ∷ 0x75 ∷ 0x30 ∷ 0x30 ∷ a ∷ b ∷ []) ≡ over (long_form c) out
long_written c out p q h = rw (p, q) (over_sets out (long_form c) h)

pub utf8_ready : (c : ℕ) {m : ℕ} → letter_of c ≡ None → 0x20 ≤ c → (c ≤ 0x10FFFF) × (length (spell_char c) ≤ m) → (c ≤ 0x10FFFF) × (length (utf8 c) ≤ m)
utf8_ready c z l h = rw (by_utf8 c z l) at h

module _ (c : ℕ) where
  -- ---- UTF-8, by how many bytes it takes

  pub utf8_one : c < 0x80 → utf8 c ≡ c ∷ []
  unfolding utf8
  utf8_one l = rw (lt-ltb c 0x80 l)

  pub utf8_two : 0x80 ≤ c → c < 0x800 → utf8 c ≡ (0xC0 + c / 64) ∷ (0x80 + c % 64) ∷ []
  unfolding utf8
  utf8_two m l = rw (le-ltb c 0x80 m, lt-ltb c 0x800 l)

  pub utf8_three : 0x800 ≤ c → c < 0x10000 → utf8 c ≡ (0xE0 + c / 4096) ∷ (0x80 + c / 64 % 64) ∷ (0x80 + c % 64) ∷ []
  unfolding utf8
  utf8_three m l = rw (le-ltb c 0x80 (omega arith), le-ltb c 0x800 m, lt-ltb c 0x10000 l)

  pub utf8_four : 0x10000 ≤ c → utf8 c ≡ (0xF0 + c / 262144) ∷ (0x80 + c / 4096 % 64) ∷ (0x80 + c / 64 % 64) ∷ (0x80 + c % 64) ∷ []
  unfolding utf8
  utf8_four m = rw (le-ltb c 0x80 (omega arith), le-ltb c 0x800 (omega arith), le-ltb c 0x10000 m)
