-- A character by its bytes: one byte, and two, three and four.
use mathlib.Core.Path.{◌≡◌, sym, ap, ◌∙◌}
use mathlib.Core.List.{List}
use Prim.Native.Nat.{ℕ, ◌+◌, ◌-◌, ◌*◌, ◌≤◌, ◌<◌}
use native.Mathlib.Omega.{arith}
use borrow.Author.Tests.{lt-ltb, le-ltb, ne_eqb}
use Rattle.chars.specs.declared.characters.Step.{Step}
use Rattle.chars.specs.declared.characters.Step.TheVariants.{Char}
use Rattle.chars.specs.Bytes.{byte_at, lowest, highest, six_bits}
use Rattle.chars.specs.Characters.{two_at, three_at, four_at, char_from, char_at}
use Rattle.std.specs.Prelude.{Ok, Some}
use Rattle.chars.specs.Refusals.{Reading}

-- x is the character at i: b is the byte there, and x the character by b
pub by_first : (s : List ℕ) (i : ℕ) {b : ℕ} {x : Reading Step} → b ≡ byte_at s i → char_from s i b ≡ x → char_at s i ≡ x
unfolding char_at
by_first s i first e = sym (ap (char_from s i) first) ∙ e

-- by the first byte
module _ (s : List ℕ) (i : ℕ) {b : ℕ} where
  pub from_ascii : 0x20 ≤ b → b < 0x80 → (b ≡ 0x22 → ⊥) → (b ≡ 0x5C → ⊥) → char_from s i b ≡ Ok (Char b (i + 1))
  unfolding char_from
  from_ascii lo hi n m = rw (ne_eqb b 0x22 n, ne_eqb b 0x5C m, le-ltb b 0x20 lo, lt-ltb b 0x80 hi)

  module _ (wide : 0xC2 ≤ b) where
    pub from_two : b < 0xE0 → char_from s i b ≡ two_at s i b
    unfolding char_from
    from_two hi =
        rw (
          ne_eqb b 0x22 (λ q. omega arith),
          ne_eqb b 0x5C (λ q. omega arith),
          le-ltb b 0x20 (omega arith),
          le-ltb b 0x80 (omega arith),
          le-ltb b 0xC2 wide,
          lt-ltb b 0xE0 hi,
        )

    pub from_three : 0xE0 ≤ b → b < 0xF0 → char_from s i b ≡ three_at s i b
    unfolding char_from
    from_three lo hi =
        rw (
          ne_eqb b 0x22 (λ q. omega arith),
          ne_eqb b 0x5C (λ q. omega arith),
          le-ltb b 0x20 (omega arith),
          le-ltb b 0x80 (omega arith),
          le-ltb b 0xC2 wide,
          le-ltb b 0xE0 lo,
          lt-ltb b 0xF0 hi,
        )

    pub from_four : 0xF0 ≤ b → b < 0xF5 → char_from s i b ≡ four_at s i b
    unfolding char_from
    from_four lo hi =
        rw (
          ne_eqb b 0x22 (λ q. omega arith),
          ne_eqb b 0x5C (λ q. omega arith),
          le-ltb b 0x20 (omega arith),
          le-ltb b 0x80 (omega arith),
          le-ltb b 0xC2 wide,
          le-ltb b 0xE0 (omega arith),
          le-ltb b 0xF0 lo,
          lt-ltb b 0xF5 hi,
        )

-- of two, three and four bytes: c, d and e are the bits of those behind the first, b
module _ (s : List ℕ) (i b : ℕ) {c : ℕ} where
  pub two_read : six_bits (byte_at s (i + 1)) 0x80 0xBF ≡ Some c → two_at s i b ≡ Ok (Char (64 * (b - 0xC0) + c) (i + 2))
  unfolding two_at
  two_read e = rw e

  module _ (second : six_bits (byte_at s (i + 1)) (lowest b) (highest b) ≡ Some c) {d : ℕ} (third : six_bits (byte_at s (i + 2)) 0x80 0xBF ≡ Some d) where
    pub three_read : three_at s i b ≡ Ok (Char (4096 * (b - 0xE0) + 64 * c + d) (i + 3))
    unfolding three_at
    three_read = rw (second, third)

    pub four_read : {e : ℕ} → six_bits (byte_at s (i + 3)) 0x80 0xBF ≡ Some e → four_at s i b ≡ Ok (Char (262144 * (b - 0xF0) + 4096 * c + 64 * d + e) (i + 4))
    unfolding four_at
    four_read fourth = rw (second, third, fourth)
