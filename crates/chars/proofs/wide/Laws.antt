-- A character of several bytes, by its first byte and the six bits of each other.
use mathlib.Core.Path.{◌≡◌, ◌∙◌}
use mathlib.Core.List.{List}
use Prim.Native.Nat.{ℕ, ◌+◌, ◌≤◌, ◌<◌}
use native.Mathlib.Omega.{arith}
use Rattle.std.specs.Prelude.{Some}
use Rattle.chars.specs.Bytes.{byte_at, lowest, highest, six_bits}
use Rattle.chars.specs.Wide.{WideStep}
use Rattle.chars.proofs.characters.Utf8.{by_first, from_two, from_three, from_four, two_read, three_read, four_read}

-- b is the first byte, and c, d and e are the bits of the others
module _ (s : List ℕ) (i : ℕ) {b : ℕ} (first : b ≡ byte_at s i) {c : ℕ} where
  pub two_wide : 0xC2 ≤ b → b < 0xE0 → six_bits (byte_at s (i + 1)) 0x80 0xBF ≡ Some c → WideStep s i (i + 2)
  two_wide lo hi e = (_, by_first s i first (from_two s i lo hi ∙ two_read s i b e))

  module _ (second : six_bits (byte_at s (i + 1)) (lowest b) (highest b) ≡ Some c) {d : ℕ} (third : six_bits (byte_at s (i + 2)) 0x80 0xBF ≡ Some d) where
    pub three_wide : 0xE0 ≤ b → b < 0xF0 → WideStep s i (i + 3)
    three_wide lo hi = (_, by_first s i first (from_three s i (omega arith) lo hi ∙ three_read s i b second third))

    pub four_wide : {e : ℕ} → 0xF0 ≤ b → b < 0xF5 → six_bits (byte_at s (i + 3)) 0x80 0xBF ≡ Some e → WideStep s i (i + 4)
    four_wide lo hi e = (_, by_first s i first (from_four s i (omega arith) lo hi ∙ four_read s i b second third e))
