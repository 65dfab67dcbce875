-- Four numbers in one word: each comes out as it went in.
use mathlib.Core.Path.{◌≡◌}
use Prim.Native.Nat.{ℕ, ◌<◌}
use native.Mathlib.Omega.{arith}
use Rattle.marks.specs.Packing.{packed, first_in, second_in, third_in, fourth_in}

pub unpacked : (a b c d : ℕ) → a < 65536 → b < 65536 → c < 65536 → d < 65536
    → (first_in (packed a b c d) ≡ a) × (second_in (packed a b c d) ≡ b) × (third_in (packed a b c d) ≡ c) × (fourth_in (packed a b c d) ≡ d)
unpacked a b c d h i j k = omega arith
