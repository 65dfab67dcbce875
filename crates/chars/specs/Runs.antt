-- Runs of bytes that pass a test.
use Rattle.std.specs.Prelude.{ℕ, zero, suc, ◌+◌, ◌-◌, ◌≡◌, List, Bool, cond, length}
use Rattle.chars.specs.Bytes.{byte_at}

-- the first place from i on whose byte does not pass the test, k bytes at most from i
unfoldable pub run_from : ℕ → (ℕ → Bool) → List ℕ → ℕ → ℕ
run_from zero p s i = i
run_from (suc k) p s i = let r = run_from k p s (i + 1) in cond (p (byte_at s i)) r i

unfoldable pub run : (ℕ → Bool) → List ℕ → ℕ → ℕ
run p s i = run_from (length s - i) p s i

-- what is told of a byte is the test p
abbrev pub Answers : (ℕ → Bool → Type 0) → (ℕ → Bool) → Type 0
Answers tells p = (b : ℕ) (r : Bool) → tells b r → r ≡ p b
