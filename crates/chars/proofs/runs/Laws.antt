-- A run of bytes that pass a test: a step of it, where it stops, its bounds.
use mathlib.Core.Path.{◌≡◌, refl}
use mathlib.Core.List.{List}
use mathlib.Core.Bool.{Bool, true, false, cond}
use Prim.Native.Nat.{ℕ, zero, suc, ◌+◌, ◌-◌, ◌≤◌, ◌<◌}
use native.Mathlib.Omega.{arith}
use lib.ListN.{length}
use Rattle.model.proofs.Basics.{both}
use Rattle.chars.specs.Bytes.{byte_at}
use Rattle.chars.specs.Runs.{run_from, run}

module _ (p : ℕ → Bool) (s : List ℕ) where
  pub run_end : (i : ℕ) → length s ≤ i → run p s i ≡ i
  unfolding run run_from
  run_end i h = let e : length s - i ≡ 0 = omega arith in rw e

  pub run_next : (i : ℕ) → i < length s → p (byte_at s i) ≡ true → run p s i ≡ run p s (i + 1)
  unfolding run run_from
  run_next i h t = let e : length s - i ≡ suc (length s - (i + 1)) = omega arith in rw (e, t)

  pub run_stop : (i : ℕ) → p (byte_at s i) ≡ false → run p s i ≡ i
  unfolding run run_from
  run_stop i t = go (length s - i)
    where
      go : (k : ℕ) → run_from k p s i ≡ i
      go zero = refl
      go (suc k) = rw t

  from_bound : (k i : ℕ) → (i ≤ run_from k p s i) × (run_from k p s i ≤ i + k)
  unfolding run_from
  from_bound zero i = (omega arith, omega arith)
  from_bound (suc k) i = go (p (byte_at s i)) (from_bound k (i + 1))
    where
      go : (b : Bool) → (i + 1 ≤ run_from k p s (i + 1)) × (run_from k p s (i + 1) ≤ i + 1 + k)
          → (i ≤ cond b (run_from k p s (i + 1)) i) × (cond b (run_from k p s (i + 1)) i ≤ i + suc k)
      go true h = (omega arith, omega arith)
      go false h = (omega arith, omega arith)

  pub run-from : (i : ℕ) → i ≤ run p s i
  unfolding run
  run-from i = (from_bound (length s - i) i).0

  pub run_within : (i : ℕ) → i ≤ length s → run p s i ≤ length s
  unfolding run
  run_within i h = omega (arith, (from_bound (length s - i) i).1)

  from_ended : (k i : ℕ) → length s ≤ i + k → run_from k p s i < length s → p (byte_at s (run_from k p s i)) ≡ false
  unfolding run_from
  from_ended zero i h = λ l. absurd (omega arith)
  from_ended (suc k) i h = both (λ e. e < length s → p (byte_at s e) ≡ false) (p (byte_at s i)) (λ _. from_ended k (i + 1) (omega arith)) (λ f _. f)

  -- where it ends within the text, a byte stands that does not pass
  pub run_ended : (i : ℕ) → run p s i < length s → p (byte_at s (run p s i)) ≡ false
  unfolding run
  run_ended i = from_ended (length s - i) i (omega arith)
