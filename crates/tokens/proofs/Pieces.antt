-- Parts of a text, one behind the other, and tests that all bytes of a part pass.
use mathlib.Core.Path.{◌≡◌, ap, ◌∙◌}
use mathlib.Core.List.{List, [], ◌∷◌, ◌++◌}
use mathlib.Core.Bool.{Bool, true}
use Prim.Native.Nat.{ℕ, zero, suc, ◌+◌, ◌-◌, ◌≤◌, ◌<◌}
use native.Mathlib.Numerals.{add-one}
use native.Mathlib.Decide.{dec_lt}
use native.Mathlib.Omega.{arith}
use lib.ListN.{length}
use lib.Seq.{drop-cons, drop-drop, take-add}
use Rattle.model.specs.Text.{all}
use Rattle.chars.specs.Bytes.{byte_at}
use Rattle.chars.specs.Runs.{run_from, run}
use Rattle.chars.specs.Strings.{part}
use Rattle.model.proofs.Basics.{both}
use Rattle.chars.proofs.Facts.{run_end, run-from, run_within}

module _ (s : List ℕ) where
  pub part_none : (a : ℕ) → part s a a ≡ []
  part_none a = let z : a - a ≡ 0 = omega arith in rw z

  -- the first byte of a part
  pub part_cons : (a e : ℕ) → a < e → a < length s → part s a e ≡ byte_at s a ∷ part s (a + 1) e
  part_cons a e l h = let z : e - a ≡ suc (e - (a + 1)) = omega arith in rw (z, drop-cons s a 0 h, add-one)

  pub part_one : (a : ℕ) → a < length s → part s a (a + 1) ≡ byte_at s a ∷ []
  part_one a h = part_cons a (a + 1) (omega arith) h ∙ ap (◌∷◌ (byte_at s a)) (part_none (a + 1))

  -- one part behind the other
  pub part_join : (a b c : ℕ) → a ≤ b → b ≤ c → part s a b ++ part s b c ≡ part s a c
  part_join a b c l m =
      let n : a + (b - a) ≡ b = omega arith in
      let z : c - a ≡ b - a + (c - b) = omega arith in
      rw (z, take-add, drop-drop, n)

module _ (p : ℕ → Bool) (s : List ℕ) where
  from_least : (k i : ℕ) → i ≤ run_from k p s i
  unfolding run_from
  from_least zero i = omega arith
  from_least (suc k) i = both (λ e. i ≤ e) (p (byte_at s i)) (λ _. omega (arith, from_least k (i + 1))) (λ _. omega arith)

  from_all : (k i : ℕ) → k ≤ length s - i → all p (part s i (run_from k p s i)) ≡ true
  unfolding run_from
  from_all zero i h = ap (all p) (part_none s i)
  from_all (suc k) i h =
      both (λ e. all p (part s i e) ≡ true) (p (byte_at s i))
      (λ t. rw (part_cons s i (run_from k p s (i + 1)) (omega (arith, from_least k (i + 1))) (omega arith), t) (from_all k (i + 1) (omega arith)))
      (λ _. ap (all p) (part_none s i))

  -- all bytes of a run pass its test
  pub run_all : (i : ℕ) → all p (part s i (run p s i)) ≡ true
  unfolding run
  run_all i = from_all (length s - i) i (omega arith)

  -- a run that goes on stays within the text
  pub run_some : (i : ℕ) → (run p s i ≡ i → ⊥) → (i < run p s i) × (run p s i ≤ length s)
  run_some i n = go (dec_lt i (length s))
    where
      go : Dec (i < length s) → (i < run p s i) × (run p s i ≤ length s)
      go (yes l) = omega (arith, run-from p s i, run_within p s i (omega arith), n)
      go (no m) = absurd (n (run_end p s i (omega arith)))
