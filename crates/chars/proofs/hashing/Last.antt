-- The last number below n that passes a test: an index of names by hash is made of such numbers.
use Prim.Native.Nat.{ℕ, zero, suc, ◌-◌, ◌≤◌, ◌<◌}
use mathlib.Core.Path.{◌≡◌, refl}
use mathlib.Core.Logic.{⊎_elim}
use mathlib.Core.Bool.{Bool, true, false}
use native.Mathlib.Nat.{le_of_suc-le-suc, eq-or-lt_of_le}
use native.Mathlib.Omega.{arith}
use Rattle.model.proofs.Basics.{clash, both}
use Rattle.chars.specs.Hashing.{last_passing}

module _ (p : ℕ → Bool) where
  pub last_here : (n : ℕ) → p n ≡ true → last_passing p (suc n) ≡ n
  unfolding last_passing
  last_here n e = rw e

  pub last_before : (n : ℕ) → p n ≡ false → last_passing p (suc n) ≡ last_passing p n
  unfolding last_passing
  last_before n e = rw e

  pub last_most : (n : ℕ) → last_passing p n ≤ n - 1
  unfolding last_passing
  last_most zero = omega arith
  last_most (suc n) = both (λ x. x ≤ suc n - 1) (p n) (λ _. omega arith) (λ _. omega (arith, last_most n))

  -- it passes
  pub last_found : (n : ℕ) → 0 < last_passing p n → p (last_passing p n) ≡ true
  unfolding last_passing
  last_found zero l = absurd (omega arith)
  last_found (suc n) l = both (λ x. 0 < x → p x ≡ true) (p n) (λ t _. t) (λ _ m. last_found n m) l

  -- and none behind it does
  pub last_skips : (n j : ℕ) → last_passing p n < j → j < n → p j ≡ true → ⊥
  unfolding last_passing
  last_skips zero j l m e = omega arith
  last_skips (suc n) j l m e =
      both (λ x. x < j → ⊥) (p n) (λ _ u. omega arith)
      (λ t u. ⊎_elim (λ z. clash (p n) (rw z at e) t) (λ v. last_skips n j u v e) (eq-or-lt_of_le (le_of_suc-le-suc m))) l

  -- none passes from m on
  pub last_none : (m n : ℕ) → m ≤ n → ((j : ℕ) → m ≤ j → j < n → p j ≡ false) → last_passing p n ≡ last_passing p m
  unfolding last_passing
  last_none m zero l f = let z : m ≡ 0 = omega arith in rw z
  last_none m (suc n) l f =
      ⊎_elim (λ z. rw z)
      (λ v. let h : m ≤ n = le_of_suc-le-suc v in rw (f n h (omega arith)) (last_none m n h (λ j a b. f j a (omega arith)))) (eq-or-lt_of_le l)

  pub last_nothing : (n : ℕ) → ((j : ℕ) → j < n → p j ≡ false) → last_passing p n ≡ 0
  unfolding last_passing
  last_nothing n f = last_none 0 n (omega arith) (λ j _ l. f j l)

-- another test that the same numbers below n pass
pub last_same : (p q : ℕ → Bool) (n : ℕ) → ((j : ℕ) → j < n → q j ≡ p j) → last_passing q n ≡ last_passing p n
unfolding last_passing
last_same p q zero f = refl
last_same p q (suc n) f = rw (f n (omega arith), last_same p q n (λ j l. f j (omega arith)))
