-- Differences of two natural numbers, as integers: their order, where two are equal, and what is added, taken away or multiplied.
use Prim.Native.Nat.{ℕ, zero, suc, ◌+◌, ◌*◌, ◌-◌, ◌≤◌, ◌<◌}
use mathlib.Core.Path.{◌≡◌, refl, sym, ap, ap₂, ◌∙◌}
use mathlib.Core.Bool.{true}
use native.Mathlib.Omega.{arith}
use lib.Dec.{ltb}
use lib.IntN.{ℤ, pos, negsuc, neg_ℤ, nat_abs, sub_ℕ, ◌+ℤ◌, ◌-ℤ◌, ◌*ℤ◌, +ℤ_assoc, +ℤ_comm, -ℤ-+ℤ_cancel, +ℤ-neg_ℤ_cancel, neg_ℤ-+ℤ, zero-*ℤ, suc_ℤ-*ℤ}
use lib.Signed.{lt_z, le_z}
use borrow.Author.Tests.{ltb-true, ltb-false, lt-ltb, le-leb}
use Rattle.model.proofs.Basics.{both}

-- the difference of two integers is that of the numbers
pub sub_back : (a b : ℕ) → pos a -ℤ pos b ≡ sub_ℕ a b
sub_back a zero = both (λ (z : ℤ). pos (a + 0) ≡ z) (ltb a 0) (λ e. absurd (omega (arith, ltb-true a 0 e))) (λ _. ap pos (omega arith))
sub_back a (suc b) = refl

-- two differences from one number are as the two
module _ (a b c : ℕ) where
  pub sub_lt : a < b → lt_z (pos a -ℤ pos c) (pos b -ℤ pos c) ≡ true
  sub_lt h = ap₂ lt_z (sub_back a c) (sub_back b c) ∙ both (λ (z : ℤ). lt_z z (sub_ℕ b c) ≡ true) (ltb a c)
      (λ e. both (λ (z : ℤ). lt_z (negsuc (c - suc a)) z ≡ true) (ltb b c)
      (λ f. lt-ltb (c - suc b) (c - suc a) (omega (arith, ltb-true b c f)))
      (λ _. refl))
      (λ e. both (λ (z : ℤ). lt_z (pos (a - c)) z ≡ true) (ltb b c)
      (λ f. absurd (omega (arith, ltb-false a c e, ltb-true b c f)))
      (λ f. lt-ltb (a - c) (b - c) (omega (arith, ltb-false a c e))))

  pub sub_le : a ≤ b → le_z (pos a -ℤ pos c) (pos b -ℤ pos c) ≡ true
  sub_le h = ap₂ le_z (sub_back a c) (sub_back b c) ∙ both (λ (z : ℤ). le_z z (sub_ℕ b c) ≡ true) (ltb a c)
      (λ e. both (λ (z : ℤ). le_z (negsuc (c - suc a)) z ≡ true) (ltb b c)
      (λ f. le-leb (c - suc b) (c - suc a) (omega (arith, ltb-true b c f)))
      (λ _. refl))
      (λ e. both (λ (z : ℤ). le_z (pos (a - c)) z ≡ true) (ltb b c)
      (λ f. absurd (omega (arith, ltb-false a c e, ltb-true b c f)))
      (λ f. le-leb (a - c) (b - c) (omega (arith, ltb-false a c e))))

  pub sub_same : pos a -ℤ pos c ≡ pos b -ℤ pos c → a ≡ b
  sub_same e = ap nat_abs (sym (-ℤ-+ℤ_cancel (pos a) (pos c)) ∙ ap (λ (z : ℤ). z +ℤ pos c) e ∙ -ℤ-+ℤ_cancel (pos b) (pos c))

-- what is added to a difference, and what is taken away
module _ (a b k : ℕ) where
  pub sub_more : pos a -ℤ pos b +ℤ pos k ≡ pos (a + k) -ℤ pos b
  sub_more =
      +ℤ_assoc (pos a) (neg_ℤ (pos b)) (pos k)
      ∙ ap (λ (z : ℤ). pos a +ℤ z) (+ℤ_comm (neg_ℤ (pos b)) (pos k))
      ∙ sym (+ℤ_assoc (pos a) (pos k) (neg_ℤ (pos b)))

  pub sub_less : pos a -ℤ pos b -ℤ pos k ≡ pos a -ℤ pos (b + k)
  sub_less = +ℤ_assoc (pos a) (neg_ℤ (pos b)) (neg_ℤ (pos k)) ∙ ap (λ (z : ℤ). pos a +ℤ z) (sym (neg_ℤ-+ℤ (pos b) (pos k)))

-- two differences with the same sums across
pub sub_cross : (a b c d : ℕ) → a + d ≡ c + b → pos a -ℤ pos b ≡ pos c -ℤ pos d
sub_cross a b c d e =
    let f : b + d ≡ d + b = omega arith in
    sym (alike a b d) ∙ ap₂ (λ (x y : ℕ). pos x -ℤ pos y) e f ∙ alike c d b
  where
    -- both numbers greater by k
    alike : (a b k : ℕ) → pos (a + k) -ℤ pos (b + k) ≡ pos a -ℤ pos b
    alike a b k = sym (sub_less (a + k) b k) ∙ ap (λ (z : ℤ). z -ℤ pos k) (sym (sub_more a b k)) ∙ +ℤ-neg_ℤ_cancel (pos a -ℤ pos b) (pos k)

-- a multiple of a difference
pub sub_times : (k a b : ℕ) → pos k *ℤ (pos a -ℤ pos b) ≡ pos (k * a) -ℤ pos (k * b)
sub_times zero a b =
    let e : 0 * a ≡ 0 = omega arith in
    let f : 0 * b ≡ 0 = omega arith in
    zero-*ℤ (pos a -ℤ pos b) ∙ sym (rw (e, f) refl)
sub_times (suc k) a b =
    let e : suc k * a ≡ k * a + a = omega arith in
    let f : suc k * b ≡ k * b + b = omega arith in
    suc_ℤ-*ℤ (pos k) (pos a -ℤ pos b)
    ∙ ap (λ (z : ℤ). z +ℤ (pos a -ℤ pos b)) (sub_times k a b)
    ∙ sym (+ℤ_assoc (pos (k * a) -ℤ pos (k * b)) (pos a) (neg_ℤ (pos b)))
    ∙ ap (λ (z : ℤ). z -ℤ pos b) (sub_more (k * a) (k * b) a)
    ∙ sub_less (k * a + a) (k * b) b
    ∙ ap₂ (λ (x y : ℕ). pos x -ℤ pos y) (sym e) (sym f)
