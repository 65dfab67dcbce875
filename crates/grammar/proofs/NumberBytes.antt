-- Every byte of a number passes a test that digits, signs, the point and the letters of an exponent pass.
use Prim.Native.Nat.{ℕ}
use mathlib.Core.Path.{◌≡◌, refl, sym, subst}
use mathlib.Core.Logic.{⊎_elim}
use mathlib.Core.Bool.{Bool, true, ◌&&◌, ◌||◌}
use mathlib.Core.List.{List, [], ◌∷◌}
use lib.Dec.{eqb}
use borrow.Author.Tests.{eqb-true}
use Rattle.model.specs.Text.{all}
use Rattle.model.specs.Value.{is_digit, is_digits, is_fraction, is_power, is_exponent, IsNumber}
use Rattle.model.proofs.Basics.{and_ways, or-true, all_append, all_imp}
use Rattle.model.proofs.Integers.{int_all}

module _ (p : ℕ → Bool) (digit : (c : ℕ) → is_digit c ≡ true → p c ≡ true)
    (plus : p 0x2B ≡ true) (minus : p 0x2D ≡ true) (point : p 0x2E ≡ true) (upper : p 0x45 ≡ true) (lower : p 0x65 ≡ true) where
  one : (c : ℕ) → p c ≡ true → all p (c ∷ []) ≡ true
  one c t = rw t

  -- one of two bytes that pass, and bytes that do behind it
  either : (c j k : ℕ) (w : List ℕ) → p j ≡ true → p k ≡ true → eqb c j || eqb c k ≡ true → all p w ≡ true → all p (c ∷ w) ≡ true
  either c j k w t u h r = ⊎_elim (λ e. rw (eqb-true c j e, t) r) (λ e. rw (eqb-true c k e, u) r) (or-true (eqb c j) (eqb c k) h)

  digits : (w : List ℕ) → all is_digit w ≡ true → all p w ≡ true
  digits w h = all_imp is_digit p digit w h

  some_digits : (w : List ℕ) → is_digits w ≡ true → all p w ≡ true
  some_digits [] h = refl
  some_digits (c ∷ w) h = digits (c ∷ w) h

  fraction : (w : List ℕ) → is_fraction w ≡ true → all p w ≡ true
  fraction [] h = refl
  fraction (c ∷ w) h = and_ways (eqb c 0x2E) (is_digits w) h (λ t u. rw (eqb-true c 0x2E t, point) (some_digits w u))

  power : (w : List ℕ) → is_power w ≡ true → all p w ≡ true
  power [] h = refl
  power (c ∷ w) h =
      ⊎_elim (λ t. some_digits (c ∷ w) t)
      (λ t. and_ways (eqb c 0x2B || eqb c 0x2D) (is_digits w) t (λ u v. either c 0x2B 0x2D w plus minus u (some_digits w v)))
      (or-true (is_digits (c ∷ w)) ((eqb c 0x2B || eqb c 0x2D) && is_digits w) h)

  exponent : (w : List ℕ) → is_exponent w ≡ true → all p w ≡ true
  exponent [] h = refl
  exponent (c ∷ w) h = and_ways (eqb c 0x45 || eqb c 0x65) (is_power w) h (λ t u. either c 0x45 0x65 w upper lower t (power w u))

  pub number_all : {w : List ℕ} → IsNumber w → all p w ≡ true
  number_all h =
      let sign : all p h.minus ≡ true = ⊎_elim (λ e. rw e) (λ e. subst (λ (x : List ℕ). all p x ≡ true) (sym e) (one 0x2D minus)) h.is_minus in
      rw (
        h.spelled,
        all_append p h.minus _,
        all_append p h.int _,
        all_append p h.fraction _,
        sign,
        int_all p digit h.int h.is-int,
        fraction h.fraction h.is-fraction,
        exponent h.exponent h.is-exponent,
      )
