-- A number is an integer exactly where it is spelled without fraction and exponent.
use Prim.Native.Nat.{ℕ}
use mathlib.Core.Path.{◌≡◌, refl, sym, ◌∙◌, subst}
use mathlib.Core.Logic.{◌⊎◌, inl, inr, ⊎_elim, ◌↔◌}
use mathlib.Core.Bool.{Bool, true, not, ◌&&◌, ◌||◌, false≢true}
use mathlib.Core.List.{List, [], ◌∷◌}
use native.Mathlib.Omega.{arith}
use lib.Dec.{leb, eqb}
use borrow.Author.Tests.{eqb-true, ne_eqb, leb-true, le-leb}
use Rattle.model.specs.Text.{text, all, same}
use Rattle.model.specs.Value.{is_digit, is_digits, is_int, is_fraction, is_power, is_exponent, IsNumber, is_integer}
use Rattle.model.proofs.Basics.{same_eq, or-true, and_ways, all_append, all_imp}

-- an integer part passes a test that every digit passes
pub int_all : (p : ℕ → Bool) → ((c : ℕ) → is_digit c ≡ true → p c ≡ true) → (s : List ℕ) → is_int s ≡ true → all p s ≡ true
int_all p digit [] h = refl
int_all p digit (c ∷ s) h =
    ⊎_elim (λ e. subst (λ (t : List ℕ). all p t ≡ true) (sym (same_eq (c ∷ s) (text "0") e)) (rw (digit 0x30 refl)))
    (λ e. and_ways (leb 0x31 c && leb c 0x39) (all is_digit s) e
    (λ t u. and_ways (leb 0x31 c) (leb c 0x39) t
    (λ l m. let l = leb-true 0x31 c l in rw (digit c (rw (le-leb 0x30 c (omega arith), m))) (all_imp is_digit p digit s u))))
    (or-true (same (c ∷ s) (text "0")) (leb 0x31 c && leb c 0x39 && all is_digit s) h)

-- a character of an integer
abbrev whole : ℕ → Bool
whole c = not (eqb c 0x2E || eqb c 0x45 || eqb c 0x65)

digit_whole : (c : ℕ) → is_digit c ≡ true → whole c ≡ true
digit_whole c h = and_ways (leb 0x30 c) (leb c 0x39) h (λ l m.
    let l = leb-true 0x30 c l in
    let m = leb-true c 0x39 m in
    rw (ne_eqb c 0x2E (omega arith), ne_eqb c 0x45 (omega arith), ne_eqb c 0x65 (omega arith)))

minus_whole : (s : List ℕ) → (s ≡ []) ⊎ (s ≡ text "-") → all whole s ≡ true
minus_whole s (inl e) = subst (λ (t : List ℕ). all whole t ≡ true) (sym e) refl
minus_whole s (inr e) = subst (λ (t : List ℕ). all whole t ≡ true) (sym e) refl

-- what begins a fraction or an exponent is no character of an integer
fraction_none : (s : List ℕ) → is_fraction s ≡ true → all whole s ≡ true → s ≡ []
fraction_none [] h k = refl
fraction_none (c ∷ s) h k = and_ways (eqb c 0x2E) (is_digits s) h (λ t _. absurd (false≢true (rw (eqb-true c 0x2E t) at k)))

exponent_none : (s : List ℕ) → is_exponent s ≡ true → all whole s ≡ true → s ≡ []
exponent_none [] h k = refl
exponent_none (c ∷ s) h k =
    and_ways (eqb c 0x45 || eqb c 0x65) (is_power s) h
    (λ t _. absurd (⊎_elim (λ e. false≢true (rw (eqb-true c 0x45 e) at k)) (λ e. false≢true (rw (eqb-true c 0x65 e) at k))
    (or-true (eqb c 0x45) (eqb c 0x65) t)))

by_parts : {s : List ℕ} (h : IsNumber s)
    → all whole s ≡ (all whole h.minus && (all whole h.int && (all whole h.fraction && all whole h.exponent)))
by_parts h = rw (h.spelled, all_append whole h.minus _, all_append whole h.int _, all_append whole h.fraction _)

pub integer_spelled : (s : List ℕ) (h : IsNumber s) → (is_integer s ≡ true) ↔ ((h.fraction ≡ []) × (h.exponent ≡ []))
integer_spelled s h = (
  λ e. and_ways (all whole h.minus) _ (sym (by_parts h) ∙ e)
      (λ _ r. and_ways (all whole h.int) _ r
      (λ _ r. and_ways (all whole h.fraction) (all whole h.exponent) r
      (λ t u. (fraction_none h.fraction h.is-fraction t, exponent_none h.exponent h.is-exponent u)))),
  λ e. by_parts h ∙ rw (minus_whole h.minus h.is_minus, int_all whole digit_whole h.int h.is-int, e.0, e.1),
)
