-- The three numbers of moments are what their names say: how many, the earliest and the latest (02, L3).
use mathlib.Core.Path.{◌≡◌, refl, ◌∙◌}
use mathlib.Core.Logic.{inl, inr}
use mathlib.Core.Bool.{true, false}
use mathlib.Core.List.{List, [], ◌∷◌, cons≢nil}
use native.Mathlib.Omega.{arith}
use lib.IntN.{ℤ, pos, negsuc}
use lib.Signed.{le_z, lt_z, ◌≤ℤ◌, le_z_yes}
use borrow.Author.Tests.{le-leb, leb-true, ltb-true, ltb-false}
use Rattle.model.proofs.Basics.{both, by_test, clash, true→T}
use Rattle.schema.specs.Dates.{lesser, greater, least_of, greatest_of, earliest, latest, dates_of, Listed, Spans}

-- ---- the order of moments

le_refl : (a : ℤ) → le_z a a ≡ true
le_refl (pos a) = le-leb a a (omega arith)
le_refl (negsuc a) = le-leb a a (omega arith)

le_trans : (a b c : ℤ) → le_z a b ≡ true → le_z b c ≡ true → le_z a c ≡ true
le_trans (pos a) (pos b) (pos c) h k = le-leb a c (omega (arith, leb-true a b h, leb-true b c k))
le_trans (pos a) (pos b) (negsuc c) h k = k
le_trans (pos a) (negsuc b) c h k = clash false h refl
le_trans (negsuc a) (pos b) (pos c) h k = refl
le_trans (negsuc a) (pos b) (negsuc c) h k = clash false k refl
le_trans (negsuc a) (negsuc b) (pos c) h k = refl
le_trans (negsuc a) (negsuc b) (negsuc c) h k = le-leb c a (omega (arith, leb-true b a h, leb-true c b k))

lt_le : (a b : ℤ) → lt_z a b ≡ true → le_z a b ≡ true
lt_le (pos a) (pos b) h = le-leb a b (omega (arith, ltb-true a b h))
lt_le (pos a) (negsuc b) h = h
lt_le (negsuc a) (pos b) h = refl
lt_le (negsuc a) (negsuc b) h = le-leb b a (omega (arith, ltb-true b a h))

not_lt_le : (a b : ℤ) → lt_z a b ≡ false → le_z b a ≡ true
not_lt_le (pos a) (pos b) h = le-leb b a (omega (arith, ltb-false a b h))
not_lt_le (pos a) (negsuc b) h = refl
not_lt_le (negsuc a) (pos b) h = clash true refl h
not_lt_le (negsuc a) (negsuc b) h = le-leb a b (omega (arith, ltb-false b a h))

-- ---- none is before the least or behind the greatest

lesser_left : (a b : ℤ) → le_z (lesser a b) a ≡ true
lesser_left a b = both (λ (z : ℤ). le_z z a ≡ true) (lt_z a b) (λ e. le_refl a) (λ e. not_lt_le a b e)

lesser_right : (a b : ℤ) → le_z (lesser a b) b ≡ true
lesser_right a b = both (λ (z : ℤ). le_z z b ≡ true) (lt_z a b) (λ e. lt_le a b e) (λ e. le_refl b)

greater_left : (a b : ℤ) → le_z a (greater a b) ≡ true
greater_left a b = both (λ (z : ℤ). le_z a z ≡ true) (lt_z a b) (λ e. lt_le a b e) (λ e. le_refl a)

greater_right : (a b : ℤ) → le_z b (greater a b) ≡ true
greater_right a b = both (λ (z : ℤ). le_z b z ≡ true) (lt_z a b) (λ e. le_refl b) (λ e. not_lt_le a b e)

least_first : (a : ℤ) (ms : List ℤ) → le_z (least_of a ms) a ≡ true
unfolding least_of
least_first a [] = le_refl a
least_first a (k ∷ ks) = le_trans (least_of (lesser k a) ks) (lesser k a) a (least_first (lesser k a) ks) (lesser_right k a)

least_all : (a : ℤ) (ms : List ℤ) (m : ℤ) → Listed m (a ∷ ms) → le_z (least_of a ms) m ≡ true
unfolding least_of
least_all a ms m (inl e) = rw e (least_first a ms)
least_all a [] m (inr h) = elim h [ ]
least_all a (k ∷ ks) m (inr (inl e)) = rw e (le_trans (least_of (lesser k a) ks) (lesser k a) k (least_first (lesser k a) ks) (lesser_left k a))
least_all a (k ∷ ks) m (inr (inr h)) = least_all (lesser k a) ks m (inr h)

greatest_first : (a : ℤ) (ms : List ℤ) → le_z a (greatest_of a ms) ≡ true
unfolding greatest_of
greatest_first a [] = le_refl a
greatest_first a (k ∷ ks) = le_trans a (greater a k) (greatest_of (greater a k) ks) (greater_left a k) (greatest_first (greater a k) ks)

greatest_all : (a : ℤ) (ms : List ℤ) (m : ℤ) → Listed m (a ∷ ms) → le_z m (greatest_of a ms) ≡ true
unfolding greatest_of
greatest_all a ms m (inl e) = rw e (greatest_first a ms)
greatest_all a [] m (inr h) = elim h [ ]
greatest_all a (k ∷ ks) m (inr (inl e)) = rw e (le_trans k (greater a k) (greatest_of (greater a k) ks) (greater_right a k) (greatest_first (greater a k) ks))
greatest_all a (k ∷ ks) m (inr (inr h)) = greatest_all (greater a k) ks m (inr h)

-- ---- and both are among them

least_one : (a : ℤ) (ms : List ℤ) → Listed (least_of a ms) (a ∷ ms)
unfolding least_of
least_one a [] = inl refl
least_one a (k ∷ ks) = elim (least_one (lesser k a) ks) [
  | inl e ↦ by_test (lt_z k a) (λ f. inr (inl (e ∙ rw f refl))) (λ f. inl (e ∙ rw f refl))
  | inr h ↦ inr (inr h)
]

greatest_one : (a : ℤ) (ms : List ℤ) → Listed (greatest_of a ms) (a ∷ ms)
unfolding greatest_of
greatest_one a [] = inl refl
greatest_one a (k ∷ ks) = elim (greatest_one (greater a k) ks) [
  | inl e ↦ by_test (lt_z a k) (λ f. inr (inl (e ∙ rw f refl))) (λ f. inl (e ∙ rw f refl))
  | inr h ↦ inr (inr h)
]

at_most : {a b : ℤ} → le_z a b ≡ true → a ≤ℤ b
at_most {a} {b} h = le_z_yes (true→T (le_z a b) h)

pub spans : (ms : List ℤ) → Spans ms (dates_of ms)
unfolding earliest latest
spans [] = record {
  count = refl;
  none = λ _. refl;
  first = λ h. absurd (h refl);
  before_none = λ m h. absurd h;
  last = λ h. absurd (h refl);
  behind_none = λ m h. absurd h;
}
spans (a ∷ ms) = record {
  count = refl;
  none = λ e. absurd (cons≢nil e);
  first = λ _. least_one a ms;
  before_none = λ m h. at_most (least_all a ms m h);
  last = λ _. greatest_one a ms;
  behind_none = λ m h. at_most (greatest_all a ms m h);
}
