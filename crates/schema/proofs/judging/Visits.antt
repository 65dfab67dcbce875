-- What is judged, one list behind the other: the first mismatch, and the moments.
use Prim.Native.Nat.{ℕ}
use mathlib.Core.Path.{◌≡◌, refl, sym, ap, ◌∙◌}
use mathlib.Core.Logic.{◌↔◌}
use mathlib.Core.List.{List, [], ◌∷◌, ◌++◌, append_assoc}
use Rattle.std.specs.Prelude.{Ok, Err}
use Rattle.model.proofs.Basics.{never}
use Rattle.syntax.specs.Tree.{Node}
use Rattle.definitions.specs.Definitions.{Located, named-at, array_at, map_at, object-at}
use Rattle.schema.specs.Judging.{Judgement, nothing, or_else, Visit, value-by, mismatch_of, visits, first_mismatch}
use Rattle.schema.specs.Dates.{visit_moment, moments}

or_assoc : (a b c : Judgement) → or_else a (or_else b c) ≡ or_else (or_else a b) c
or_assoc (Ok u) b c = refl
or_assoc (Err m) b c = refl

-- there is none exactly where both have none
pub or_none : (a b : Judgement) → (or_else a b ≡ nothing) ↔ ((a ≡ nothing) × (b ≡ nothing))
or_none (Ok u) b = (λ e. (refl, e), λ h. h.1)
or_none (Err m) b = (λ e. never (cc), λ h. h.0)

module _ (s : List ℕ) where
  pub first_append : (xs ys : List Visit) → first_mismatch s (xs ++ ys) ≡ or_else (first_mismatch s xs) (first_mismatch s ys)
  first_append [] ys = refl
  first_append (v ∷ xs) ys =
      ap (or_else (mismatch_of s v)) (first_append xs ys) ∙ or_assoc (mismatch_of s v) (first_mismatch s xs) (first_mismatch s ys)

  pub append_none : (xs ys : List Visit)
      → (first_mismatch s (xs ++ ys) ≡ nothing) ↔ ((first_mismatch s xs ≡ nothing) × (first_mismatch s ys ≡ nothing))
  append_none xs ys = rw (first_append xs ys) (or_none (first_mismatch s xs) (first_mismatch s ys))

  pub moments_append : (xs ys : List Visit) → moments s (xs ++ ys) ≡ moments s xs ++ moments s ys
  moments_append [] ys = refl
  moments_append (v ∷ xs) ys =
      ap (λ (ms : List _). visit_moment s v ++ ms) (moments_append xs ys) ∙ sym (append_assoc (visit_moment s v) (moments s xs) (moments s ys))

  -- a value itself is judged before what it holds
  abbrev pub behind : List Visit → List Visit
  behind [] = []
  behind (v ∷ vs) = vs

  pub itself_first : (d : Located) (n : Node) → visits s d n ≡ value-by d n ∷ behind (visits s d n)
  itself_first (named-at p t) n = refl
  itself_first (array_at p d) n = refl
  itself_first (map_at p d) n = refl
  itself_first (object-at p r o) n = refl

  -- one alone
  pub one_none : (v : Visit) {A : Type 0} → (mismatch_of s v ≡ nothing) ↔ A → (first_mismatch s (v ∷ []) ≡ nothing) ↔ A
  one_none v h = let o = or_none (mismatch_of s v) (first_mismatch s []) in (λ z. h.0 (o.0 z).0, λ a. o.1 (h.1 a, refl))
