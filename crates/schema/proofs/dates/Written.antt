-- Every moment that Check counts is that of a string of the document that is a date (02, L3).
use Prim.Native.Nat.{ℕ}
use mathlib.Core.Path.{◌≡◌, refl, subst}
use mathlib.Core.Logic.{◌⊎◌, inl, inr}
use mathlib.Core.Bool.{Bool, true, false, cond}
use mathlib.Core.List.{List, [], ◌∷◌, ◌++◌}
use native.Mathlib.Omega.{arith}
use lib.Dec.{eqb, leb}
use lib.IntN.{ℤ, pos, neg_ℤ}
use lib.Signed.{le_z}
use borrow.Author.Tests.{eqb-true}
use Rattle.model.specs.Definition.{JSON, Schema, Float, Integer, String, Boolean, DateTime}
use Rattle.model.specs.Date.{is_date, moment}
use Rattle.model.proofs.Basics.{never, both, by_test}
use Rattle.model.proofs.Moments.{least, greatest}
use Rattle.tokens.specs.declared.tokens.Kind.TheVariants.{Null, False, True, Whole, Fractional, Quoted}
use Rattle.tokens.specs.Parse.{Parse, refused, parsed}
use Rattle.syntax.specs.Tree.{Node, scalar, array, object}
use Rattle.syntax.specs.Rows.{size}
use Rattle.syntax.specs.Grammar.{name_of}
use Rattle.syntax.specs.Answer.{rows_in}
use Rattle.syntax.specs.declared.answers.Answer.{Answer}
use Rattle.definitions.specs.Definitions.{Located, named-at, array_at, map_at, object-at}
use Rattle.definitions.specs.Accepting.{Accepted, not_accepted, accepted, accept}
use Rattle.schema.specs.Judging.{mismatched, nothing, date_of, Visit, value-by, missing_name, mismatch_of, visits, first_mismatch, mismatch_at}
use Rattle.schema.specs.declared.judging.MismatchCode.TheVariants.{NoDate}
use Rattle.schema.specs.Dates.{visit_moment, moments, Listed}
use Rattle.schema.specs.Checking.{read_document, checked_as, judged_as, check_answer, judged_moments, check_moments}
use Rattle.schema.proofs.judging.Visits.{or_none}
use Rattle.schema.proofs.checking.Zero.{answer_zero}

-- m is the moment of a string of s that is a date
pub record Written (s : List ℕ) (m : ℤ) : Type 0 where
  pub first : ℕ
  pub last : ℕ
  pub is-date : is_date (name_of s first last) ≡ true
  pub is : m ≡ moment (name_of s first last)

module _ (s : List ℕ) (m : ℤ) where
  one_of_two : (xs ys : List ℤ) → Listed m (xs ++ ys) → Listed m xs ⊎ Listed m ys
  one_of_two [] ys h = inr h
  one_of_two (x ∷ xs) ys (inl e) = inl (inl e)
  one_of_two (x ∷ xs) ys (inr h) = elim (one_of_two xs ys h) [ inl a ↦ inl (inr a) | inr b ↦ inr b ]

  string_written : (p f e : ℕ) → date_of s p Quoted f e ≡ nothing → Listed m (moment (name_of s f e) ∷ []) → Written s m
  string_written p f e z (inr h) = absurd h
  string_written p f e z (inl q) = record { first = f; last = e; is-date = go (is_date (name_of s f e)) z; is = q }
    where
      go : (b : Bool) → cond b nothing (mismatched NoDate f p) ≡ nothing → b ≡ true
      go true z = refl
      go false z = never (cc)

  date_written : (p : ℕ) (n : Node) → mismatch_of s (value-by (named-at p DateTime) n) ≡ nothing
      → Listed m (visit_moment s (value-by (named-at p DateTime) n)) → Written s m
  date_written p (scalar Null f e) z h = absurd h
  date_written p (scalar False f e) z h = absurd h
  date_written p (scalar True f e) z h = absurd h
  date_written p (scalar Whole f e) z h = absurd h
  date_written p (scalar Fractional f e) z h = absurd h
  date_written p (scalar Quoted f e) z h = string_written p f e z h
  date_written p (array f e ns) z h = absurd h
  date_written p (object f e ms) z h = absurd h

  one_written : (v : Visit) → mismatch_of s v ≡ nothing → Listed m (visit_moment s v) → Written s m
  one_written (value-by (named-at p JSON) n) z h = absurd h
  one_written (value-by (named-at p Schema) n) z h = absurd h
  one_written (value-by (named-at p Float) n) z h = absurd h
  one_written (value-by (named-at p Integer) n) z h = absurd h
  one_written (value-by (named-at p String) n) z h = absurd h
  one_written (value-by (named-at p Boolean) n) z h = absurd h
  one_written (value-by (named-at p DateTime) n) z h = date_written p n z h
  one_written (value-by (array_at p d) n) z h = absurd h
  one_written (value-by (map_at p d) n) z h = absurd h
  one_written (value-by (object-at p r o) n) z h = absurd h
  one_written (missing_name brace q) z h = absurd h

  all_written : (vs : List Visit) → first_mismatch s vs ≡ nothing → Listed m (moments s vs) → Written s m
  all_written [] z h = absurd h
  all_written (v ∷ vs) z h =
      let o = (or_none (mismatch_of s v) (first_mismatch s vs)).0 z in
      elim (one_of_two (visit_moment s v) (moments s vs) h) [ inl a ↦ one_written v o.0 a | inr b ↦ all_written vs o.1 b ]

-- ---- of Check's own moments

module _ (w₁ w₂ : ℕ) (document schema : List ℕ) (m : ℤ) where
  judged_zero : (d : Located) (n : Node) (e : ℕ) → (judged_as d w₁ document (parsed n e)).code ≡ 0 → mismatch_at document d n ≡ nothing
  judged_zero d n e =
      both (λ (a : Answer). a.code ≡ 0 → mismatch_at document d n ≡ nothing) (leb (size n) (rows_in w₁))
      (λ _ z. (answer_zero (mismatch_at document d n)).0 z) (λ _ z. absurd (omega arith))

  pub check_written : Listed m (check_moments w₁ w₂ document schema) → Written document m
  unfolding check_moments check_answer
  check_written h =
      let a = accept 2 w₂ schema in
      by_test (eqb (checked_as a w₁ document).code 0)
      (λ t. go a (read_document document) refl (eqb-true (checked_as a w₁ document).code 0 t) (rw t at h))
      (λ t. absurd (rw t at h))
    where
      go : (a : Accepted) (o : Parse Node) → read_document document ≡ o → (checked_as a w₁ document).code ≡ 0 → Listed m (judged_moments a document o)
          → Written document m
      go (not_accepted a) o q z h = absurd h
      go (accepted d) (refused c p) q z h = absurd h
      go (accepted d) (parsed n e) q z h =
          all_written document m (visits document d n) (judged_zero d n e (subst (λ (o : Parse Node). (judged_as d w₁ document o).code ≡ 0) q z)) h

  -- so each lies within the bounds of dates
  pub check_bounds : Listed m (check_moments w₁ w₂ document schema)
      → (le_z (neg_ℤ (pos 62167305540)) m ≡ true) × (le_z m (pos 253402387139) ≡ true)
  check_bounds h =
      let w = check_written h in
      let s = name_of document w.first w.last in
      rw w.is (least s w.is-date, greatest s w.is-date)
