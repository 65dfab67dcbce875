-- From the answer of Read back to what was read: codes 0 and 8 are for texts that were read, and 2 to 7 are the refusal of the text.
use Prim.Native.Nat.{ℕ, ◌≤◌, ◌<◌}
use mathlib.Core.Path.{◌≡◌, refl}
use mathlib.Core.Logic.{inl, inr, ⊎_elim}
use mathlib.Core.Bool.{Bool, true, false, cond}
use native.Mathlib.Omega.{arith}
use lib.Dec.{leb}
use Rattle.model.proofs.Basics.{both}
use Rattle.chars.specs.Refusals.{number}
use Rattle.chars.specs.declared.refusals.Code.{Code}
use Rattle.tokens.specs.Parse.{Parse, refused, parsed}
use Rattle.syntax.specs.Tree.{Node}
use Rattle.syntax.specs.Rows.{size}
use Rattle.syntax.specs.Answer.{answer, rows_in, answer_of}
use Rattle.grammar.specs.Places.{IsRead}

-- the answer on text number `which`, with a table of w words
module _ (which w : ℕ) where
  pub answer_read : (n : Node) (e : ℕ) → IsRead (answer_of which w (parsed n e))
  unfolding answer_of
  answer_read n e = both IsRead (leb (size n) (rows_in w)) (λ _. inl refl) (λ _. inr refl)

  pub refused_unread : (c : Code) (p : ℕ) → 0 < number c → number c < 8 → IsRead (answer_of which w (refused c p)) → ⊥
  unfolding answer_of
  refused_unread c p l h = ⊎_elim (λ z. omega arith) (λ z. omega arith)

  pub answer_refused : (o : Parse Node) → 2 ≤ (answer_of which w o).code → (answer_of which w o).code ≤ 7
      → (c : Code) × (number c ≡ (answer_of which w o).code) × (o ≡ refused c (answer_of which w o).place)
  unfolding answer_of
  answer_refused (refused c p) l h = (c, refl, refl)
  answer_refused (parsed n e) l h = absurd (go (leb (size n) (rows_in w)) l h)
    where
      go : (b : Bool) → 2 ≤ (cond b (answer 0 0 0 (size n)) (answer 8 which 0 (size n))).code
          → (cond b (answer 0 0 0 (size n)) (answer 8 which 0 (size n))).code ≤ 7 → ⊥
      go true l h = omega arith
      go false l h = omega arith
