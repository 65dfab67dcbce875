-- What the definitions mean: names are the same when their characters are, and characters are Unicode scalar values.
use mathlib.Core.Path.{◌≡◌, refl, ap}
use mathlib.Core.List.{List, [], ◌∷◌}
use mathlib.Core.Bool.{true, false}
use Prim.Native.Nat.{ℕ, zero, suc, ◌-◌}
use lib.ListN.{length}
use lib.Dec.{eqb}
use borrow.Author.Tests.{eqb-true}
use Rattle.chars.specs.declared.characters.Step.{Step}
use Rattle.chars.specs.declared.characters.Step.TheVariants.{Char, Quote}
use Rattle.chars.specs.Characters.{char_at}
use Rattle.chars.specs.Strings.{values_on, chars_from, chars_at, characters}
use Rattle.model.specs.Text.{same}
use Rattle.model.proofs.Basics.{never, same_of, by_test}
use Rattle.chars.proofs.bytes.Laws.{and_ways}
use Rattle.chars.proofs.characters.Laws.{Scalar, Ahead, char_ahead}
use Rattle.std.specs.Prelude.{Ok, Err}
use Rattle.chars.specs.Refusals.{Reading}

pub same_true : (xs ys : List ℕ) → same xs ys ≡ true → xs ≡ ys
same_true [] [] t = refl
same_true [] (y ∷ ys) t = never (cc)
same_true (x ∷ xs) [] t = never (cc)
same_true (x ∷ xs) (y ∷ ys) t = and_ways (eqb x y) (same xs ys) t (λ u v. let e : x ≡ y = eqb-true x y u in let r : xs ≡ ys = same_true xs ys v in cc)

pub other_of : (xs ys : List ℕ) → (xs ≡ ys → ⊥) → same xs ys ≡ false
other_of xs ys n = by_test (same xs ys) (λ t. absurd (n (same_true xs ys t))) (λ t. t)

-- names of the same bytes have the same characters
pub same_names : (a b : List ℕ) → same a b ≡ true → same (characters a) (characters b) ≡ true
same_names a b t = same_of (characters a) (characters b) (ap characters (same_true a b t))

abbrev pub Scalars : List ℕ → Type 0
Scalars [] = Unit
Scalars (v ∷ vs) = Scalar v × Scalars vs

spelled : (s : List ℕ) (i : ℕ) (f : ℕ → List ℕ) → ((j : ℕ) → Scalars (f j)) → (st : Reading Step) → Ahead s i st → Scalars (values_on f st)
spelled s i f h (Ok (Char v j)) a = (a.2, h j)
spelled s i f h (Ok Quote) a = tt
spelled s i f h (Err r) a = tt

from_scalars : (k : ℕ) (s : List ℕ) (i : ℕ) → Scalars (chars_from k s i)
unfolding chars_from
from_scalars zero s i = tt
from_scalars (suc k) s i = spelled s i (λ j. chars_from k s j) (λ j. from_scalars k s j) (char_at s i) (char_ahead s i)

pub scalars : (s : List ℕ) (i : ℕ) → Scalars (chars_at s i)
unfolding chars_at
scalars s i = from_scalars (length s - i) s i
