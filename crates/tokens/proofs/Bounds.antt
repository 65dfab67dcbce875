-- Bounds of what is read at a place: it ends behind the place and within the text, and a refusal stands within the text or at its end.
use mathlib.Core.Path.{◌≡◌}
use mathlib.Core.List.{List}
use Prim.Native.Nat.{ℕ, ◌≤◌, ◌<◌}
use native.Mathlib.Omega.{arith}
use lib.ListN.{length}
use lib.Dec.{ltb}
use borrow.Author.Tests.{ltb-true, lt-ltb, le-ltb}
use Rattle.std.specs.Prelude.{Err}
use Rattle.chars.specs.Characters.{refusal_at}
use Rattle.chars.specs.Refusals.{number}
use Rattle.tokens.specs.Parse.{reading_of, Parse, refused, parsed, unexpected}
use Rattle.model.proofs.Basics.{both, by_test}
use Rattle.chars.specs.declared.refusals.Refusal.{Refusal}
use Rattle.chars.specs.declared.refusals.Code.TheVariants.{Ended, NotAllowed}

abbrev pub Bounded : {A : Type 0} → List ℕ → ℕ → Parse A → Type 0
Bounded s i (refused c p) = (p ≤ length s) × (2 ≤ number c) × (number c ≤ 7)
Bounded s i (parsed a e) = (i < e) × (e ≤ length s)

-- both ways in which a byte is not allowed
pub unexpected_ways : {A : Type 0} (P : Parse A → Type 0) (s : List ℕ) (j : ℕ)
    → (j < length s → P (refused NotAllowed j)) → P (refused Ended (length s)) → P (unexpected s j)
unfolding unexpected
unexpected_ways P s j f g = both P (ltb j (length s)) (λ t. f (ltb-true j (length s) t)) (λ _. g)

pub unexpected_bounded : (A : Type 0) (s : List ℕ) (i j : ℕ) → Bounded {A = A} s i (unexpected s j)
unexpected_bounded A s i j = unexpected_ways (Bounded {A = A} s i) s j (λ l. omega arith) (omega arith)

pub unexpected_end : {A : Type 0} (s : List ℕ) (j : ℕ) → length s ≤ j → unexpected {A = A} s j ≡ refused Ended (length s)
unfolding unexpected
unexpected_end s j h = rw (le-ltb j (length s) h)

pub unexpected_in : {A : Type 0} (s : List ℕ) (j : ℕ) → j < length s → unexpected {A = A} s j ≡ refused NotAllowed j
unfolding unexpected
unexpected_in s j h = rw (lt-ltb j (length s) h)

-- as an answer it is the refusal of the byte
pub unexpected_read : {A B : Type 0} (f : A → ℕ → B) (s : List ℕ) (j : ℕ) {r : Refusal} → r ≡ refusal_at s j NotAllowed → Err r ≡ reading_of f (unexpected s j)
unfolding unexpected refusal_at
unexpected_read f s j e = rw e (by_test (ltb j (length s)) (λ t. rw t) (λ t. rw t))
