-- What is read at a place of a text.
use Rattle.std.specs.Prelude.{ℕ, List, cond, length, ltb, Ok, Err}
use Rattle.chars.specs.declared.refusals.Code.{Code}
use Rattle.chars.specs.declared.refusals.Code.TheVariants.{Ended, NotAllowed}
use Rattle.chars.specs.Refusals.{refusal, Reading}

-- a refusal, with its code and place; or what was read, and the place behind it
pub data Parse (A : Type 0) : Type 0 where
  refused : Code → ℕ → Parse A
  parsed : A → ℕ → Parse A

-- what is read behind it
abbrev pub then : {A B : Type 0} → Parse A → (A → ℕ → Parse B) → Parse B
then (refused c p) k = refused c p
then (parsed a e) k = k a e

-- codes 2 and 3: the byte at i is not allowed there, unless the text ended before it
unfoldable pub unexpected : {A : Type 0} → List ℕ → ℕ → Parse A
unexpected s i = cond (ltb i (length s)) (refused NotAllowed i) (refused Ended (length s))

-- for private contracts: the answer that says what was read, a refusal as it is
abbrev pub reading_of : {A B : Type 0} → (A → ℕ → B) → Parse A → Reading B
reading_of f (refused c p) = Err (refusal c p)
reading_of f (parsed a e) = Ok (f a e)
