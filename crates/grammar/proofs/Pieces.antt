-- Spelled and Begun, of the bytes of a text; Sound, of an outcome; Complete, of a reader; and the laws that carry them from one language to another.
use Prim.Native.Nat.{ℕ, suc, ◌+◌, ◌≤◌, ◌<◌}
use mathlib.Core.Path.{◌≡◌, refl, ap, ◌∙◌, subst}
use mathlib.Core.Logic.{◌⊎◌, inl, inr}
use mathlib.Core.Bool.{Bool, true, false, ◌||◌}
use mathlib.Core.List.{List, [], ◌∷◌, ◌++◌, append_assoc, append-nil}
use native.Mathlib.Omega.{arith}
use lib.ListN.{length, length-append}
use lib.Seq.{append_snoc, get_or-append_seam}
use lib.Dec.{eqb, ltb}
use borrow.Author.Tests.{ltb-true, ltb-false}
use Rattle.model.specs.Text.{all}
use Rattle.model.specs.Value.{is_digit}
use Rattle.chars.specs.Bytes.{byte_at}
use Rattle.chars.specs.Refusals.{number}
use Rattle.chars.specs.declared.refusals.Code.{Code}
use Rattle.tokens.specs.Parse.{Parse, refused, parsed, then, unexpected}
use Rattle.chars.specs.Strings.{part}
use Rattle.tokens.specs.Space.{is_space, skip}
use Rattle.tokens.proofs.Facts.{part_none, part_cons, part_one, part_join, run_all}
use Rattle.model.proofs.Basics.{both}
use Rattle.chars.proofs.Facts.{run-from, run_within}
use Rattle.grammar.specs.Written.{Language, IsSpace}

-- the bytes w stand at i
abbrev pub At : List ℕ → ℕ → List ℕ → Type 0
At s i [] = i ≤ length s
At s i (b ∷ w) = (byte_at s i ≡ b) × (i < length s) × At s (i + 1) w

-- they lie in the text
pub at_in : (s : List ℕ) (i : ℕ) (w : List ℕ) → At s i w → i + length w ≤ length s
at_in s i [] h = omega arith
at_in s i (b ∷ w) h = omega (arith, at_in s (i + 1) w h.2)

-- the same at an equal place
pub at_same : (s : List ℕ) {i j : ℕ} (w : List ℕ) → i ≡ j → At s i w → At s j w
at_same s w e h = subst (λ (k : ℕ). At s k w) e h

-- of two lists that stand there, the first
pub at_first : (s : List ℕ) (i : ℕ) (x y : List ℕ) → At s i (x ++ y) → At s i x
at_first s i [] y h = omega (arith, at_in s i y h)
at_first s i (b ∷ x) y h = (h.0, h.1, at_first s (i + 1) x y h.2)

-- and the second
pub at_second : (s : List ℕ) (i : ℕ) (x y : List ℕ) → At s i (x ++ y) → At s (i + length x) y
at_second s i [] y h = at_same s y (omega arith) h
at_second s i (b ∷ x) y h = at_same s y (omega arith) (at_second s (i + 1) x y h.2)

-- they are the part of the text there
pub at_part : (s : List ℕ) (i : ℕ) (w : List ℕ) → At s i w → part s i (i + length w) ≡ w
at_part s i [] h = let z : i + 0 ≡ i = omega arith in rw z (part_none s i)
at_part s i (b ∷ w) h =
    let z : i + suc (length w) ≡ i + 1 + length w = omega arith in
    ap (part s i) z ∙ part_cons s i (i + 1 + length w) (omega arith) h.1 ∙ cc (h.0, at_part s (i + 1) w h.2)

-- the end of a text stands behind its beginning
pub at_behind : (a w : List ℕ) → At (a ++ w) (length a) w
at_behind a [] = omega (arith, length-append a [])
at_behind a (b ∷ w) = (
  get_or-append_seam a b w 0,
  omega (arith, length-append a (b ∷ w)),
  subst (λ (s : List ℕ). At s (length a + 1) w) (append_snoc a b w)
      (at_same (a ++ (b ∷ []) ++ w) w (length-append a (b ∷ [])) (at_behind (a ++ (b ∷ [])) w)),
)

-- ---- the bytes between two places

-- the bytes from j up to i are u
pub record Between (s : List ℕ) (j i : ℕ) (u : List ℕ) : Type 0 where
  pub order : j ≤ i
  pub bytes : part s j i ≡ u

-- no byte
pub between_none : (s : List ℕ) (i : ℕ) → Between s i i []
between_none s i = record { order = omega arith; bytes = part_none s i }

-- whatever stands there
pub between : (s : List ℕ) {j i : ℕ} → j ≤ i → Between s j i (part s j i)
between s l = record { order = l; bytes = refl }

-- one byte
pub between_one : (s : List ℕ) {i c : ℕ} → i < length s → byte_at s i ≡ c → Between s i (i + 1) (c ∷ [])
between_one s {i} {c} l q = record { order = omega arith; bytes = part_one s i l ∙ ap (λ (b : ℕ). b ∷ []) q }

-- one list behind the other
pub between_join : {s : List ℕ} {j i k : ℕ} {u v : List ℕ} → Between s j i u → Between s i k v → Between s j k (u ++ v)
between_join {s} {j} {i} {k} a b = record { order = omega arith; bytes = rw (← (part_join s j i k a.order b.order), a.bytes, b.bytes) }

-- ---- what was read, and what was begun

-- the bytes from i up to e spell a
pub record Spelled {A : Type 0} (X : Language A) (s : List ℕ) (i e : ℕ) (a : A) : Type 0 where
  pub ahead : i ≤ e
  pub within : e ≤ length s
  pub spells : X (part s i e) a

-- the bytes from i up to p, and some more, spell something: they are a viable prefix of X
pub record Begun {A : Type 0} (X : Language A) (s : List ℕ) (i p : ℕ) : Type 0 where
  pub ahead : i ≤ p
  pub within : p ≤ length s
  pub rest : List ℕ
  pub thing : A
  pub spells : X (part s i p ++ rest) thing

-- code 2 stands at the end of the text, and any other at a byte of it
abbrev pub Stop : List ℕ → Code → ℕ → Type 0
Stop s c p = ((number c ≡ 2) × (p ≡ length s)) ⊎ ((3 ≤ number c) × (p < length s))

-- of an outcome at i: a refusal stands at p where X is begun up to p, and what was read is as P says
abbrev pub Outcome : {N A : Type 0} → Language A → (N → ℕ → Type 0) → List ℕ → ℕ → Parse N → Type 0
Outcome X P s i (refused c p) = Begun X s i p × Stop s c p
Outcome X P s i (parsed n e) = P n e

-- a refusal stands where X is begun up to it, and what was read is spelled so
abbrev pub Sound : {N A : Type 0} → Language A → (N → A) → List ℕ → ℕ → Parse N → Type 0
Sound X mean s i o = Outcome X (λ n e. Spelled X s i e (mean n)) s i o

-- the same of refusals alone
abbrev pub Refusals : {N A : Type 0} → Language A → List ℕ → ℕ → Parse N → Type 0
Refusals X s i o = Outcome X (λ _ _. Unit {0}) s i o

-- nothing was read yet, and X spells something
pub begun_none : {A : Type 0} (X : Language A) (s : List ℕ) (i : ℕ) (t : List ℕ) (a : A) → i ≤ length s → X t a → Begun X s i i
begun_none X s i t a l x = record { ahead = omega arith; within = l; rest = t; thing = a; spells = rw (part_none s i) x }

pub begun_same : {A : Type 0} {X : Language A} {s : List ℕ} {i p q : ℕ} → p ≡ q → Begun X s i p → Begun X s i q
begun_same {A} {X} {s} {i} e b = subst (λ (k : ℕ). Begun X s i k) e b

-- what is spelled is begun
pub spelled_begun : {A : Type 0} {X : Language A} {s : List ℕ} {i e : ℕ} {a : A} → Spelled X s i e a → Begun X s i e
spelled_begun {s = s} {i} {e} {a} b = record { ahead = b.ahead; within = b.within; rest = []; thing = a; spells = rw (append-nil (part s i e)) b.spells }

-- The law of these proofs. The bytes from j up to i are u, and where X spells w, Y spells u, w and t: then what is begun of X from i is begun of Y from j
pub begun_more : {A B : Type 0} {X : Language A} {Y : Language B} {s : List ℕ} {i j p : ℕ} {u : List ℕ} → Between s j i u → (t : List ℕ) (f : A → B)
    → ((w : List ℕ) (a : A) → X w a → Y (u ++ (w ++ t)) (f a)) → Begun X s i p → Begun Y s j p
begun_more {s = s} {i} {j} {p} r t f h b = record {
  ahead = omega (arith, r.order, b.ahead);
  within = b.within;
  rest = b.rest ++ t;
  thing = f b.thing;
  spells = rw (between_join r (between s b.ahead)).bytes (simp append_assoc (simp append_assoc at (h (part s i p ++ b.rest) b.thing b.spells)));
}

-- the same with no t: of what is begun, and of what is spelled
module _ {A B : Type 0} {X : Language A} {Y : Language B} {s : List ℕ} {i j : ℕ} {u : List ℕ} (r : Between s j i u) (f : A → B)
    (h : (w : List ℕ) (a : A) → X w a → Y (u ++ w) (f a)) where
  pub begun_in : {p : ℕ} → Begun X s i p → Begun Y s j p
  begun_in b = begun_more r [] f (λ w a x. rw (append-nil w) (h w a x)) b

  pub spelled_in : {e : ℕ} {a : A} → Spelled X s i e a → Spelled Y s j e (f a)
  spelled_in {e} {a} b = record {
    ahead = omega (arith, r.order, b.ahead);
    within = b.within;
    spells = rw (between_join r (between s b.ahead)).bytes (h (part s i e) a b.spells);
  }

-- and of outcomes
module _ {A B : Type 0} (X : Language A) (Y : Language B) {s : List ℕ} {i j : ℕ} {u : List ℕ} (r : Between s j i u) (f : A → B)
    (h : (w : List ℕ) (a : A) → X w a → Y (u ++ w) (f a)) {N : Type 0} where
  pub refusals_in : (o : Parse N) → Refusals X s i o → Refusals Y s j o
  refusals_in (refused c p) g = (begun_in r f h g.0, g.1)
  refusals_in (parsed n e) g = tt

  pub sound_in : (mean : N → A) (o : Parse N) → Sound X mean s i o → Sound Y (λ n. f (mean n)) s j o
  sound_in mean (refused c p) g = (begun_in r f h g.0, g.1)
  sound_in mean (parsed n e) g = spelled_in r f h g

  -- where something is made of what was read
  pub sound_as : {M : Type 0} (mean : N → A) (mean₂ : M → B) (make : N → ℕ → M) → ((n : N) (e : ℕ) → f (mean n) ≡ mean₂ (make n e))
      → (o : Parse N) → Sound X mean s i o → Sound Y mean₂ s j (then o (λ n e. parsed (make n e) e))
  sound_as mean mean₂ make m (refused c p) g = (begun_in r f h g.0, g.1)
  sound_as mean mean₂ make m (parsed n e) g = rw (← (m n e)) (spelled_in r f h g)

-- no byte, or not this one, is allowed at j
unexpected_outcome : {N A : Type 0} (X : Language A) (P : N → ℕ → Type 0) (s : List ℕ) (i j : ℕ) → Begun X s i j → Outcome X P s i (unexpected s j)
unfolding unexpected
unexpected_outcome X P s i j b =
    both (Outcome X P s i) (ltb j (length s)) (λ t. (b, inr (omega arith, ltb-true j (length s) t)))
    (λ t. (begun_same (omega (arith, ltb-false j (length s) t, b.within)) b, inl (refl, refl)))

pub unexpected_sound : {N A : Type 0} (X : Language A) (mean : N → A) (s : List ℕ) (i j : ℕ) → Begun X s i j → Sound X mean s i (unexpected s j)
unexpected_sound X mean s i j b = unexpected_outcome X (λ n e. Spelled X s i e (mean n)) s i j b

pub unexpected_refusals : (N : Type 0) {A : Type 0} (X : Language A) (s : List ℕ) (i j : ℕ) → Begun X s i j → Refusals {N = N} X s i (unexpected s j)
unexpected_refusals N X s i j b = unexpected_outcome X (λ _ _. Unit {0}) s i j b

-- ---- space

-- any white space
abbrev pub Space : Language (Unit {0})
Space w _ = IsSpace w

-- the reader's test says the same
pub spaced : (w : List ℕ) → IsSpace w → all is_space w ≡ true
unfolding is_space
spaced w h = h

-- what the reader skips
pub space_spelled : (s : List ℕ) (i : ℕ) → i ≤ length s → Spelled Space s i (skip s i) tt
unfolding is_space
space_spelled s i l = record { ahead = run-from is_space s i; within = run_within is_space s i l; spells = run_all is_space s i }

-- ---- what is spelled is read

-- a byte that goes on with a number: a digit, a point or the letter of an exponent
abbrev pub goes_on : ℕ → Bool
goes_on b = is_digit b || (eqb b 0x2E || (eqb b 0x45 || eqb b 0x65))

-- the byte behind a thing goes on with no number
abbrev pub Follow : ℕ → Type 0
Follow b = goes_on b ≡ false

-- what X spells, with such a byte behind it, is read where it stands, to the end and as what it means
abbrev pub Complete : {N A : Type 0} → Language A → (N → A) → List ℕ → (ℕ → Parse N) → Type 0
Complete {N} {A} X mean s read =
    (i : ℕ) (w : List ℕ) (a : A) → X w a → At s i w → Follow (byte_at s (i + length w)) → (n : N) × (read i ≡ parsed n (i + length w)) × (mean n ≡ a)

-- a byte that is no space and not c
abbrev pub Opens : ℕ → ℕ → Type 0
Opens c b = (is_space b ≡ false) × (b ≡ c → ⊥)

-- what X spells begins with such a byte
abbrev pub Opening : {A : Type 0} → Language A → ℕ → List ℕ → Type 0
Opening {A} X c s = (i : ℕ) (w : List ℕ) (a : A) → X w a → At s i w → Opens c (byte_at s i)
