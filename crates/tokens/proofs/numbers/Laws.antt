-- Numbers: where they end, and that they are spelled by the grammar.
use mathlib.Core.Path.{◌≡◌, ap, ◌∙◌}
use mathlib.Core.Logic.{◌⊎◌, inl, inr}
use mathlib.Core.List.{List, [], ◌∷◌}
use mathlib.Core.Bool.{Bool, true, false, not, ◌||◌, or_assoc, or-true, and-false}
use Prim.Native.Nat.{ℕ, ◌+◌, ◌≤◌, ◌<◌}
use native.Mathlib.Omega.{arith}
use lib.ListN.{length}
use lib.Dec.{eqb, leb}
use borrow.Author.Tests.{eqb-true, eqb-false, leb-true, le-leb, ne_eqb}
use Rattle.model.specs.Text.{text, all}
use Rattle.model.specs.Value.{is_digit, is_digits, is_int, is_fraction, is_power, is_exponent, IsNumber, is_integer}
use Rattle.chars.specs.Bytes.{byte_at}
use Rattle.tokens.specs.Parse.{Parse, refused, parsed, unexpected}
use Rattle.chars.specs.Strings.{part}
use Rattle.tokens.specs.declared.tokens.Kind.{Kind}
use Rattle.tokens.specs.declared.tokens.Kind.TheVariants.{Null, False, True, Whole, Fractional, Quoted}
use Rattle.tokens.specs.Numbers.{digits_end, whole_end, sign_end, power_at, exponent_at, fraction_at, unsigned_at, number_at}
use Rattle.tokens.specs.Spelling.{Spells}
use Rattle.model.proofs.Basics.{both, and_ways}
use Rattle.chars.proofs.Facts.{in_text}
use Rattle.tokens.proofs.Bounds.{Bounded, unexpected_ways, unexpected_bounded}
use Rattle.tokens.proofs.Pieces.{part_none, part_cons, part_one, part_join, run_all, run_some}
use Rattle.model.proofs.Basics.{all_append, all_imp}

module _ (s : List ℕ) where
  pub sign_least : (j : ℕ) → j ≤ sign_end s j
  unfolding sign_end
  sign_least j = both (λ p. j ≤ p) (eqb (byte_at s j) 0x2B || eqb (byte_at s j) 0x2D) (λ _. omega arith) (λ _. omega arith)

  -- an integer part stands there
  pub whole_some : (j : ℕ) → (whole_end s j ≡ j → ⊥) → (j < whole_end s j) × (whole_end s j ≤ length s)
  unfolding whole_end
  whole_some j =
      both (λ e. (e ≡ j → ⊥) → (j < e) × (e ≤ length s)) (eqb (byte_at s j) 0x30)
      (λ t n. omega (arith, in_text s j (omega (arith, eqb-true (byte_at s j) 0x30 t))))
      (λ _ n. run_some is_digit s j n)

module _ (s : List ℕ) (i : ℕ) where
  power_bounded : (j : ℕ) → i ≤ j → Bounded s i (power_at s j)
  unfolding power_at
  power_bounded j l =
      let p : ℕ = sign_end s (j + 1) in
      both (Bounded s i) (eqb (digits_end s p) p) (λ _. unexpected_bounded Kind s i p)
      (λ t. omega (arith, sign_least s (j + 1), run_some is_digit s p (eqb-false (digits_end s p) p t)))

  exponent_bounded : (j : ℕ) (k : Kind) → i < j → j ≤ length s → Bounded s i (exponent_at s j k)
  unfolding exponent_at
  exponent_bounded j k l h =
      both (Bounded s i) (eqb (byte_at s j) 0x45 || eqb (byte_at s j) 0x65) (λ _. power_bounded j (omega arith)) (λ _. (l, h))

  fraction_bounded : (j : ℕ) → i < j → j ≤ length s → Bounded s i (fraction_at s j)
  unfolding fraction_at
  fraction_bounded j l h =
      both (Bounded s i) (eqb (byte_at s j) 0x2E)
      (λ _. both (Bounded s i) (eqb (digits_end s (j + 1)) (j + 1)) (λ _. unexpected_bounded Kind s i (j + 1))
      (λ t. let r = run_some is_digit s (j + 1) (eqb-false _ _ t) in exponent_bounded (digits_end s (j + 1)) Fractional (omega arith) (omega arith)))
      (λ _. exponent_bounded j Whole l h)

  unsigned_bounded : (j : ℕ) → i ≤ j → Bounded s i (unsigned_at s j)
  unfolding unsigned_at
  unsigned_bounded j l =
      both (Bounded s i) (eqb (whole_end s j) j) (λ _. unexpected_bounded Kind s i j)
      (λ t. let w = whole_some s j (eqb-false _ _ t) in fraction_bounded (whole_end s j) (omega arith) (omega arith))

  pub number_bounded : Bounded s i (number_at s i)
  unfolding number_at
  number_bounded = both (Bounded s i) (eqb (byte_at s i) 0x2D) (λ _. unsigned_bounded (i + 1) (omega arith)) (λ _. unsigned_bounded i (omega arith))

-- a byte that may stand in an integer
abbrev in_integer : ℕ → Bool
in_integer c = not (eqb c 0x2E || eqb c 0x45 || eqb c 0x65)

digit_plain : (c : ℕ) → is_digit c ≡ true → in_integer c ≡ true
digit_plain c h =
    and_ways (leb 0x30 c) (leb c 0x39) h
    (λ t u. let lo = leb-true 0x30 c t in
    let hi = leb-true c 0x39 u in rw (ne_eqb c 0x2E (λ e. omega arith), ne_eqb c 0x45 (λ e. omega arith), ne_eqb c 0x65 (λ e. omega arith)))

dot_plain : (c : ℕ) → eqb c 0x2E ≡ true → in_integer c ≡ false
dot_plain c t = rw t

letter_plain : (c : ℕ) → eqb c 0x45 || eqb c 0x65 ≡ true → in_integer c ≡ false
letter_plain c t = rw (or_assoc, t, or-true)

-- a sign or nothing
abbrev pub Minus : List ℕ → Type 0
Minus t = (t ≡ []) ⊎ (t ≡ text "-")

minus_plain : (t : List ℕ) → Minus t → is_integer t ≡ true
minus_plain t (inl e) = rw e
minus_plain t (inr e) = rw e

digits_power : (t : List ℕ) → is_digits t ≡ true → is_power t ≡ true
digits_power [] h = h
digits_power (c ∷ t) h = rw h

digits_int : (c : ℕ) (t : List ℕ) → eqb c 0x30 ≡ false → all is_digit (c ∷ t) ≡ true → is_int (c ∷ t) ≡ true
digits_int c t z h =
    and_ways (is_digit c) (all is_digit t) h
    (λ d r. and_ways (leb 0x30 c) (leb c 0x39) d
    (λ lo hi. rw (z, le-leb 0x31 c (omega (arith, leb-true 0x30 c lo, eqb-false c 0x30 z)), hi, r)))

module _ (s : List ℕ) where
  pub digits_piece : (j : ℕ) → (digits_end s j ≡ j → ⊥) → is_digits (part s j (digits_end s j)) ≡ true
  digits_piece j n =
      let r = run_some is_digit s j n in
      let c = part_cons s j (digits_end s j) r.0 (omega arith) in
      rw c (rw c at (run_all is_digit s j))

  power_piece : (j : ℕ) → (digits_end s (sign_end s j) ≡ sign_end s j → ⊥) → is_power (part s j (digits_end s (sign_end s j))) ≡ true
  unfolding sign_end
  power_piece j =
      both (λ p. (digits_end s p ≡ p → ⊥) → is_power (part s j (digits_end s p)) ≡ true) (eqb (byte_at s j) 0x2B || eqb (byte_at s j) 0x2D)
      (λ t n. let r = run_some is_digit s (j + 1) n in
      rw (part_cons s j (digits_end s (j + 1)) (omega arith) (omega arith), t, digits_piece (j + 1) n, or-true))
      (λ _ n. digits_power (part s j (digits_end s j)) (digits_piece j n))

  pub whole_piece : (j : ℕ) → (whole_end s j ≡ j → ⊥) → (is_int (part s j (whole_end s j)) ≡ true) × (all is_digit (part s j (whole_end s j)) ≡ true)
  unfolding whole_end
  whole_piece j =
      both (λ e. (e ≡ j → ⊥) → (is_int (part s j e) ≡ true) × (all is_digit (part s j e) ≡ true)) (eqb (byte_at s j) 0x30)
      (λ t n. let z : byte_at s j ≡ 0x30 = eqb-true _ _ t in
      let c : part s j (j + 1) ≡ text "0" = part_one s j (in_text s j (omega arith)) ∙ ap (λ (b : ℕ). b ∷ []) z in
      (rw c, rw c))
      (λ t n. let r = run_some is_digit s j n in
      let c = part_cons s j (digits_end s j) r.0 (omega arith) in
      let a = run_all is_digit s j in
      (rw c (digits_int (byte_at s j) (part s (j + 1) (digits_end s j)) t (rw c at a)), a))

  -- a byte that may not stand in an integer stands at j
  not_integer : (i j e : ℕ) → i ≤ j → j < e → e ≤ length s → in_integer (byte_at s j) ≡ false → is_integer (part s i e) ≡ false
  not_integer i j e l m h t = rw (← (part_join s i j e l (omega arith)), all_append, part_cons s j e m (omega arith), t, and-false)

-- a number of a kind
abbrev Marked : Kind → List ℕ → Type 0
Marked Whole t = is_integer t ≡ true
Marked Fractional t = is_integer t ≡ false
Marked Null t = ⊥
Marked False t = ⊥
Marked True t = ⊥
Marked Quoted t = ⊥

spells : (k : Kind) (s : List ℕ) (f e : ℕ) → IsNumber (part s f e) → Marked k (part s f e) → Spells k s f e
spells Whole s f e n m = (n, m)
spells Fractional s f e n m = (n, m)
spells Null s f e n m = absurd m
spells False s f e n m = absurd m
spells True s f e n m = absurd m
spells Quoted s f e n m = absurd m

-- what is read from i on is spelled there
abbrev pub Spelled : List ℕ → ℕ → Parse Kind → Type 0
Spelled s i (refused c p) = Unit
Spelled s i (parsed k e) = Spells k s i e

pub unexpected_spelled : (s : List ℕ) (i j : ℕ) → Spelled s i (unexpected s j)
unexpected_spelled s i j = unexpected_ways (Spelled s i) s j (λ _. tt) tt

-- behind a sign from i up to a and an integer part from a up to b
module _ (s : List ℕ) (i a b : ℕ) (ia : i ≤ a) (ab : a ≤ b) (minus : Minus (part s i a)) (int : is_int (part s a b) ≡ true) where
  is_number : (c e : ℕ) → b ≤ c → c ≤ e → is_fraction (part s b c) ≡ true → is_exponent (part s c e) ≡ true → IsNumber (part s i e)
  is_number c e bc ce f x = record {
    minus = part s i a;
    int = part s a b;
    fraction = part s b c;
    exponent = part s c e;
    spelled = rw (part_join s b c e bc ce, part_join s a b e ab (omega arith), part_join s i a e ia (omega arith));
    is_minus = minus;
    is-int = int;
    is-fraction = f;
    is-exponent = x;
  }

  power_spelled : (c : ℕ) → b ≤ c → is_fraction (part s b c) ≡ true → eqb (byte_at s c) 0x45 || eqb (byte_at s c) 0x65 ≡ true → Spelled s i (power_at s c)
  unfolding power_at
  power_spelled c bc f t =
      let p : ℕ = sign_end s (c + 1) in
      both (Spelled s i) (eqb (digits_end s p) p) (λ _. unexpected_spelled s i p)
      (λ u. let n = eqb-false (digits_end s p) p u in
      let r = run_some is_digit s p n in
      let l : c < digits_end s p = omega (arith, sign_least s (c + 1)) in
      let x : is_exponent (part s c (digits_end s p)) ≡ true = rw (part_cons s c (digits_end s p) l (omega arith), t) (power_piece s (c + 1) n) in
      (is_number c (digits_end s p) bc (omega arith) f x, not_integer s i c (digits_end s p) (omega arith) l r.1 (letter_plain (byte_at s c) t)))

  exponent_spelled : (c : ℕ) (k : Kind) → b ≤ c → is_fraction (part s b c) ≡ true → Marked k (part s i c) → Spelled s i (exponent_at s c k)
  unfolding exponent_at
  exponent_spelled c k bc f m =
      both (Spelled s i) (eqb (byte_at s c) 0x45 || eqb (byte_at s c) 0x65) (λ t. power_spelled c bc f t)
      (λ _. spells k s i c (is_number c c bc (omega arith) f (ap is_exponent (part_none s c))) m)

  fraction_spelled : is_integer (part s i b) ≡ true → Spelled s i (fraction_at s b)
  unfolding fraction_at
  fraction_spelled m =
      let e : ℕ = digits_end s (b + 1) in
      both (Spelled s i) (eqb (byte_at s b) 0x2E)
      (λ t. both (Spelled s i) (eqb e (b + 1)) (λ _. unexpected_spelled s i (b + 1))
      (λ u. let n = eqb-false e (b + 1) u in
      let r = run_some is_digit s (b + 1) n in
      exponent_spelled e Fractional (omega arith) (rw (part_cons s b e (omega arith) (omega arith), t) (digits_piece s (b + 1) n))
      (not_integer s i b e (omega arith) (omega arith) r.1 (dot_plain (byte_at s b) t))))
      (λ _. exponent_spelled b Whole (omega arith) (ap is_fraction (part_none s b)) m)

unsigned_spelled : (s : List ℕ) (i a : ℕ) → i ≤ a → Minus (part s i a) → Spelled s i (unsigned_at s a)
unfolding unsigned_at
unsigned_spelled s i a ia minus =
    let b : ℕ = whole_end s a in
    both (Spelled s i) (eqb b a) (λ _. unexpected_spelled s i a)
    (λ t. let n = eqb-false b a t in
    let w = whole_some s a n in
    let h = whole_piece s a n in
    fraction_spelled s i a b ia (omega arith) minus h.0
    (rw (← (part_join s i a b ia (omega arith)), all_append, minus_plain (part s i a) minus) (all_imp is_digit in_integer digit_plain (part s a b) h.1)))

pub number_spelled : (s : List ℕ) (i : ℕ) → Spelled s i (number_at s i)
unfolding number_at
number_spelled s i =
    both (Spelled s i) (eqb (byte_at s i) 0x2D)
    (λ t. let z : byte_at s i ≡ 0x2D = eqb-true _ _ t in
    unsigned_spelled s i (i + 1) (omega arith) (inr (part_one s i (in_text s i (omega arith)) ∙ ap (λ (b : ℕ). b ∷ []) z)))
    (λ _. unsigned_spelled s i i (omega arith) (inl (part_none s i)))

pub number_spells : (s : List ℕ) (i e : ℕ) (k : Kind) → number_at s i ≡ parsed k e → Spells k s i e
number_spells s i e k q = rw q at (number_spelled s i)
