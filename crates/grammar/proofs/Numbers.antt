-- Numbers: what is refused is begun, and what is spelled as a number is read.
use Prim.Native.Nat.{ℕ, suc, ◌+◌, ◌≤◌, ◌<◌}
use mathlib.Core.Path.{◌≡◌, refl, sym, ap, ◌∙◌, subst}
use mathlib.Core.Logic.{◌⊎◌, inl, inr, ⊎_elim}
use mathlib.Core.Bool.{Bool, true, false, ◌&&◌, ◌||◌, or-true}
use mathlib.Core.List.{List, [], ◌∷◌, ◌++◌, append_assoc}
use native.Mathlib.Omega.{arith}
use lib.ListN.{length, length-append}
use lib.Dec.{eqb, leb}
use borrow.Author.Tests.{eqb-true, eqb-false, ne_eqb, leb-true, le-leb}
use Rattle.model.specs.Text.{text, all, same}
use Rattle.model.specs.Value.{number, is_digit, is_digits, is_int, is_fraction, is_power, is_exponent, IsNumber}
use Rattle.model.proofs.Basics.{clash, or-true as or_ways, or-false, same_eq, both, and_ways}
use Rattle.chars.specs.Bytes.{byte_at}
use Rattle.tokens.specs.Parse.{Parse, parsed}
use Rattle.chars.specs.Runs.{run}
use Rattle.chars.specs.Strings.{part}
use Rattle.tokens.specs.declared.tokens.Kind.{Kind}
use Rattle.tokens.specs.declared.tokens.Kind.TheVariants.{Whole, Fractional}
use Rattle.tokens.specs.Numbers.{digits_end, whole_end, sign_end, power_at, exponent_at, fraction_at, unsigned_at, number_at}
use Rattle.chars.proofs.Facts.{in_text, run_next, run_stop}
use Rattle.tokens.proofs.Facts.{sign_least, whole_some, digits_piece, whole_piece, Minus, part_none, part_cons, part_one, run_some}
use Rattle.syntax.specs.Spelling.{scalar_of}
use Rattle.grammar.specs.Written.{IsLeaf}
use Rattle.grammar.proofs.Pieces.{At, at_first, at_second, Follow, Between, between_none, between, between_one, between_join, Begun}
use Rattle.grammar.proofs.Pieces.{Refusals, unexpected_refusals}

-- the letter of an exponent
abbrev is_e : ℕ → Bool
is_e b = eqb b 0x45 || eqb b 0x65

abbrev is_sign : ℕ → Bool
is_sign b = eqb b 0x2B || eqb b 0x2D

-- ---- what is refused

-- one of two bytes stands at i, so the text goes on there
either_in : (s : List ℕ) (i x y : ℕ) → 0 < x → 0 < y → eqb (byte_at s i) x || eqb (byte_at s i) y ≡ true → i < length s
either_in s i x y hx hy t =
    in_text s i (⊎_elim (λ u. omega (arith, eqb-true (byte_at s i) x u)) (λ u. omega (arith, eqb-true (byte_at s i) y u))
    (or_ways (eqb (byte_at s i) x) (eqb (byte_at s i) y) t))

-- a sign or none, and a zero behind it
sign_zero : (s : List ℕ) (j : ℕ) → j ≤ length s → (sign_end s j ≤ length s) × (is_power (part s j (sign_end s j) ++ text "0") ≡ true)
unfolding sign_end
sign_zero s j l =
    both (λ p. (p ≤ length s) × (is_power (part s j p ++ text "0") ≡ true)) (is_sign (byte_at s j))
    (λ t. let m = either_in s j 0x2B 0x2D (omega arith) (omega arith) t in (omega arith, rw (part_one s j m, t, or-true)))
    (λ _. (l, rw (part_none s j)))

-- a number by its parts
number_of : (m n f x : List ℕ) {w : List ℕ} → w ≡ m ++ (n ++ (f ++ x)) → Minus m → is_int n ≡ true → is_fraction f ≡ true → is_exponent x ≡ true → IsNumber w
number_of m n f x q a b c d = record { minus = m; int = n; fraction = f; exponent = x; spelled = q; is_minus = a; is-int = b; is-fraction = c; is-exponent = d }

-- broken off behind u, where u and a zero make a number
zero_begun : {s : List ℕ} {i p : ℕ} {u : List ℕ} → Between s i p u → p ≤ length s → IsNumber (u ++ text "0") → Begun IsLeaf s i p
zero_begun {u = u} r l h = record { ahead = r.order; within = l; rest = text "0"; thing = number (u ++ text "0"); spells = rw r.bytes (refl, h) }

-- behind a minus or none, and an int
module _ (s : List ℕ) (i a b : ℕ) {m n : List ℕ} (from-i : Between s i a m) (minus : Minus m) (from-a : Between s a b n) (int : is_int n ≡ true) where
  -- broken off behind u, where u and a zero make a fraction and an exponent
  tail_begun : {p : ℕ} {u : List ℕ} → Between s b p u → p ≤ length s → (f x : List ℕ) → u ++ text "0" ≡ f ++ x → is_fraction f ≡ true → is_exponent x ≡ true
      → Begun IsLeaf s i p
  tail_begun from-b l f x q hf hx = zero_begun (between_join from-i (between_join from-a from-b)) l (number_of m n f x (simp (append_assoc, q)) minus int hf hx)

  power_refusals : (c : ℕ) {f : List ℕ} → Between s b c f → is_fraction f ≡ true → is_e (byte_at s c) ≡ true → Refusals IsLeaf s i (power_at s c)
  unfolding power_at
  power_refusals c {f} from-b hf t =
      let p : ℕ = sign_end s (c + 1) in
      let l : c < length s = either_in s c 0x45 0x65 (omega arith) (omega arith) t in
      let cp : c < p = omega (arith, sign_least s (c + 1)) in
      let z = sign_zero s (c + 1) (omega arith) in
      both (Refusals IsLeaf s i) (eqb (digits_end s p) p)
      (λ _. unexpected_refusals Kind IsLeaf s i p
      (tail_begun (between_join from-b (between s {j = c} {i = p} (omega arith))) z.0 f (part s c p ++ text "0") (append_assoc f (part s c p) (text "0")) hf
      (rw (part_cons s c p cp l, t) z.1)))
      (λ _. tt)

  exponent_refusals : (c : ℕ) (k : Kind) {f : List ℕ} → Between s b c f → is_fraction f ≡ true → Refusals IsLeaf s i (exponent_at s c k)
  unfolding exponent_at
  exponent_refusals c k from-b hf = both (Refusals IsLeaf s i) (is_e (byte_at s c)) (λ t. power_refusals c from-b hf t) (λ _. tt)

  fraction_refusals : Refusals IsLeaf s i (fraction_at s b)
  unfolding fraction_at
  fraction_refusals =
      let e : ℕ = digits_end s (b + 1) in
      both (Refusals IsLeaf s i) (eqb (byte_at s b) 0x2E)
      (λ t. let q : byte_at s b ≡ 0x2E = eqb-true _ _ t in
      let l : b < length s = in_text s b (omega arith) in
      both (Refusals IsLeaf s i) (eqb e (b + 1))
      (λ _. unexpected_refusals Kind IsLeaf s i (b + 1) (tail_begun (between_one s l q) (omega arith) (text ".0") [] refl refl refl))
      (λ u. let n = eqb-false e (b + 1) u in
      let r = run_some is_digit s (b + 1) n in
      exponent_refusals e Fractional (between_join (between_one s l q) (between s {j = b + 1} {i = e} (omega arith))) (digits_piece s (b + 1) n)))
      (λ _. exponent_refusals b Whole (between_none s b) refl)

unsigned_refusals : (s : List ℕ) (i a : ℕ) {m : List ℕ} → Between s i a m → Minus m → a ≤ length s → Refusals IsLeaf s i (unsigned_at s a)
unfolding unsigned_at
unsigned_refusals s i a {m} from-i minus al =
    let b : ℕ = whole_end s a in
    both (Refusals IsLeaf s i) (eqb b a)
    (λ _. unexpected_refusals Kind IsLeaf s i a (zero_begun from-i al (number_of m (text "0") [] [] refl minus refl refl refl)))
    (λ t. let n = eqb-false b a t in
    let w = whole_some s a n in
    fraction_refusals s i a b from-i minus (between s (omega arith)) (whole_piece s a n).0)

-- what is refused of a number is begun
pub number_refusals : (s : List ℕ) (i : ℕ) → i ≤ length s → Refusals IsLeaf s i (number_at s i)
unfolding number_at
number_refusals s i l =
    both (Refusals IsLeaf s i) (eqb (byte_at s i) 0x2D)
    (λ t. let z : byte_at s i ≡ 0x2D = eqb-true _ _ t in
    let m = in_text s i (omega arith) in
    unsigned_refusals s i (i + 1) (between_one s m z) (inr refl) (omega arith))
    (λ _. unsigned_refusals s i i (between_none s i) (inl refl) l)

-- ---- what is spelled so

-- a kind whose value is the number itself
abbrev pub Numeric : Kind → Type 0
Numeric k = (s : List ℕ) (f e : ℕ) → scalar_of s k f e ≡ number (part s f e)

follow_ways : (b : ℕ) → Follow b → (is_digit b ≡ false) × (eqb b 0x2E ≡ false) × (is_e b ≡ false)
follow_ways b f =
    let x = or-false (is_digit b) (eqb b 0x2E || (is_e b)) f in
    let y = or-false (eqb b 0x2E) (is_e b) x.1 in
    (x.0, y.0, y.1)

-- the outcome is a number that ends at e
abbrev pub ReadsTo : Parse Kind → ℕ → Type 0
ReadsTo o e = (k : Kind) × Numeric k × (o ≡ parsed k e)

-- bytes that pass a test, with one behind them that does not, are a run
pub run_reads : (p : ℕ → Bool) (s : List ℕ) (w : List ℕ) (i : ℕ) → all p w ≡ true → At s i w → p (byte_at s (i + length w)) ≡ false → run p s i ≡ i + length w
run_reads p s [] i h a n = let z : i + 0 ≡ i = omega arith in rw z (run_stop p s i (rw z at n))
run_reads p s (b ∷ w) i h a n =
    let z : i + suc (length w) ≡ i + 1 + length w = omega arith in
    and_ways (p b) (all p w) h
    (λ t u. run_next p s i a.1 (rw a.0 t) ∙ run_reads p s w (i + 1) u a.2 (rw z at n) ∙ sym z)

pub digit_bounds : (b : ℕ) → is_digit b ≡ true → (0x30 ≤ b) × (b ≤ 0x39)
digit_bounds b t = and_ways (leb 0x30 b) (leb b 0x39) t (λ l m. (leb-true 0x30 b l, leb-true b 0x39 m))

-- int = zero / ( digit1-9 *DIGIT )
int_ways : (c : ℕ) (w : List ℕ) → is_int (c ∷ w) ≡ true → ((c ≡ 0x30) × (w ≡ [])) ⊎ ((0x31 ≤ c) × (is_digit c ≡ true) × (all is_digit w ≡ true))
int_ways c w h =
    ⊎_elim (λ t. let e : c ∷ w ≡ text "0" = same_eq (c ∷ w) (text "0") t in inl (cc, cc))
    (λ t. and_ways (leb 0x31 c && leb c 0x39) (all is_digit w) t
    (λ u v. and_ways (leb 0x31 c) (leb c 0x39) u (λ l m. let l = leb-true 0x31 c l in inr (l, rw (le-leb 0x30 c (omega arith), m), v))))
    (or_ways (same (c ∷ w) (text "0")) (leb 0x31 c && leb c 0x39 && all is_digit w) h)

module _ (s : List ℕ) where
  -- ---- the first byte

  int_first : (w r : List ℕ) (j : ℕ) → is_int w ≡ true → At s j (w ++ r) → is_digit (byte_at s j) ≡ true
  int_first [] r j h a = clash false h refl
  int_first (c ∷ w) r j h a = ⊎_elim (λ x. rw (a.0, x.0)) (λ x. rw (a.0, x.1)) (int_ways c w h)

  -- a digit or a minus
  pub number_first : (w : List ℕ) (i : ℕ) → IsNumber w → At s i w → (is_digit (byte_at s i) ≡ true) ⊎ (byte_at s i ≡ 0x2D)
  number_first w i h a =
      let b = subst (At s i) h.spelled a in
      ⊎_elim (λ e. inl (int_first h.int (h.fraction ++ h.exponent) i h.is-int (rw e at b))) (λ e. inr (rw e at b).0) h.is_minus

  -- of an exponent, or what follows it
  exponent_first : (x : List ℕ) → is_exponent x ≡ true → (j : ℕ) → At s j x → Follow (byte_at s (j + length x))
      → (is_digit (byte_at s j) ≡ false) × (eqb (byte_at s j) 0x2E ≡ false)
  exponent_first [] h j a f = let z : j + 0 ≡ j = omega arith in let n = follow_ways (byte_at s j) (rw z at f) in (n.0, n.1)
  exponent_first (c ∷ w) h j a f =
      and_ways (is_e c) (is_power w) h
      (λ t _. rw a.0 (⊎_elim (λ u. rw (eqb-true c 0x45 u) (refl, refl)) (λ u. rw (eqb-true c 0x65 u) (refl, refl)) (or_ways (eqb c 0x45) (eqb c 0x65) t)))

  fraction_first : (f x : List ℕ) → is_fraction f ≡ true → is_exponent x ≡ true → (j : ℕ) → At s j (f ++ x) → Follow (byte_at s (j + length (f ++ x)))
      → is_digit (byte_at s j) ≡ false
  fraction_first [] x hf hx j a n = (exponent_first x hx j a n).0
  fraction_first (c ∷ w) x hf hx j a n = and_ways (eqb c 0x2E) (is_digits w) hf (λ t _. rw (a.0, eqb-true c 0x2E t))

  -- ---- the parts

  -- digits, one at least
  digits_read : (w : List ℕ) (i : ℕ) → is_digits w ≡ true → At s i w → is_digit (byte_at s (i + length w)) ≡ false
      → (digits_end s i ≡ i + length w) × (eqb (digits_end s i) i ≡ false) × (is_digit (byte_at s i) ≡ true)
  digits_read [] i h a n = clash false h refl
  digits_read (b ∷ w) i h a n =
      let e = run_reads is_digit s (b ∷ w) i h a n in
      (e, rw e (ne_eqb (i + suc (length w)) i (λ q. omega arith)), and_ways (is_digit b) (all is_digit w) h (λ t _. rw a.0 t))

  no_sign : (j : ℕ) → is_digit (byte_at s j) ≡ true → sign_end s j ≡ j
  unfolding sign_end
  no_sign j t = let b = digit_bounds (byte_at s j) t in rw (ne_eqb (byte_at s j) 0x2B (λ q. omega arith), ne_eqb (byte_at s j) 0x2D (λ q. omega arith))

  a_sign : (j : ℕ) → is_sign (byte_at s j) ≡ true → sign_end s j ≡ j + 1
  unfolding sign_end
  a_sign j t = rw t

  -- behind the sign, at p
  power_digits : (j p : ℕ) (w : List ℕ) → sign_end s (j + 1) ≡ p → is_digits w ≡ true → At s p w → is_digit (byte_at s (p + length w)) ≡ false
      → power_at s j ≡ parsed Fractional (p + length w)
  unfolding power_at
  power_digits j p w z h a n = let d = digits_read w p h a n in rw (z, d.1, d.0)

  power_reads : (j : ℕ) (w : List ℕ) → is_power w ≡ true → At s (j + 1) w → is_digit (byte_at s (j + 1 + length w)) ≡ false
      → power_at s j ≡ parsed Fractional (j + 1 + length w)
  power_reads j [] h a n = clash false h refl
  power_reads j (c ∷ w) h a n =
      ⊎_elim
      (λ t. let d = digits_read (c ∷ w) (j + 1) t a n in power_digits j (j + 1) (c ∷ w) (no_sign (j + 1) d.2) t a n)
      (λ t. and_ways (is_sign c) (is_digits w) t
      (λ u v. let z : j + 1 + 1 + length w ≡ j + 1 + suc (length w) = omega arith in
      power_digits j (j + 1 + 1) w (a_sign (j + 1) (rw a.0 u)) v a.2 (rw z n) ∙ ap (parsed Fractional) z))
      (or_ways (is_digits (c ∷ w)) ((is_sign c) && is_digits w) h)

  exponent_reads : (x : List ℕ) → is_exponent x ≡ true → (j : ℕ) (k : Kind) → Numeric k → At s j x → Follow (byte_at s (j + length x))
      → ReadsTo (exponent_at s j k) (j + length x)
  unfolding exponent_at
  exponent_reads [] h j k n a f = let z : j + 0 ≡ j = omega arith in let t = (follow_ways (byte_at s j) (rw z at f)).2 in (k, n, rw (z, t))
  exponent_reads (c ∷ w) h j k n a f =
      and_ways (is_e c) (is_power w) h
      (λ t u. let z : j + 1 + length w ≡ j + suc (length w) = omega arith in
      let t₂ : is_e (byte_at s j) ≡ true = rw a.0 t in
      (Fractional, λ s f e. refl, rw t₂ (power_reads j w u a.2 (rw z (follow_ways (byte_at s (j + suc (length w))) f).0) ∙ ap (parsed Fractional) z)))

  fraction_reads : (f x : List ℕ) → is_fraction f ≡ true → is_exponent x ≡ true → (j : ℕ) → At s j (f ++ x) → Follow (byte_at s (j + length (f ++ x)))
      → ReadsTo (fraction_at s j) (j + length (f ++ x))
  unfolding fraction_at
  fraction_reads [] x hf hx j a n = rw (exponent_first x hx j a n).1 (exponent_reads x hx j Whole (λ s f e. refl) a n)
  fraction_reads (c ∷ w) x hf hx j a n =
      and_ways (eqb c 0x2E) (is_digits w) hf
      (λ t u. let z : j + 1 + length w + length x ≡ j + suc (length (w ++ x)) = omega (arith, length-append w x) in
      let a₂ = at_second s (j + 1) w x a.2 in
      let n₂ : Follow (byte_at s (j + 1 + length w + length x)) = rw z n in
      let d = digits_read w (j + 1) u (at_first s (j + 1) w x a.2) (exponent_first x hx (j + 1 + length w) a₂ n₂).0 in
      rw (a.0, t, d.1, d.0, ← z) (exponent_reads x hx (j + 1 + length w) Fractional (λ s f e. refl) a₂ n₂))

  whole_reads : (w : List ℕ) (j : ℕ) → is_int w ≡ true → At s j w → is_digit (byte_at s (j + length w)) ≡ false → (whole_end s j ≡ j + length w) × (0 < length w)
  unfolding whole_end
  whole_reads [] j h a n = clash false h refl
  whole_reads (c ∷ w) j h a n =
      ⊎_elim (λ x. rw (a.0, x.0, x.1) (refl, omega arith))
      (λ x. (rw (a.0, ne_eqb c 0x30 (λ q. omega arith)) (run_reads is_digit s (c ∷ w) j (rw (x.1, x.2)) a n), omega arith)) (int_ways c w h)

  unsigned_reads : (w f x : List ℕ) → is_int w ≡ true → is_fraction f ≡ true → is_exponent x ≡ true → (j : ℕ) → At s j (w ++ (f ++ x))
      → Follow (byte_at s (j + length (w ++ (f ++ x))))
      → ReadsTo (unsigned_at s j) (j + length (w ++ (f ++ x)))
  unfolding unsigned_at
  unsigned_reads w f x hw hf hx j a n =
      let z : j + length w + length (f ++ x) ≡ j + length (w ++ (f ++ x)) = omega (arith, length-append w (f ++ x)) in
      let a₂ = at_second s j w (f ++ x) a in
      let n₂ : Follow (byte_at s (j + length w + length (f ++ x))) = rw z n in
      let r = whole_reads w j hw (at_first s j w (f ++ x) a) (fraction_first f x hf hx (j + length w) a₂ n₂) in
      rw (r.0, ne_eqb (j + length w) j (λ q. omega (arith, r.1)), ← z) (fraction_reads f x hf hx (j + length w) a₂ n₂)

  -- what is spelled as a number, with no byte behind it that goes on with one, is read
  pub number_reads : (w : List ℕ) → IsNumber w → (i : ℕ) → At s i w → Follow (byte_at s (i + length w)) → ReadsTo (number_at s i) (i + length w)
  unfolding number_at
  number_reads w h i =
      let y = h.int ++ (h.fraction ++ h.exponent) in
      let P : List ℕ → Type 0 = λ v. At s i v → Follow (byte_at s (i + length v)) → ReadsTo (number_at s i) (i + length v) in
      let reads = unsigned_reads h.int h.fraction h.exponent h.is-int h.is-fraction h.is-exponent in
      ⊎_elim
      (λ e. subst P (sym (h.spelled ∙ ap (λ (m : List ℕ). m ++ y) e))
      (λ a n. let b = digit_bounds (byte_at s i) (int_first h.int (h.fraction ++ h.exponent) i h.is-int a) in
      rw (ne_eqb (byte_at s i) 0x2D (λ q. omega arith)) (reads i a n)))
      (λ e. subst P (sym (h.spelled ∙ ap (λ (m : List ℕ). m ++ y) e))
      (λ a n. let z : i + 1 + length y ≡ i + suc (length y) = omega arith in rw (a.0, ← z) (reads (i + 1) a.2 (rw z n))))
      h.is_minus
