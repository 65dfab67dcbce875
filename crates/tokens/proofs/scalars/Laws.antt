-- Values that hold no other: what their first byte says, where they end, and how they are spelled.
use mathlib.Core.Path.{◌≡◌, refl, sym, ◌∙◌, subst}
use mathlib.Core.List.{List, [], ◌∷◌}
use mathlib.Core.Bool.{true, false, ◌||◌, ◌&&◌, or-true}
use Prim.Native.Nat.{ℕ, ◌+◌, ◌-◌, ◌≤◌, ◌<◌}
use native.Mathlib.Decide.{dec_lt}
use native.Mathlib.Omega.{arith}
use lib.ListN.{length, get_or-eq_default}
use lib.Dec.{eqb, leb, ltb}
use borrow.Author.Tests.{eq-eqb, eqb-true, leb-true, ltb-true, lt-ltb, le-leb, ne_eqb}
use Rattle.model.specs.Text.{text, all, is_scalar, is_text}
use Rattle.model.specs.Value.{is_digit}
use Rattle.model.proofs.Basics.{or-false, both, and_ways}
use Rattle.std.specs.Prelude.{Ok, Err, Option, Some}
use Rattle.chars.specs.Refusals.{number, Reading}
use Rattle.tokens.specs.declared.scalars.First.{First}
use Rattle.tokens.specs.declared.scalars.First.TheVariants.{Array, Object, Quote, Number, LetterN, LetterF, LetterT, Other}
use Rattle.chars.specs.Bytes.{byte_at}
use Rattle.tokens.specs.Parse.{Parse, refused, parsed, unexpected}
use Rattle.chars.specs.Strings.{string_from, string_at, chars_at, characters, part}
use Rattle.tokens.specs.declared.tokens.Kind.{Kind}
use Rattle.tokens.specs.declared.tokens.Kind.TheVariants.{Null, False, True, Whole}
use Rattle.tokens.specs.Numbers.{digits_end, whole_end, exponent_at, fraction_at, unsigned_at, number_at}
use Rattle.tokens.specs.Scalars.{first_of, word_at, quoted, scalar_by, scalar_at}
use Rattle.tokens.specs.Spelling.{Spells, IsQuoted}
use Rattle.tokens.specs.Integers.{minus_end, goes_on, digits_from}
use Rattle.chars.proofs.Facts.{in_text, Scalar, run_next, run-from, run_end, ScanAhead, string_ahead, string_close, body_characters, Scalars}
use Rattle.chars.proofs.Facts.{scalars}
use Rattle.tokens.proofs.Bounds.{Bounded, unexpected_ways, unexpected_bounded, unexpected_end}
use Rattle.tokens.proofs.Pieces.{part_none, part_cons}
use Rattle.tokens.proofs.numbers.Laws.{Spelled, unexpected_spelled, number_bounded, number_spelled}
use Rattle.chars.specs.declared.refusals.Code.TheVariants.{Ended}

-- the first byte of each kind of value
abbrev pub FirstIs : ℕ → First → Type 0
FirstIs b Quote = b ≡ 0x22
FirstIs b Array = b ≡ 0x5B
FirstIs b Object = b ≡ 0x7B
FirstIs b Number = is_digit b || eqb b 0x2D ≡ true
FirstIs b LetterN = b ≡ 0x6E
FirstIs b LetterF = b ≡ 0x66
FirstIs b LetterT = b ≡ 0x74
FirstIs b Other = Unit

pub first_is : (b : ℕ) → FirstIs b (first_of b)
unfolding first_of
first_is b =
    both (FirstIs b) (eqb b 0x22) (eqb-true b 0x22)
    (λ _. both (FirstIs b) (eqb b 0x5B) (eqb-true b 0x5B)
    (λ _. both (FirstIs b) (eqb b 0x7B) (eqb-true b 0x7B)
    (λ _. both (FirstIs b) (is_digit b || eqb b 0x2D) (λ t. t)
    (λ _. both (FirstIs b) (eqb b 0x6E) (eqb-true b 0x6E)
    (λ _. both (FirstIs b) (eqb b 0x66) (eqb-true b 0x66)
    (λ _. both (FirstIs b) (eqb b 0x74) (eqb-true b 0x74) (λ _. tt)))))))

module _ (b : ℕ) where
  pub first_array : first_of b ≡ Array → b ≡ 0x5B
  first_array e = rw e at (first_is b)

  pub first_object : first_of b ≡ Object → b ≡ 0x7B
  first_object e = rw e at (first_is b)

  -- the other way round
  pub quote_first : b ≡ 0x22 → first_of b ≡ Quote
  unfolding first_of
  quote_first e = rw e

  pub array_first : b ≡ 0x5B → first_of b ≡ Array
  unfolding first_of
  array_first e = rw e

  pub object_first : b ≡ 0x7B → first_of b ≡ Object
  unfolding first_of
  object_first e = rw e

-- a word that was read stands there
abbrev Word : Kind → List ℕ → List ℕ → ℕ → Parse Kind → Type 0
Word k w s i (refused c p) = (p ≤ length s) × (2 ≤ number c) × (number c ≤ 7)
Word k w s i (parsed j e) = (j ≡ k) × (e ≡ i + length w) × (e ≤ length s) × (part s i e ≡ w)

more : (k : Kind) (c : ℕ) (w s : List ℕ) (i : ℕ) → byte_at s i ≡ c → i < length s → (r : Parse Kind) → Word k w s (i + 1) r → Word k (c ∷ w) s i r
more k c w s i q l (refused d p) h = h
more k c w s i q l (parsed j e) h = (h.0, omega arith, h.2, part_cons s i e (omega arith) l ∙ cc h.3)

word_read : (k : Kind) (w s : List ℕ) (i : ℕ) → all (ltb 0) w ≡ true → i ≤ length s → Word k w s i (word_at k w s i)
unfolding word_at
word_read k [] s i t l = (refl, omega arith, l, part_none s i)
word_read k (c ∷ w) s i t l =
    and_ways (ltb 0 c) (all (ltb 0) w) t
    (λ z u. both (Word k (c ∷ w) s i) (eqb (byte_at s i) c)
    (λ v. let q = eqb-true (byte_at s i) c v in
    let m = in_text s i (omega (arith, ltb-true 0 c z)) in
    more k c w s i q m (word_at k w s (i + 1)) (word_read k w s (i + 1) u (omega arith)))
    (λ _. unexpected_ways (Word k (c ∷ w) s i) s i (λ l. omega arith) (omega arith)))

-- what is read ends within the text, and is spelled there
abbrev Good : List ℕ → ℕ → Parse Kind → Type 0
Good s i r = Bounded s i r × Spelled s i r

word_good : (k : Kind) (w s : List ℕ) (i : ℕ) → 0 < length w → ((e : ℕ) → part s i e ≡ w → Spells k s i e) → (r : Parse Kind) → Word k w s i r → Good s i r
word_good k w s i l f (refused c p) h = (h, tt)
word_good k w s i l f (parsed j e) h = (omega arith, subst (λ (x : Kind). Spells x s i e) (sym h.0) (f e h.3))

quoted_good : (s : List ℕ) (i : ℕ) → byte_at s i ≡ 0x22 → (r : Reading ℕ) → string_at s (i + 1) ≡ r → ScanAhead s (i + 1) r → Good s i (quoted r)
quoted_good s i o (Ok e) q h = (omega arith, record { opens = o; ends = q })
quoted_good s i o (Err r) q h = (omega arith, tt)

module _ (s : List ℕ) (i : ℕ) where
  unexpected_good : Good s i (unexpected s i)
  unexpected_good = (unexpected_bounded Kind s i i, unexpected_spelled s i i)

  -- the word w, none of whose bytes is 0, by its first
  letter_good : (k : Kind) (c : ℕ) (w : List ℕ) → all (ltb 0) (c ∷ w) ≡ true → ((e : ℕ) → part s i e ≡ c ∷ w → Spells k s i e)
      → byte_at s i ≡ c → Good s i (word_at k (c ∷ w) s i)
  letter_good k c w t f b =
      and_ways (ltb 0 c) (all (ltb 0) w) t
      (λ z _. let l = in_text s i (omega (arith, ltb-true 0 c z)) in
      word_good k (c ∷ w) s i (omega arith) f (word_at k (c ∷ w) s i) (word_read k (c ∷ w) s i t (omega arith)))

  good_by : (f : First) → FirstIs (byte_at s i) f → Good s i (scalar_by f s i)
  good_by Quote b = quoted_good s i b (string_at s (i + 1)) refl (string_ahead s (i + 1))
  good_by Number b = (number_bounded s i, number_spelled s i)
  good_by LetterN b = letter_good Null 0x6E (text "ull") refl (λ e q. q) b
  good_by LetterF b = letter_good False 0x66 (text "alse") refl (λ e q. q) b
  good_by LetterT b = letter_good True 0x74 (text "rue") refl (λ e q. q) b
  good_by Array b = unexpected_good
  good_by Object b = unexpected_good
  good_by Other b = unexpected_good

  pub scalar_bounded : Bounded s i (scalar_at s i)
  scalar_bounded = (good_by (first_of (byte_at s i)) (first_is (byte_at s i))).0

  pub scalar_spelled : Spelled s i (scalar_at s i)
  scalar_spelled = (good_by (first_of (byte_at s i)) (first_is (byte_at s i))).1

  nothing : length s ≤ i → byte_at s i ≡ 0
  nothing h = get_or-eq_default s 0 h

  -- behind the text nothing begins a value, whatever the first byte is said to be
  pub by_end : (f : First) → length s ≤ i → scalar_by f s i ≡ unexpected s i
  unfolding string_at string_from number_at unsigned_at whole_end word_at
  by_end Quote h = let z : length s - (i + 1) ≡ 0 = omega arith in rw (z, unexpected_end {A = Kind} s i h)
  by_end Number h = rw (nothing h, run_end is_digit s i h, eq-eqb i i refl)
  by_end LetterN h = rw (nothing h)
  by_end LetterF h = rw (nothing h)
  by_end LetterT h = rw (nothing h)
  by_end Array h = refl
  by_end Object h = refl
  by_end Other h = refl

  -- behind the text
  pub scalar_end : length s ≤ i → scalar_at s i ≡ refused Ended (length s)
  unfolding first_of
  scalar_end h = rw (nothing h) (unexpected_end s i h)

pub scalar_spells : (s : List ℕ) (i e : ℕ) (k : Kind) → scalar_at s i ≡ parsed k e → Spells k s i e
scalar_spells s i e k q = rw q at (scalar_spelled s i)

-- both quotes
pub quoted_bounds : {s : List ℕ} {f e : ℕ} → IsQuoted s f e → (f + 2 ≤ e) × (e ≤ length s) × (byte_at s (e - 1) ≡ 0x22)
quoted_bounds {s} {f} {e} q = let h = string_close s (f + 1) e q.ends in (omega arith, h.1, h.2)

-- the characters of a string are those of its bytes between the quotes
pub quoted_characters : {s : List ℕ} {f e : ℕ} → IsQuoted s f e → characters (part s (f + 1) (e - 1)) ≡ chars_at s (f + 1)
quoted_characters {s} {f} {e} q = body_characters s (f + 1) e q.ends

scalar_test : (v : ℕ) → Scalar v → is_scalar v ≡ true
scalar_test v h = go (dec_lt v 0xD800)
  where
    go : Dec (v < 0xD800) → is_scalar v ≡ true
    go (yes l) = rw (lt-ltb v 0xD800 l)
    go (no n) = rw (le-leb 0xE000 v (h.1 (omega arith)), le-leb v 0x10FFFF h.0, or-true)

scalars_text : (t : List ℕ) → Scalars t → is_text t ≡ true
scalars_text [] h = refl
scalars_text (v ∷ t) h = rw (scalar_test v h.0) (scalars_text t h.1)

pub characters_text : (s : List ℕ) → is_text (characters s) ≡ true
characters_text s = scalars_text (characters s) (scalars s 0)

-- ---- a number of digits alone that begins with no 0, perhaps behind a minus

digit_test : (b : ℕ) → 0x30 ≤ b → b ≤ 0x39 → is_digit b ≡ true
digit_test b l m = rw (le-leb 0x30 b l, le-leb b 0x39 m)

pub number_digit : (b : ℕ) → 0x30 ≤ b → b ≤ 0x39 → first_of b ≡ Number
unfolding first_of
number_digit b l m = rw (ne_eqb b 0x22 (λ q. omega arith), ne_eqb b 0x5B (λ q. omega arith), ne_eqb b 0x7B (λ q. omega arith), digit_test b l m)

number_minus : (b : ℕ) → b ≡ 0x2D → first_of b ≡ Number
unfolding first_of
number_minus b e = rw e

module _ (s : List ℕ) (f : ℕ) where
  abbrev ending : ℕ
  ending = digits_end s (f + 1)

  module _ (l : 0x31 ≤ byte_at s f) (m : byte_at s f ≤ 0x39) where
    -- the digits behind the first end where all of them do
    all_digits : digits_end s f ≡ ending
    all_digits = run_next is_digit s f (in_text s f (omega arith)) (digit_test (byte_at s f) (omega arith) m)

    begins_on : f < ending
    begins_on = omega (arith, run-from is_digit s (f + 1))

    digits_read : goes_on (byte_at s ending) ≡ false → unsigned_at s f ≡ parsed Whole ending
    unfolding goes_on unsigned_at whole_end fraction_at exponent_at
    digits_read g =
        let x = or-false (eqb (byte_at s ending) 0x2E) (eqb (byte_at s ending) 0x45 || eqb (byte_at s ending) 0x65) g in
        rw (ne_eqb (byte_at s f) 0x30 (λ q. omega arith), all_digits, ne_eqb ending f (λ q. omega (arith, begins_on)), x.0, x.1)

  -- where they begin, they are read so
  from_read : {e : ℕ} → digits_from s f ≡ Some e → (unsigned_at s f ≡ parsed Whole e) × (0x31 ≤ byte_at s f) × (byte_at s f ≤ 0x39)
  unfolding digits_from
  from_read {e} =
      let b = byte_at s f in
      let P : Option ℕ → Type 0 = λ r. r ≡ Some e → (unsigned_at s f ≡ parsed Whole e) × (0x31 ≤ b) × (b ≤ 0x39) in
      both P (leb 0x31 b && leb b 0x39)
      (λ t. both P (goes_on (byte_at s ending)) (λ _ q. absurd (cc))
      (λ g q. and_ways (leb 0x31 b) (leb b 0x39) t (λ l m. let x = leb-true 0x31 b l in
      let y = leb-true b 0x39 m in
      let z : ending ≡ e = cc in (rw z at (digits_read x y g), x, y))))
      (λ _ q. absurd (cc))

-- where a number of digits stands, it is read so
module _ (s : List ℕ) (i : ℕ) where
  abbrev IntegerRead : ℕ → Type 0
  IntegerRead f = (e : ℕ) → digits_from s f ≡ Some e → (first_of (byte_at s i) ≡ Number) × (scalar_at s i ≡ parsed Whole e)

  behind_minus : eqb (byte_at s i) 0x2D ≡ true → IntegerRead (i + 1)
  unfolding number_at
  behind_minus t e q = let n = number_minus (byte_at s i) (eqb-true (byte_at s i) 0x2D t) in (n, rw (n, t) (from_read s (i + 1) q).0)

  no_minus : eqb (byte_at s i) 0x2D ≡ false → IntegerRead i
  unfolding number_at
  no_minus t e q = let h = from_read s i q in let n = number_digit (byte_at s i) (omega arith) h.2 in (n, rw (n, t) h.0)

  pub integer_read : IntegerRead (minus_end s i)
  unfolding minus_end
  integer_read = both IntegerRead (eqb (byte_at s i) 0x2D) behind_minus no_minus
