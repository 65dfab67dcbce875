-- The tree of a character takes the bytes of the written grammar, and no others.
use Prim.Native.Nat.{ℕ, ◌+◌, ◌-◌, ◌*◌, ◌≤◌, ◌<◌}
use mathlib.Core.Path.{◌≡◌, refl, ap, subst}
use mathlib.Core.Logic.{inl, inr, ⊎_elim}
use mathlib.Core.Bool.{Bool, true, false, cond, ◌||◌, and-eq-true_iff}
use mathlib.Core.List.{List, [], ◌∷◌}
use native.Mathlib.Omega.{arith}
use lib.Dec.{ltb, eqb}
use borrow.Author.Tests.{ltb-true, ltb-false, eqb-true, eqb-false, lt-ltb, le-ltb, ne_eqb}
use Rattle.chars.specs.Bytes.{from_to, digit, escape_of, lowest, highest, six_bits}
use Rattle.chars.specs.Characters.{pair_value}
use Rattle.std.specs.Prelude.{Option, Some, is_some, unwrap_or}
use Rattle.model.proofs.Basics.{both, clash, by_test, not-true}
use Rattle.chars.proofs.Facts.{highest_most, lowest_least, lowest_of, highest_of, outside}
use Rattle.grammar.specs.Utf8.{In, IsTail, StartsThree, e0, e1_ec, ed, ee_ef, StartsFour, f0, f1_f3, f4, IsUtf8, utf8_1, utf8_2, utf8_3, utf8_4}
use Rattle.grammar.specs.Written.{IsUnescaped, IsHexDigit, decimal, upper, lower, IsHex, hex as hex-digits, IsChar, unescaped, short}
use Rattle.grammar.specs.Written.{unicode, surrogates, IsShort, quotation_mark, reverse_solidus, solidus, backspace, form_feed}
use Rattle.grammar.specs.Written.{line_feed, carriage_return, tab}
use Rattle.grammar.proofs.Utf8.{utf8_range, utf8_wide, three_bits, four_bits, starts_three, starts_four}
use Rattle.grammar.proofs.Trees.{Tree, give, Lang}
use Rattle.grammar.proofs.CharTrees.{ranged, in_range, not_in, hex, hex_value, pair_tree, any, joined_tree, partner_tree, digits_tree, rest_tree, no_low}
use Rattle.grammar.proofs.CharTrees.{unicode_tree, escape_tree, tail_tree, two, three, four, two_tree, three_tree, four_tree, wide_tree}
use Rattle.grammar.proofs.CharTrees.{char_tree}

-- where the tree gives a character
give_ways : (P : List ℕ → ℕ → Type 0) (u : ℕ) (w : List ℕ) (v : ℕ) → Lang (give u) w v → P [] u → P w v
give_ways P u [] v e h = subst (P []) e h
give_ways P u (c ∷ w) v e h = absurd e

-- ---- characters that are not escaped

-- a byte that continues a character
tail_ways : (lo hi : ℕ) (f : ℕ → Tree) (P : List ℕ → Type 0) (w : List ℕ) (v : ℕ) → Lang (tail_tree lo hi f) w v
    → ((c : ℕ) (r : List ℕ) → In lo hi c → Lang (f (c - 0x80)) r v → P (c ∷ r)) → P w
unfolding six_bits
tail_ways lo hi f P [] v h k = absurd h
tail_ways lo hi f P (c ∷ r) v h k =
    both (λ o. is_some o ≡ true → Lang (f (unwrap_or o 0)) r v → P (c ∷ r)) (from_to lo hi c)
    (λ t _. k c r (ranged lo hi c t)) (λ _ t. clash false t refl) h.0 h.1

tail_lang : (lo hi : ℕ) (f : ℕ → Tree) (c : ℕ) (r : List ℕ) (v : ℕ) → In lo hi c → Lang (f (c - 0x80)) r v → Lang (tail_tree lo hi f) (c ∷ r) v
unfolding six_bits
tail_lang lo hi f c r v i h = rw (in_range lo hi c i) (refl, h)

-- the range of a second byte lies within that of the others, and is all of it but for E0, ED, F0 and F4
second_tail : (b c : ℕ) → In (lowest b) (highest b) c → IsTail c
second_tail b c h = omega (arith, lowest_least b, highest_most b)

whole_range : (b c : ℕ) → IsTail c → (b ≡ 0xE0 → ⊥) × (b ≡ 0xED → ⊥) × (b ≡ 0xF0 → ⊥) × (b ≡ 0xF4 → ⊥) → In (lowest b) (highest b) c
unfolding lowest highest
whole_range b c t n = rw (ne_eqb b 0xE0 n.0, ne_eqb b 0xED n.1, ne_eqb b 0xF0 n.2, ne_eqb b 0xF4 n.3) t

three_second : {b c : ℕ} → StartsThree b c → In (lowest b) (highest b) c
unfolding lowest highest
three_second (e0 h) = h
three_second (e1_ec {b} {c} h t) = whole_range b c t (omega arith)
three_second (ed h) = h
three_second (ee_ef {b} {c} h t) = whole_range b c t (omega arith)

four_second : {b c : ℕ} → StartsFour b c → In (lowest b) (highest b) c
unfolding lowest highest
four_second (f0 h) = h
four_second (f1_f3 {b} {c} h t) = whole_range b c t (omega arith)
four_second (f4 h) = h

-- from the tree
module _ (b : ℕ) (w : List ℕ) (v : ℕ) where
  two_utf8 : In 0xC2 0xDF b → Lang (two_tree b) w v → IsUtf8 (b ∷ w) v
  two_utf8 i h = tail_ways 0x80 0xBF (two b) (λ w. IsUtf8 (b ∷ w) v) w v h (λ c r x h. give_ways (λ r. IsUtf8 (b ∷ c ∷ r)) _ r v h (utf8_2 i x))

  three_utf8 : In 0xE0 0xEF b → Lang (three_tree b) w v → IsUtf8 (b ∷ w) v
  three_utf8 i h =
      tail_ways (lowest b) (highest b) (λ c. tail_tree 0x80 0xBF (three b c)) (λ w. IsUtf8 (b ∷ w) v) w v h
      (λ c r x h. tail_ways 0x80 0xBF (three b (c - 0x80)) (λ r. IsUtf8 (b ∷ c ∷ r) v) r v h
      (λ d r y h. give_ways (λ r. IsUtf8 (b ∷ c ∷ d ∷ r)) _ r v h
      (utf8_3 (starts_three b c i (second_tail b c x) (lowest_of b c x.0).0 (highest_of b c x.1).0) y)))

  four_utf8 : In 0xF0 0xF4 b → Lang (four_tree b) w v → IsUtf8 (b ∷ w) v
  four_utf8 i h =
      tail_ways (lowest b) (highest b) (λ c. tail_tree 0x80 0xBF (λ d. tail_tree 0x80 0xBF (four b c d))) (λ w. IsUtf8 (b ∷ w) v) w v h
      (λ c r x h. tail_ways 0x80 0xBF (λ d. tail_tree 0x80 0xBF (four b (c - 0x80) d)) (λ r. IsUtf8 (b ∷ c ∷ r) v) r v h
      (λ d r y h. tail_ways 0x80 0xBF (four b (c - 0x80) (d - 0x80)) (λ r. IsUtf8 (b ∷ c ∷ d ∷ r) v) r v h
      (λ e r z h. give_ways (λ r. IsUtf8 (b ∷ c ∷ d ∷ e ∷ r)) _ r v h
      (utf8_4 (starts_four b c i (second_tail b c x) (lowest_of b c x.0).1 (highest_of b c x.1).1) y z))))

  wide_utf8 : In 0xC2 0xF4 b → Lang (wide_tree b) w v → IsUtf8 (b ∷ w) v
  wide_utf8 i =
      let P : Tree → Type 0 = λ t. Lang t w v → IsUtf8 (b ∷ w) v in
      both P (ltb b 0xE0) (λ t. two_utf8 (omega (arith, ltb-true b 0xE0 t)))
      (λ t. both P (ltb b 0xF0) (λ u. three_utf8 (omega (arith, ltb-false b 0xE0 t, ltb-true b 0xF0 u))) (λ u. four_utf8 (omega (arith, ltb-false b 0xF0 u))))

  wide_char : In 0xC2 0xF4 b → Lang (wide_tree b) w v → IsChar (b ∷ w) v
  wide_char i h =
      let u = wide_utf8 i h in
      let l = utf8_wide u (omega arith) in
      let m : v ≤ 0x10FFFF = ⊎_elim (λ r. omega arith) (λ r. r.1) (utf8_range u) in
      unescaped u (inr (inr (omega arith)))

one_char : (b : ℕ) (w : List ℕ) (v : ℕ) → In 0x20 0x7F b → (b ≡ 0x22 → ⊥) → (b ≡ 0x5C → ⊥) → Lang (give b) w v → IsChar (b ∷ w) v
one_char b w v i n m h = give_ways (λ w. IsChar (b ∷ w)) b w v h (unescaped (utf8_1 (omega arith)) range)
  where
    range : IsUnescaped b
    range =
        by_test (ltb b 0x22) (λ t. inl (omega (arith, ltb-true b 0x22 t)))
        (λ t. by_test (ltb b 0x5C) (λ u. inr (inl (omega (arith, n, ltb-false b 0x22 t, ltb-true b 0x5C u))))
        (λ u. inr (inr (omega (arith, m, ltb-false b 0x5C u)))))

-- to the tree
one_lang : (b : ℕ) → In 0x20 0x7F b → (b ≡ 0x22 → ⊥) → (b ≡ 0x5C → ⊥) → Lang char_tree (b ∷ []) b
one_lang b i n m = rw (ne_eqb b 0x22 n, ne_eqb b 0x5C m, le-ltb b 0x20 i.0, lt-ltb b 0x80 (omega arith)) (refl, refl)

wide_lang : (b : ℕ) (w : List ℕ) (v : ℕ) → In 0xC2 0xF4 b → Lang (wide_tree b) w v → Lang char_tree (b ∷ w) v
wide_lang b w v i h =
    let n = ne_eqb b 0x22 (omega arith) in
    let m = ne_eqb b 0x5C (omega arith) in
    rw (n, m, le-ltb b 0x20 (omega arith), le-ltb b 0x80 (omega arith), le-ltb b 0xC2 i.0, lt-ltb b 0xF5 (omega arith)) (refl, h)

utf8_lang : {w : List ℕ} {v : ℕ} → IsUtf8 w v → IsUnescaped v → Lang char_tree w v
utf8_lang (utf8_1 {b} h) (inl i) = one_lang b (omega arith) (omega arith) (omega arith)
utf8_lang (utf8_1 {b} h) (inr (inl i)) = one_lang b (omega arith) (omega arith) (omega arith)
utf8_lang (utf8_1 {b} h) (inr (inr i)) = one_lang b (omega arith) (omega arith) (omega arith)
utf8_lang {v = v} (utf8_2 {b} {c} h t) u = wide_lang b (c ∷ []) v (omega arith) (rw (lt-ltb b 0xE0 (omega arith)) (tail_lang 0x80 0xBF (two b) c [] v t refl))
utf8_lang {v = v} (utf8_3 {b} {c} {d} s t) u =
    let r = three_bits s in
    wide_lang b (c ∷ d ∷ []) v (omega arith) (rw (le-ltb b 0xE0 r.0.0, lt-ltb b 0xF0 (omega arith))
    (tail_lang (lowest b) (highest b) (λ c. tail_tree 0x80 0xBF (three b c)) c (d ∷ []) v (three_second s)
    (tail_lang 0x80 0xBF (three b (c - 0x80)) d [] v t refl)))
utf8_lang {v = v} (utf8_4 {b} {c} {d} {e} s t u) _ =
    let r = four_bits s in
    wide_lang b (c ∷ d ∷ e ∷ []) v (omega arith) (rw (le-ltb b 0xE0 (omega arith), le-ltb b 0xF0 r.0.0)
    (tail_lang (lowest b) (highest b) (λ c. tail_tree 0x80 0xBF (λ d. tail_tree 0x80 0xBF (four b c d))) c (d ∷ e ∷ []) v (four_second s)
    (tail_lang 0x80 0xBF (λ d. tail_tree 0x80 0xBF (four b (c - 0x80) d)) d (e ∷ []) v t
    (tail_lang 0x80 0xBF (four b (c - 0x80) (d - 0x80)) e [] v u refl))))

-- ---- escapes

-- of one letter
abbrev Short : ℕ → Option ℕ → Type 0
Short b o = is_some o ≡ true → IsShort b (unwrap_or o 0)

is_short : (b : ℕ) → Short b (escape_of b)
unfolding escape_of
is_short b =
    letter 0x22 _ _ quotation_mark (letter 0x5C _ _ reverse_solidus (letter 0x2F _ _ solidus (letter 0x62 _ _ backspace
    (letter 0x66 _ _ form_feed (letter 0x6E _ _ line_feed (letter 0x72 _ _ carriage_return (letter 0x74 _ _ tab (λ t. clash false t refl))))))))
  where
    letter : (k x : ℕ) (o : Option ℕ) → IsShort k x → Short b o → Short b (cond (eqb b k) (Some x) o)
    letter k x o s f = both (Short b) (eqb b k) (λ t _. rw (eqb-true b k t) s) (λ _. f)

named_of : {b v : ℕ} → IsShort b v → (escape_of b ≡ Some v) × (eqb b 0x75 ≡ false)
unfolding escape_of
named_of quotation_mark = (refl, refl)
named_of reverse_solidus = (refl, refl)
named_of solidus = (refl, refl)
named_of backspace = (refl, refl)
named_of form_feed = (refl, refl)
named_of line_feed = (refl, refl)
named_of carriage_return = (refl, refl)
named_of tab = (refl, refl)

-- a hex digit
digit_of : {b x : ℕ} → IsHexDigit b x → (digit b ≡ Some x) × (x ≤ 15)
unfolding digit
digit_of (decimal x l) = (rw (in_range 0x30 0x39 (0x30 + x) (omega arith)) (ap Some (omega arith)), omega arith)
digit_of (upper x l) = (rw (not_in 0x30 0x39 (0x41 + x) (omega arith), in_range 0x41 0x46 (0x41 + x) (omega arith)) (ap Some (omega arith)), omega arith)
digit_of (lower x l) = (
  rw (not_in 0x30 0x39 (0x61 + x) (omega arith), not_in 0x41 0x46 (0x61 + x) (omega arith), in_range 0x61 0x66 (0x61 + x) (omega arith)) (ap Some (omega arith)),
  omega arith,
)

is_digit_lem : (b : ℕ) → hex b ≡ true → IsHexDigit b (hex_value b)
unfolding digit
is_digit_lem b =
    let P : Option ℕ → Type 0 = λ o. is_some o ≡ true → IsHexDigit b (unwrap_or o 0) in
    both P (from_to 0x30 0x39 b) (λ t _. let r = ranged 0x30 0x39 b t in spelled 0x30 (b - 0x30) (omega arith) (decimal (b - 0x30) (omega arith)))
    (λ _. both P (from_to 0x41 0x46 b) (λ t _. let r = ranged 0x41 0x46 b t in spelled 0x41 (b - 0x37) (omega arith) (upper (b - 0x41) (omega arith)))
    (λ _. both P (from_to 0x61 0x66 b) (λ t _. let r = ranged 0x61 0x66 b t in spelled 0x61 (b - 0x57) (omega arith) (lower (b - 0x61) (omega arith)))
    (λ _ t. clash false t refl)))
  where
    spelled : {x : ℕ} (lo y : ℕ) → (lo + (b - lo) ≡ b) × (x ≡ y) → IsHexDigit (lo + (b - lo)) x → IsHexDigit b y
    spelled {x} lo y e h = subst (λ (c : ℕ). IsHexDigit c y) e.0 (subst (IsHexDigit (lo + (b - lo))) e.1 h)

-- D and d are the digits of 13
thirteen : (b : ℕ) → eqb b 0x44 || eqb b 0x64 ≡ true → IsHexDigit b 13
thirteen b h =
    by_test (eqb b 0x44) (λ t. rw (eqb-true b 0x44 t) (upper 3 (omega arith))) (λ t. rw (eqb-true b 0x64 (rw t at h)) (lower 3 (omega arith)))

is_thirteen : {b x : ℕ} → IsHexDigit b x → x ≡ 13 → eqb b 0x44 || eqb b 0x64 ≡ true
is_thirteen (decimal x l) e = absurd (omega arith)
is_thirteen (upper x l) e = let z : x ≡ 3 = omega arith in rw z refl
is_thirteen (lower x l) e = let z : x ≡ 3 = omega arith in rw z refl

small : {a b c d x y p q : ℕ} → IsHexDigit a x → IsHexDigit b y → IsHexDigit c p → IsHexDigit d q → (x ≤ 15) × (y ≤ 15) × (p ≤ 15) × (q ≤ 15)
small k l m n = ((digit_of k).1, (digit_of l).1, (digit_of m).1, (digit_of n).1)

-- two hex digits and what follows them
module _ (good : ℕ → Bool) (f : ℕ → Tree) where
  pair_ways : (P : List ℕ → Type 0) (w : List ℕ) (v : ℕ) → Lang (pair_tree good f) w v
      → ((a b x y : ℕ) (r : List ℕ) → IsHexDigit a x → IsHexDigit b y → good (16 * x + y) ≡ true → Lang (f (16 * x + y)) r v → P (a ∷ b ∷ r)) → P w
  pair_ways P [] v h k = absurd h
  pair_ways P (a ∷ []) v h k = absurd h.1
  pair_ways P (a ∷ b ∷ r) v h k =
      let g = (and-eq-true_iff (hex b) _).0 h.1.0 in k a b (hex_value a) (hex_value b) r (is_digit_lem a h.0) (is_digit_lem b g.0) g.1 h.1.1

  pair_lang : {a b x y : ℕ} (r : List ℕ) (v : ℕ) → IsHexDigit a x → IsHexDigit b y → good (16 * x + y) ≡ true → Lang (f (16 * x + y)) r v
      → Lang (pair_tree good f) (a ∷ b ∷ r) v
  pair_lang r v p q g h = rw ((digit_of p).0, (digit_of q).0, g) (refl, (refl, h))

-- the escape of a low surrogate, behind that of a high one
module _ (high : ℕ) where
  low_ways : (P : List ℕ → Type 0) (w : List ℕ) (v : ℕ) → Lang (partner_tree high) w v
      → ((x : List ℕ) (l : ℕ) → IsHex x l → In 0xDC00 0xDFFF l → v ≡ pair_value high l → P (0x5C ∷ 0x75 ∷ x)) → P w
  low_ways P [] v h k = absurd h
  low_ways P (a ∷ []) v h k = absurd h.1
  low_ways P (a ∷ b ∷ []) v h k = absurd h.1.1
  low_ways P (a ∷ b ∷ c ∷ []) v h k = absurd h.1.1.1
  low_ways P (a ∷ b ∷ c ∷ d ∷ w) v h k =
      let i = (and-eq-true_iff (hex d) _).0 h.1.1.1.0 in
      let j = ranged 12 15 (hex_value d) i.1 in
      let c-digit = thirteen c h.1.1.0 in
      let d-digit = is_digit_lem d i.0 in
      rw (eqb-true a 0x5C h.0, eqb-true b 0x75 h.1.0)
      (pair_ways any (joined_tree high (hex_value d)) (λ w. P (0x5C ∷ 0x75 ∷ c ∷ d ∷ w)) w v h.1.1.1.1
      (λ p q x y r m n _ h. let s = small c-digit d-digit m n in
      give_ways (λ r u. v ≡ u → P (0x5C ∷ 0x75 ∷ c ∷ d ∷ p ∷ q ∷ r)) _ r v h (λ e. k _ _ (hex-digits c-digit d-digit m n) (omega arith) (omega arith)) refl))

  low_lang : {x : List ℕ} {l : ℕ} (v : ℕ) → IsHex x l → In 0xDC00 0xDFFF l → v ≡ pair_value high l → Lang (partner_tree high) (0x5C ∷ 0x75 ∷ x) v
  low_lang v (hex-digits {x = y} k l m n) h e =
      let s = small k l m n in
      let last = pair_lang any (joined_tree high y) [] v m n refl (omega arith) in
      (refl, (refl, (is_thirteen k (omega arith), rw ((digit_of l).0, in_range 12 15 y (omega arith)) (refl, last))))

-- the value of four hex digits, and the same by pairs of digits, as it is read
abbrev value : ℕ → ℕ → ℕ → ℕ → ℕ
value x y p q = 4096 * x + 256 * y + 16 * p + q

abbrev in_pairs : ℕ → ℕ → ℕ → ℕ → ℕ
in_pairs x y p q = 256 * (16 * x + y) + (16 * p + q)

-- four hex digits behind `u`, by the first two of them
module _ {a b c d x y p q : ℕ} (k : IsHexDigit a x) (l : IsHexDigit b y) (m : IsHexDigit c p) (n : IsHexDigit d q) where
  high_char : (w : List ℕ) (v : ℕ) → In 0xD8 0xDB (16 * x + y) → Lang (partner_tree (in_pairs x y p q)) w v → IsChar (0x5C ∷ 0x75 ∷ a ∷ b ∷ c ∷ d ∷ w) v
  high_char w v i h =
      let s = small k l m n in
      low_ways (in_pairs x y p q) (λ w. IsChar (0x5C ∷ 0x75 ∷ a ∷ b ∷ c ∷ d ∷ w) v) w v h
      (λ r o g j e. let z : 0x10000 + 0x400 * (value x y p q - 0xD800) + (o - 0xDC00) ≡ v = omega arith in
      subst (IsChar (0x5C ∷ 0x75 ∷ a ∷ b ∷ c ∷ d ∷ 0x5C ∷ 0x75 ∷ r)) z (surrogates (hex-digits k l m n) (omega arith) g j))

  single_char : (w : List ℕ) (v : ℕ) → from_to 0xD8 0xDB (16 * x + y) ≡ false → no_low (16 * x + y) ≡ true → Lang (give (in_pairs x y p q)) w v
      → IsChar (0x5C ∷ 0x75 ∷ a ∷ b ∷ c ∷ d ∷ w) v
  single_char w v t g h =
      let u = value x y p q in
      let z : u ≡ in_pairs x y p q = omega arith in
      give_ways (λ w. IsChar (0x5C ∷ 0x75 ∷ a ∷ b ∷ c ∷ d ∷ w)) _ w v h
      (subst (IsChar (0x5C ∷ 0x75 ∷ a ∷ b ∷ c ∷ d ∷ [])) z (unicode (hex-digits k l m n) (λ i. no_surrogate (omega arith))))
    where
      no_surrogate : In 0xD800 0xDFFF (value x y p q) → ⊥
      no_surrogate e =
          let s = small k l m n in
          let i : 0xDB < 16 * x + y = outside 0xD8 0xDB (16 * x + y) t (omega arith) in
          let j : 0xDF < 16 * x + y = outside 0xDC 0xDF (16 * x + y) (not-true _ g) (omega arith) in
          omega arith

  digits_lang : (r : List ℕ) (v : ℕ) → (In 0xDC 0xDF (16 * x + y) → ⊥) → Lang (digits_tree (16 * x + y) (16 * p + q)) r v
      → Lang unicode_tree (a ∷ b ∷ c ∷ d ∷ r) v
  digits_lang r v f h =
      pair_lang no_low rest_tree (c ∷ d ∷ r) v k l (rw (not_in 0xDC 0xDF (16 * x + y) f)) (pair_lang any (digits_tree (16 * x + y)) r v m n refl h)

  single_lang : (v : ℕ) → v ≡ value x y p q → (In 0xD800 0xDFFF v → ⊥) → Lang unicode_tree (a ∷ b ∷ c ∷ d ∷ []) v
  single_lang v z r =
      let s = small k l m n in
      let f : (In 0xD8 0xDF (16 * x + y) → ⊥) = λ i. r (omega arith) in
      digits_lang [] v (λ i. f (omega arith)) (rw (not_in 0xD8 0xDB (16 * x + y) (λ i. f (omega arith))) (omega arith))

  high_lang : {r : List ℕ} {o : ℕ} (v : ℕ) → In 0xD800 0xDBFF (value x y p q) → IsHex r o → In 0xDC00 0xDFFF o
      → v ≡ pair_value (value x y p q) o → Lang unicode_tree (a ∷ b ∷ c ∷ d ∷ 0x5C ∷ 0x75 ∷ r) v
  high_lang {r} v i g j e =
      let s = small k l m n in
      digits_lang (0x5C ∷ 0x75 ∷ r) v (omega arith) (rw (in_range 0xD8 0xDB (16 * x + y) (omega arith)) (low_lang _ v g j (omega arith)))

unicode_char : (w : List ℕ) (v : ℕ) → Lang unicode_tree w v → IsChar (0x5C ∷ 0x75 ∷ w) v
unicode_char w v h =
    pair_ways no_low rest_tree (λ w. IsChar (0x5C ∷ 0x75 ∷ w) v) w v h
    (λ a b x y r k l g h. pair_ways any (digits_tree (16 * x + y)) (λ r. IsChar (0x5C ∷ 0x75 ∷ a ∷ b ∷ r) v) r v h
    (λ c d p q r m n _ h. both (λ (t : Tree). Lang t r v → IsChar (0x5C ∷ 0x75 ∷ a ∷ b ∷ c ∷ d ∷ r) v) (from_to 0xD8 0xDB (16 * x + y))
    (λ t. high_char k l m n r v (ranged 0xD8 0xDB _ t)) (λ t. single_char k l m n r v t g) h))

escape_char : (w : List ℕ) (v : ℕ) → Lang escape_tree w v → IsChar (0x5C ∷ w) v
escape_char [] v h = absurd h
escape_char (b ∷ w) v h =
    both (λ t. Lang t w v → IsChar (0x5C ∷ b ∷ w) v) (eqb b 0x75) (λ t g. rw (eqb-true b 0x75 t) (unicode_char w v g))
    (λ t g. let n : is_some (escape_of b) ≡ true = rw t at h.0 in give_ways (λ w. IsChar (0x5C ∷ b ∷ w)) _ w v g (short (is_short b n))) h.1

-- ---- characters

pub lang_char : (w : List ℕ) (v : ℕ) → Lang char_tree w v → IsChar w v
lang_char [] v h = absurd h
lang_char (b ∷ w) v h =
    let P : Bool → Type 0 = λ t. t ≡ true → IsChar (b ∷ w) v in
    both P (eqb b 0x22) (λ _ t. clash false t refl)
    (λ n. both P (eqb b 0x5C) (λ t _. rw (eqb-true b 0x5C t) (escape_char w v (rw t at h.1)))
    (λ m. both P (ltb b 0x20) (λ _ t. clash false t refl)
    (λ l. both P (ltb b 0x80)
    (λ t _. one_char b w v (omega (arith, ltb-false b 0x20 l, ltb-true b 0x80 t)) (eqb-false b 0x22 n) (eqb-false b 0x5C m) (rw (m, t) at h.1))
    (λ t. both P (ltb b 0xC2) (λ _ u. clash false u refl)
    (λ u z. wide_char b w v (omega (arith, ltb-false b 0xC2 u, ltb-true b 0xF5 z)) (rw (m, t) at h.1))))))
    h.0

pub char_lang : {w : List ℕ} {v : ℕ} → IsChar w v → Lang char_tree w v
char_lang (unescaped u r) = utf8_lang u r
char_lang (short {b} {v} t) = let n = named_of t in rw (n.1, n.0) (refl, (refl, refl))
char_lang {v = v} (unicode (hex-digits k l m n) t) = (refl, (refl, single_lang k l m n v refl (λ i. t (omega arith))))
char_lang {v = v} (surrogates (hex-digits k l m n) i g j) = (refl, (refl, high_lang k l m n v i g j refl))
