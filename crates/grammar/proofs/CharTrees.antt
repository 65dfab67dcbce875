-- The tree of a character, and that it is what the reader reads.
use Prim.Native.Nat.{ℕ, ◌+◌, ◌-◌, ◌*◌, ◌≤◌}
use mathlib.Core.Path.{◌≡◌, refl}
use mathlib.Core.Bool.{Bool, true, false, cond, not, ◌&&◌, ◌||◌}
use mathlib.Core.List.{List}
use native.Mathlib.Omega.{arith}
use lib.ListN.{length}
use lib.Dec.{ltb, leb, eqb}
use borrow.Author.Tests.{ltb-true, leb-true, eqb-true, lt-ltb, le-leb, lt-leb, eq-eqb, ne_eqb}
use Rattle.std.specs.Prelude.{Ok, Err, is_some, unwrap_or}
use Rattle.chars.specs.Refusals.{number, refusal, Reading}
use Rattle.chars.specs.declared.refusals.Code.TheVariants.{NotAllowed, NotUtf8, LoneSurrogate}
use Rattle.chars.specs.Bytes.{byte_at, from_to, code_of, digit, escape_of, lowest, highest, six_bits}
use Rattle.chars.specs.Characters.{refusal_at, stop_at, need, need_some, hex_pair, with_pair, pair_value, partner_at, rest_at, unicode_at, escape_at}
use Rattle.chars.specs.Characters.{two_at, three_at, four_at, char_from, char_at}
use Rattle.chars.specs.declared.characters.Step.{Step}
use Rattle.chars.specs.declared.characters.Step.TheVariants.{Char, Quote}
use Rattle.model.proofs.Basics.{both, and_ways, by_test}
use Rattle.chars.proofs.Facts.{by_some, digit_in, lowest_least}
use Rattle.grammar.specs.Utf8.{In}
use Rattle.grammar.proofs.Trees.{Tree, give, next, walk, Good}

-- ---- ranges of bytes

pub ranged : (lo hi v : ℕ) → from_to lo hi v ≡ true → In lo hi v
ranged lo hi v t = and_ways (leb lo v) (leb v hi) t (λ l m. (leb-true _ _ l, leb-true _ _ m))

pub in_range : (lo hi v : ℕ) → In lo hi v → from_to lo hi v ≡ true
in_range lo hi v h = rw (le-leb lo v h.0, le-leb v hi h.1)

pub not_in : (lo hi v : ℕ) → (In lo hi v → ⊥) → from_to lo hi v ≡ false
not_in lo hi v f = by_test (from_to lo hi v) (λ t. absurd (f (ranged lo hi v t))) (λ t. t)

-- ---- the tree

-- a hex digit, and its value
abbrev pub hex : ℕ → Bool
hex b = is_some (digit b)

abbrev pub hex_value : ℕ → ℕ
hex_value b = unwrap_or (digit b) 0

-- two hex digits, with a value that is good
abbrev pub pair_tree : (ℕ → Bool) → (ℕ → Tree) → Tree
pair_tree good f =
    next hex code_of
    (λ a. next (λ b. hex b && good (16 * hex_value a + hex_value b)) (λ b. cond (hex b) LoneSurrogate (code_of b))
    (λ b. f (16 * hex_value a + hex_value b)))

abbrev pub any : ℕ → Bool
any v = true

-- behind the digits of a low surrogate, of which the second is x and the last two l
abbrev pub joined_tree : ℕ → ℕ → ℕ → Tree
joined_tree high x l = give (pair_value high (256 * (0xD0 + x) + l))

-- the second digit of a low surrogate, and the last two
abbrev pub low_tree : ℕ → Tree
low_tree high = next (λ b. hex b && from_to 12 15 (hex_value b)) (λ _. LoneSurrogate) (λ b. pair_tree any (joined_tree high (hex_value b)))

-- behind the escape of a high surrogate
abbrev pub partner_tree : ℕ → Tree
partner_tree high =
    next (λ b. eqb b 0x5C) (λ _. LoneSurrogate)
    (λ _. next (λ b. eqb b 0x75) (λ _. LoneSurrogate)
    (λ _. next (λ b. eqb b 0x44 || eqb b 0x64) (λ _. LoneSurrogate)
    (λ _. low_tree high)))

-- behind four digits, of which the first two are h and the others l
abbrev pub digits_tree : ℕ → ℕ → Tree
digits_tree h l = cond (from_to 0xD8 0xDB h) (partner_tree (256 * h + l)) (give (256 * h + l))

abbrev pub rest_tree : ℕ → Tree
rest_tree h = pair_tree any (digits_tree h)

abbrev pub no_low : ℕ → Bool
no_low h = not (from_to 0xDC 0xDF h)

-- the four digits of an escape
abbrev pub unicode_tree : Tree
unicode_tree = pair_tree no_low rest_tree

-- behind a backslash
abbrev pub escape_tree : Tree
escape_tree = next (λ b. eqb b 0x75 || is_some (escape_of b)) code_of (λ b. cond (eqb b 0x75) unicode_tree (give (unwrap_or (escape_of b) 0)))

-- a byte from lo to hi that continues a character, and what follows its six bits
abbrev pub tail : ℕ → ℕ → ℕ → Bool
tail lo hi c = is_some (six_bits c lo hi)

abbrev pub tail_tree : ℕ → ℕ → (ℕ → Tree) → Tree
tail_tree lo hi f = next (tail lo hi) (λ _. NotUtf8) (λ c. f (unwrap_or (six_bits c lo hi) 0))

-- the character of a first byte b and the bits of the others
abbrev pub two : ℕ → ℕ → Tree
two b c = give (64 * (b - 0xC0) + c)

abbrev pub three : ℕ → ℕ → ℕ → Tree
three b c d = give (4096 * (b - 0xE0) + 64 * c + d)

abbrev pub four : ℕ → ℕ → ℕ → ℕ → Tree
four b c d e = give (262144 * (b - 0xF0) + 4096 * c + 64 * d + e)

abbrev pub two_tree : ℕ → Tree
two_tree b = tail_tree 0x80 0xBF (two b)

abbrev pub three_tree : ℕ → Tree
three_tree b = tail_tree (lowest b) (highest b) (λ c. tail_tree 0x80 0xBF (three b c))

abbrev pub four_tree : ℕ → Tree
four_tree b = tail_tree (lowest b) (highest b) (λ c. tail_tree 0x80 0xBF (λ d. tail_tree 0x80 0xBF (four b c d)))

-- behind a first byte of several
abbrev pub wide_tree : ℕ → Tree
wide_tree b = cond (ltb b 0xE0) (two_tree b) (cond (ltb b 0xF0) (three_tree b) (four_tree b))

-- what a character begins with, and what follows it
abbrev pub start : ℕ → Bool
start b =
    cond (eqb b 0x22) false
    (cond (eqb b 0x5C) true (cond (ltb b 0x20) false (cond (ltb b 0x80) true (cond (ltb b 0xC2) false (ltb b 0xF5)))))

abbrev pub after : ℕ → Tree
after b = cond (eqb b 0x5C) escape_tree (cond (ltb b 0x80) (give b) (wide_tree b))

abbrev pub char_tree : Tree
char_tree = next start (λ b. cond (ltb b 0x20) NotAllowed NotUtf8) after

-- ---- it is what is read

-- one byte after the other
plus_2 : (i : ℕ) → i + 2 ≡ i + 1 + 1
plus_2 i = omega arith

plus_3 : (i : ℕ) → i + 3 ≡ i + 1 + 1 + 1
plus_3 i = omega arith

plus_4 : (i : ℕ) → i + 4 ≡ i + 1 + 1 + 1 + 1
plus_4 i = omega arith

plus_6 : (i : ℕ) → i + 6 ≡ i + 4 + 1 + 1
plus_6 i = omega arith

module _ (s : List ℕ) where
  pair_walk : (good : ℕ → Bool) (f : ℕ → Tree) (k : ℕ → Reading Step) (i : ℕ)
      → ((v : ℕ) → k v ≡ cond (good v) (walk (f v) s (i + 1 + 1)) (Err (refusal LoneSurrogate (i + 1))))
      → with_pair k (hex_pair s i) ≡ walk (pair_tree good f) s i
  unfolding hex_pair refusal_at
  pair_walk good f k i h =
      let P : Reading ℕ → Type 0 = λ r. with_pair k r ≡ walk (pair_tree good f) s i in
      by_some P (digit (byte_at s i))
      (λ a t. by_some P (digit (byte_at s (i + 1))) (λ b u. rw (t, u, h (16 * a + b), lt-ltb (i + 1) (length s) (digit_in s (i + 1) u))) (λ u. rw (t, u)))
      (λ t. rw t)

  low_walk : (i high : ℕ)
      → need_some (digit (byte_at s i)) (stop_at s i LoneSurrogate) (λ d.
      need (from_to 12 15 d) (stop_at s i LoneSurrogate)
      (with_pair (λ l. Ok (Char (pair_value high (256 * (0xD0 + d) + l)) (i + 1 + 1 + 1))) (hex_pair s (i + 1)))) ≡ walk (low_tree high) s i
  low_walk i high =
      by_some (λ r. r ≡ walk (low_tree high) s i) (digit (byte_at s i)) (λ d t. rw (t, pair_walk any (joined_tree high d) _ (i + 1) (λ v. refl))) (λ t. rw t)

  partner_walk : (i high : ℕ) → partner_at s i high ≡ walk (partner_tree high) s i
  unfolding partner_at
  partner_walk i high = rw (plus_2 i, plus_3 i, plus_6 i, plus_4 i, low_walk (i + 1 + 1 + 1) high)

  rest_walk : (i h : ℕ) → rest_at s i h ≡ walk (rest_tree h) s (i + 4)
  unfolding rest_at
  rest_walk i h =
      pair_walk any (digits_tree h) _ (i + 4)
      (λ l. both (λ x. x ≡ walk (digits_tree h l) s (i + 4 + 1 + 1)) (from_to 0xD8 0xDB h)
      (λ t. rw (plus_6 i, t) (partner_walk (i + 4 + 1 + 1) (256 * h + l))) (λ t. rw (plus_6 i, t)))

  unicode_walk : (i : ℕ) → unicode_at s i ≡ walk unicode_tree s (i + 1 + 1)
  unfolding unicode_at
  unicode_walk i =
      rw (plus_2 i, plus_3 i) (pair_walk no_low rest_tree _ (i + 1 + 1)
      (λ v. by_test (from_to 0xDC 0xDF v) (λ t. rw t) (λ t. rw (t, ← (plus_4 i)) (rest_walk i v))))

  escape_walk : (i : ℕ) → escape_at s i ≡ walk escape_tree s (i + 1)
  unfolding escape_at
  escape_walk i =
      let b = byte_at s (i + 1) in
      by_test (eqb b 0x75) (λ t. rw t (unicode_walk i))
      (λ t. by_some (λ r. cond (eqb b 0x75) (unicode_at s i) r ≡ walk escape_tree s (i + 1)) (escape_of b) (λ v u. rw (t, u, plus_2 i)) (λ u. rw (t, u)))

  tail_walk : (lo hi : ℕ) (f : ℕ → Tree) (k : ℕ → Reading Step) (i : ℕ) → ((c : ℕ) → k c ≡ walk (f c) s (i + 1))
      → need_some (six_bits (byte_at s i) lo hi) (stop_at s i NotUtf8) k ≡ walk (tail_tree lo hi f) s i
  tail_walk lo hi f k i h =
      by_some (λ r. r ≡ walk (tail_tree lo hi f) s i) (six_bits (byte_at s i) lo hi) (λ c t. rw t (h c)) (λ t. rw t)

  two_walk : (i b : ℕ) → two_at s i b ≡ walk (two_tree b) s (i + 1)
  unfolding two_at
  two_walk i b = rw (plus_2 i) (tail_walk 0x80 0xBF (two b) _ (i + 1) (λ c. refl))

  three_walk : (i b : ℕ) → three_at s i b ≡ walk (three_tree b) s (i + 1)
  unfolding three_at
  three_walk i b =
      rw (plus_2 i, plus_3 i) (tail_walk (lowest b) (highest b) (λ c. tail_tree 0x80 0xBF (three b c)) _ (i + 1)
      (λ c. tail_walk 0x80 0xBF (three b c) _ (i + 1 + 1) (λ d. refl)))

  four_walk : (i b : ℕ) → four_at s i b ≡ walk (four_tree b) s (i + 1)
  unfolding four_at
  four_walk i b =
      rw (plus_2 i, plus_3 i, plus_4 i) (tail_walk (lowest b) (highest b) (λ c. tail_tree 0x80 0xBF (λ d. tail_tree 0x80 0xBF (four b c d))) _ (i + 1)
      (λ c. tail_walk 0x80 0xBF (λ d. tail_tree 0x80 0xBF (four b c d)) _ (i + 1 + 1)
      (λ d. tail_walk 0x80 0xBF (four b c d) _ (i + 1 + 1 + 1) (λ e. refl))))

  pub char_quote : (i : ℕ) → byte_at s i ≡ 0x22 → char_at s i ≡ Ok Quote
  unfolding char_at char_from
  char_quote i e = rw (eq-eqb _ _ e)

  pub char_walk : (i : ℕ) → (byte_at s i ≡ 0x22 → ⊥) → char_at s i ≡ walk char_tree s i
  unfolding char_at char_from
  char_walk i n =
      let b = byte_at s i in
      let q = ne_eqb b 0x22 n in
      by_test (eqb b 0x5C) (λ t. rw (q, t) (escape_walk i))
      (λ t₁. by_test (ltb b 0x20) (λ t. rw (q, t₁, t))
      (λ t₂. by_test (ltb b 0x80) (λ t. rw (q, t₁, t₂, t))
      (λ t₃. by_test (ltb b 0xC2) (λ t. rw (q, t₁, t₂, t₃, t))
      (λ t₄. by_test (ltb b 0xE0) (λ t. rw (q, t₁, t₂, t₃, t₄, t, lt-ltb b 0xF5 (omega (arith, ltb-true b 0xE0 t))) (two_walk i b))
      (λ t₅. by_test (ltb b 0xF0) (λ t. rw (q, t₁, t₂, t₃, t₄, t₅, t, lt-ltb b 0xF5 (omega (arith, ltb-true b 0xF0 t))) (three_walk i b))
      (λ t₆. by_test (ltb b 0xF5) (λ t. rw (q, t₁, t₂, t₃, t₄, t₅, t₆, t) (four_walk i b)) (λ t. rw (q, t₁, t₂, t₃, t₄, t₅, t₆, t))))))))

-- ---- every test takes some byte, and none a 0

code_least : (b : ℕ) → 3 ≤ number (code_of b)
unfolding code_of
code_least b = both (λ c. 3 ≤ number c) (from_to 0x80 0xC1 b || leb 0xF5 b) (λ _. omega arith) (λ _. omega arith)

-- `0` is a digit, and where it is the second one the value has to be good
pair_good : (good : ℕ → Bool) (f : ℕ → Tree) → ((a : ℕ) → good (16 * a + 0) ≡ true) → ((v : ℕ) → Good (f v)) → Good (pair_tree good f)
unfolding digit
pair_good good f some each =
    let codes : (b : ℕ) → 3 ≤ number (cond (hex b) LoneSurrogate (code_of b)) = λ b. both (λ c. 3 ≤ number c) (hex b) (λ _. omega arith) (λ _. code_least b) in
    (refl, 0x30, refl, λ a _. (refl, 0x30, some (hex_value a), λ b _. each _, codes), code_least)

-- it takes `\uDC` and two digits more
partner_good : (high : ℕ) → Good (partner_tree high)
unfolding digit
partner_good high =
    let codes : ℕ → 3 ≤ number LoneSurrogate = λ _. omega arith in
    let last : (d : ℕ) → Good (pair_tree any (joined_tree high (hex_value d))) = λ d. pair_good any (joined_tree high (hex_value d)) (λ a. refl) (λ v. tt) in
    (refl, 0x5C, refl, λ _ _. (refl, 0x75, refl, λ _ _. (refl, 0x44, refl, λ _ _. (refl, 0x43, refl, λ d _. last d, codes), codes), codes), codes)

rest_good : (h : ℕ) → Good (rest_tree h)
rest_good h = pair_good any (digits_tree h) (λ a. refl) (λ l. both Good (from_to 0xD8 0xDB h) (λ _. partner_good (256 * h + l)) (λ _. tt))

zero_no_low : (x : ℕ) → no_low (16 * x + 0) ≡ true
zero_no_low x = rw (not_in 0xDC 0xDF (16 * x + 0) (omega arith))

escape_good : Good escape_tree
unfolding escape_of
escape_good =
    let digits = pair_good no_low rest_tree zero_no_low rest_good in
    (refl, 0x6E, refl, λ b _. both Good (eqb b 0x75) (λ _. digits) (λ _. tt), code_least)

-- the least second byte that a first one can have
second_lowest : (b : ℕ) → tail (lowest b) (highest b) (lowest b) ≡ true
unfolding six_bits lowest highest
second_lowest b =
    by_test (eqb b 0xE0) (λ t. rw (eqb-true b 0xE0 t))
    (λ t. by_test (eqb b 0xF0) (λ u. rw (eqb-true b 0xF0 u))
    (λ u. by_test (eqb b 0xED) (λ w. rw (t, u, w)) (λ w. by_test (eqb b 0xF4) (λ z. rw (t, u, w, z)) (λ z. rw (t, u, w, z)))))

second_zero : (b : ℕ) → tail (lowest b) (highest b) 0 ≡ false
unfolding six_bits
second_zero b = rw (lt-leb (lowest b) 0 (omega (arith, lowest_least b)))

after_good : (b : ℕ) → Good (after b)
unfolding six_bits
after_good b =
    let codes : ℕ → 3 ≤ number NotUtf8 = λ _. omega arith in
    both Good (eqb b 0x5C) (λ _. escape_good)
    (λ _. both Good (ltb b 0x80) (λ _. tt)
    (λ _. both Good (ltb b 0xE0) (λ _. (refl, 0x80, refl, λ _ _. tt, codes))
    (λ _. both Good (ltb b 0xF0) (λ _. (second_zero b, lowest b, second_lowest b, λ _ _. (refl, 0x80, refl, λ _ _. tt, codes), codes))
    (λ _. (second_zero b, lowest b, second_lowest b, λ _ _. (refl, 0x80, refl, λ _ _. (refl, 0x80, refl, λ _ _. tt, codes), codes), codes)))))

pub char_good : Good char_tree
char_good = (refl, 0x61, refl, λ b _. after_good b, λ b. both (λ c. 3 ≤ number c) (ltb b 0x20) (λ _. omega arith) (λ _. omega arith))
