-- A written text is made of bytes.
use Prim.Native.Nat.{ℕ, zero, suc, ◌<◌}
use mathlib.Core.Path.{◌≡◌, refl}
use mathlib.Core.Logic.{inl, inr, ⊎_elim}
use mathlib.Core.Bool.{Bool, true, false, ◌||◌}
use mathlib.Core.List.{List, [], ◌∷◌, ◌++◌}
use native.Mathlib.Omega.{arith}
use lib.Dec.{eqb, leb, ltb}
use borrow.Author.Tests.{eqb-true, leb-true, ltb-true, lt-ltb}
use Rattle.model.specs.Text.{text, all}
use Rattle.model.specs.Value.{Value, null, boolean, number, string, array, object, vnil, Members, mnil, is_digit, IsNumber}
use Rattle.model.proofs.Basics.{and_ways, or-true}
use Rattle.grammar.specs.Utf8.{IsUtf8, utf8_1, utf8_2, utf8_3, utf8_4}
use Rattle.grammar.specs.Written.{Language, IsSpace, IsHexDigit, decimal, upper, lower, IsHex, hex, IsChar, unescaped, short, unicode}
use Rattle.grammar.specs.Written.{surrogates, IsShort, quotation_mark, reverse_solidus, solidus, backspace, form_feed, line_feed}
use Rattle.grammar.specs.Written.{carriage_return, tab, IsChars, no_char, char, IsString, IsLeaf}
use Rattle.grammar.proofs.Trimmed.{TrimmedSeries, first_item, next_item, TrimmedBracketed, no_items, some_items, TrimmedElement}
use Rattle.grammar.proofs.Trimmed.{TrimmedMember, TrimmedValue, TrimmedText}
use Rattle.grammar.proofs.NumberBytes.{number_all}
use Rattle.grammar.proofs.Utf8.{three_bits, four_bits}

abbrev pub AreBytes : List ℕ → Type 0
AreBytes w = all (λ b. ltb b 256) w ≡ true

-- the same, byte by byte
data Bytes : List ℕ → Type 0 where
  nil : Bytes []
  cons : (b : ℕ) {w : List ℕ} → b < 256 → Bytes w → Bytes (b ∷ w)

are_bytes : {w : List ℕ} → Bytes w → AreBytes w
are_bytes nil = refl
are_bytes (cons b l h) = rw (lt-ltb b 256 l) (are_bytes h)

append : {v w : List ℕ} → Bytes v → Bytes w → Bytes (v ++ w)
append nil k = k
append (cons b l h) k = cons b l (append h k)

-- by a test that only bytes pass
tested : (p : ℕ → Bool) → ((b : ℕ) → p b ≡ true → b < 256) → (w : List ℕ) → all p w ≡ true → Bytes w
tested p f [] h = nil
tested p f (c ∷ w) h = and_ways (p c) (all p w) h (λ t u. cons c (f c t) (tested p f w u))

-- a text that is written in a definition
written : (w : List ℕ) → AreBytes w → Bytes w
written w h = tested (λ b. ltb b 256) (λ b t. ltb-true b 256 t) w h

-- one byte more that may stand there
or_byte : (b k : ℕ) (t : Bool) → k < 256 → (t ≡ true → b < 256) → t || eqb b k ≡ true → b < 256
or_byte b k t l f h = ⊎_elim f (λ u. omega (arith, eqb-true b k u)) (or-true t (eqb b k) h)

either : (b j k : ℕ) → j < 256 → k < 256 → eqb b j || eqb b k ≡ true → b < 256
either b j k l m h = or_byte b k (eqb b j) m (λ u. omega (arith, eqb-true b j u)) h

space_bytes : (w : List ℕ) → IsSpace w → Bytes w
space_bytes w h =
    tested (λ b. eqb b 0x20 || eqb b 0x09 || eqb b 0x0A || eqb b 0x0D)
    (λ b t. or_byte b 0x0D _ (omega arith) (or_byte b 0x0A _ (omega arith) (either b 0x20 0x09 (omega arith) (omega arith))) t) w h

-- ---- strings

utf8_bytes : {w : List ℕ} {v : ℕ} → IsUtf8 w v → Bytes w
utf8_bytes (utf8_1 {b} h) = cons b (omega arith) nil
utf8_bytes (utf8_2 {b} {c} h t) = cons b (omega arith) (cons c (omega arith) nil)
utf8_bytes (utf8_3 {b} {c} {d} s t) = let r = three_bits s in cons b (omega arith) (cons c (omega arith) (cons d (omega arith) nil))
utf8_bytes (utf8_4 {b} {c} {d} {e} s t u) = let r = four_bits s in cons b (omega arith) (cons c (omega arith) (cons d (omega arith) (cons e (omega arith) nil)))

hex_byte : {b x : ℕ} → IsHexDigit b x → b < 256
hex_byte (decimal x l) = omega arith
hex_byte (upper x l) = omega arith
hex_byte (lower x l) = omega arith

-- an escape of four hex digits
hex_bytes : {w : List ℕ} {v : ℕ} → IsHex w v → Bytes (0x5C ∷ 0x75 ∷ w)
hex_bytes (hex p q r s) =
    cons 0x5C (omega arith) (cons 0x75 (omega arith) (cons _ (hex_byte p) (cons _ (hex_byte q) (cons _ (hex_byte r) (cons _ (hex_byte s) nil)))))

short_byte : {b v : ℕ} → IsShort b v → b < 256
short_byte quotation_mark = omega arith
short_byte reverse_solidus = omega arith
short_byte solidus = omega arith
short_byte backspace = omega arith
short_byte form_feed = omega arith
short_byte line_feed = omega arith
short_byte carriage_return = omega arith
short_byte tab = omega arith

char_bytes : {w : List ℕ} {v : ℕ} → IsChar w v → Bytes w
char_bytes (unescaped u r) = utf8_bytes u
char_bytes (short t) = cons 0x5C (omega arith) (cons _ (short_byte t) nil)
char_bytes (unicode x t) = hex_bytes x
char_bytes (surrogates p i q j) = append (hex_bytes p) (hex_bytes q)

chars_bytes : {w vs : List ℕ} → IsChars w vs → Bytes w
chars_bytes no_char = nil
chars_bytes (char c h) = append (char_bytes c) (chars_bytes h)

string_bytes_lem : {w vs : List ℕ} → IsString w vs → Bytes w
string_bytes_lem h = rw h.spelled (cons 0x22 (omega arith) (append (chars_bytes h.chars) (cons 0x22 (omega arith) nil)))

-- ---- numbers

digit_is : (c : ℕ) → is_digit c ≡ true → ltb c 256 ≡ true
digit_is c t = and_ways (leb 0x30 c) (leb c 0x39) t (λ _ m. lt-ltb c 256 (omega (arith, leb-true c 0x39 m)))

number_bytes : {w : List ℕ} → IsNumber w → Bytes w
number_bytes {w} h = written w (number_all (λ b. ltb b 256) digit_is refl refl refl refl refl h)

-- ---- values

leaf_bytes : (w : List ℕ) (v : Value) → IsLeaf w v → Bytes w
leaf_bytes w null h = rw h (written (text "null") refl)
leaf_bytes w (boolean false) h = rw h (written (text "false") refl)
leaf_bytes w (boolean true) h = rw h (written (text "true") refl)
leaf_bytes w (number n) h = number_bytes h.1
leaf_bytes w (string vs) h = string_bytes_lem h
leaf_bytes w (array vs) h = absurd h
leaf_bytes w (object ms) h = absurd h

-- a byte with space around it, and what follows
marked : (a b : List ℕ) {x : List ℕ} (k : ℕ) → k < 256 → IsSpace a → IsSpace b → Bytes x → Bytes (a ++ (k ∷ b ++ x))
marked a b k l sa sb h = append (space_bytes a sa) (cons k l (append (space_bytes b sb) h))

module _ {L : Type 0} (Item : L → Language L) (empty : L) (each : (before all : L) (w : List ℕ) → Item before w all → Bytes w) where
  series_bytes : {w : List ℕ} {all : L} → TrimmedSeries Item empty w all → Bytes w
  series_bytes (first_item {w} {all} h) = each empty all w h
  series_bytes (next_item a b {x} {before} {all} S sa sb h) = append (series_bytes S) (marked a b 0x2C (omega arith) sa sb (each before all x h))

  bracket_bytes : {o c : ℕ} {w : List ℕ} {all : L} → o < 256 → c < 256 → TrimmedBracketed o c Item empty w all → Bytes w
  bracket_bytes l m (no_items a sa) = cons _ l (append (space_bytes a sa) (cons _ m nil))
  bracket_bytes l m (some_items a b sa S sb) = cons _ l (append (space_bytes a sa) (append (series_bytes S) (append (space_bytes b sb) (cons _ m nil))))

member_bytes : (IsItem : Language Value) → ((w : List ℕ) (v : Value) → IsItem w v → Bytes w) → (before all : Members) (w : List ℕ)
    → TrimmedMember IsItem before w all → Bytes w
member_bytes IsItem each before all w h =
    rw h.spelled (append (string_bytes_lem h.is-name) (marked h.a h.b 0x3A (omega arith) h.space_a h.space_b
    (each h.x h.value h.is_value)))

value_bytes : (d : ℕ) (w : List ℕ) (v : Value) → TrimmedValue d w v → Bytes w
unfolding TrimmedValue
value_bytes zero w v h = leaf_bytes w v h
value_bytes (suc d) w v (inl h) = leaf_bytes w v h
value_bytes (suc d) w v (inr (inl h)) =
    bracket_bytes (TrimmedElement (TrimmedValue d)) vnil (λ before all w h. value_bytes d w h.value h.is_value) (omega arith) (omega arith) h.2
value_bytes (suc d) w v (inr (inr h)) =
    bracket_bytes (TrimmedMember (TrimmedValue d)) mnil (member_bytes (TrimmedValue d) (value_bytes d)) (omega arith) (omega arith) h.2

pub text_bytes : (d : ℕ) (s : List ℕ) (v : Value) → TrimmedText d s v → AreBytes s
text_bytes d s v h =
    rw h.spelled
    (are_bytes (append (space_bytes h.a h.space_a) (append (value_bytes d h.x v h.inside) (space_bytes h.b h.space_b))))
