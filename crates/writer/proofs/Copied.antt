-- A character that no escape spells stands in a text as it is written, so its bytes are copied; and none is written longer than it stood.
use Prim.Native.Nat.{ℕ, ◌≤◌}
use mathlib.Core.Path.{◌≡◌, sym, ap, ◌∙◌, subst}
use mathlib.Core.Logic.{◌⊎◌, inl, inr}
use mathlib.Core.Bool.{true, false}
use mathlib.Core.List.{List}
use native.Mathlib.Omega.{arith}
use lib.ListN.{length}
use lib.Dec.{ltb, eqb}
use borrow.Author.Tests.{eqb-true, eqb-false, le-ltb, ne_eqb}
use Rattle.model.specs.Text.{all}
use Rattle.model.proofs.Basics.{never, both, by_test}
use Rattle.chars.specs.Bytes.{byte_at}
use Rattle.chars.specs.Characters.{char_at}
use Rattle.chars.specs.Strings.{part}
use Rattle.chars.specs.declared.characters.Step.TheVariants.{Char}
use Rattle.chars.proofs.Facts.{char_next}
use Rattle.grammar.specs.Utf8.{IsUtf8, utf8_1, utf8_2, utf8_3, utf8_4, utf8}
use Rattle.grammar.specs.Written.{IsUnescaped, IsHexDigit, decimal, upper, lower, hex, IsChar, unescaped, short, unicode, surrogates, IsShort}
use Rattle.grammar.specs.Written.{quotation_mark, reverse_solidus, solidus, backspace, form_feed, line_feed, carriage_return, tab}
use Rattle.grammar.proofs.Facts.{three_bits, four_bits, utf8_only, At, Spelled, Lang, Stepped, walk_sound, char_tree, char_quote, char_walk}
use Rattle.grammar.proofs.Facts.{char_good, lang_char}
use Rattle.writer.specs.Spell.{is_escaped, letter_of, form, spell_char}
use Rattle.writer.specs.Runs.{is_ordinary}
use Rattle.std.specs.Prelude.{Ok, Option, Some, None}

-- ---- characters that are not escaped

apart : {v : ℕ} → IsUnescaped v → (0x20 ≤ v) × (v ≡ 0x22 → ⊥) × (v ≡ 0x5C → ⊥) × (v ≤ 0x10FFFF)
apart (inl h) = omega arith
apart (inr (inl h)) = omega arith
apart (inr (inr h)) = omega arith

is_spelled : {w : List ℕ} {v : ℕ} → IsUtf8 w v → IsUnescaped v → spell_char v ≡ w
unfolding spell_char
is_spelled {v = v} u r = let a = apart r in rw (le-ltb v 0x20 a.0, ne_eqb v 0x22 a.1, ne_eqb v 0x5C a.2) (sym (utf8_only u))

pub ordinary : (b : ℕ) → (b ≡ 0x22 → ⊥) → (b ≡ 0x5C → ⊥) → is_ordinary b ≡ true
unfolding is_ordinary
ordinary b n m = rw (ne_eqb b 0x22 n, ne_eqb b 0x5C m)

pub not_ordinary : {b : ℕ} → (b ≡ 0x22) ⊎ (b ≡ 0x5C) → is_ordinary b ≡ false
unfolding is_ordinary
not_ordinary (inl e) = rw e
not_ordinary (inr e) = rw e

-- a byte of several
high : (b : ℕ) → 0x80 ≤ b → is_ordinary b ≡ true
high b l = ordinary b (omega arith) (omega arith)

utf8_ordinary : {w : List ℕ} {v : ℕ} → IsUtf8 w v → IsUnescaped v → all is_ordinary w ≡ true
utf8_ordinary (utf8_1 {b} h) r = let a = apart r in rw (ordinary b a.1 a.2)
utf8_ordinary (utf8_2 {b} {c} h t) r = rw (high b (omega arith), high c (omega arith))
utf8_ordinary (utf8_3 {b} {c} {d} s t) r = let h = three_bits s in rw (high b (omega arith), high c (omega arith), high d (omega arith))
utf8_ordinary (utf8_4 {b} {c} {d} {e} s t u) r =
    let h = four_bits s in rw (high b (omega arith), high c (omega arith), high d (omega arith), high e (omega arith))

-- ---- lengths

utf8_most : (v : ℕ) → length (utf8 v) ≤ 4
unfolding utf8
utf8_most v =
    let P : List ℕ → Type 0 = λ w. length w ≤ 4 in
    both P (ltb v 0x80) (λ _. omega arith) (λ _. both P (ltb v 0x800) (λ _. omega arith) (λ _. both P (ltb v 0x10000) (λ _. omega arith) (λ _. omega arith)))

form_most : (v : ℕ) (o : Option ℕ) → length (form v o) ≤ 6
form_most v (Some l) = omega arith
form_most v None = omega arith

spell_most : (v : ℕ) → length (spell_char v) ≤ 6
unfolding spell_char
spell_most v =
    let P : List ℕ → Type 0 = λ w. length w ≤ 6 in both P (is_escaped v) (λ _. form_most v (letter_of v)) (λ _. omega (arith, utf8_most v))

-- an escape of two bytes is not written longer
short_most : {b v : ℕ} → IsShort b v → (length (spell_char v) ≤ 2) × (v ≤ 0x5C)
unfolding spell_char letter_of utf8
short_most quotation_mark = omega arith
short_most reverse_solidus = omega arith
short_most solidus = omega arith
short_most backspace = omega arith
short_most form_feed = omega arith
short_most line_feed = omega arith
short_most carriage_return = omega arith
short_most tab = omega arith

pub char_short : {w : List ℕ} {c : ℕ} → IsChar w c → length (spell_char c) ≤ length w
char_short (unescaped u r) = omega (arith, ap length (is_spelled u r))
char_short (short t) = (short_most t).0
char_short {c = c} (unicode (hex k l m n) t) = spell_most c
char_short {c = c} (surrogates (hex k l m n) i x j) = omega (arith, spell_most c)

-- ---- a character

pub char_copied : {w : List ℕ} {c : ℕ} → IsChar w c → (s : List ℕ) (i : ℕ) → At s i w → (byte_at s i ≡ 0x5C → ⊥)
    → (spell_char c ≡ w) × (all is_ordinary w ≡ true)
char_copied (unescaped u r) s i a n = (is_spelled u r, utf8_ordinary u r)
char_copied (short t) s i a n = absurd (n a.0)
char_copied (unicode x t) s i a n = absurd (n a.0)
char_copied (surrogates x h y l) s i a n = absurd (n a.0)

hex_most : {b x : ℕ} → IsHexDigit b x → x ≤ 15
hex_most (decimal x l) = omega arith
hex_most (upper x l) = omega arith
hex_most (lower x l) = omega arith

pub char_most : {w : List ℕ} {c : ℕ} → IsChar w c → c ≤ 0x10FFFF
char_most (unescaped u r) = (apart r).3
char_most (short t) = omega (arith, (short_most t).1)
char_most (unicode (hex k l m n) t) = omega (arith, hex_most k, hex_most l, hex_most m, hex_most n)
char_most (surrogates x h y l) = omega arith

-- ---- by its place

module _ (s : List ℕ) (i v j : ℕ) where
  pub char_is : char_at s i ≡ Ok (Char v j) → IsChar (part s i j) v
  char_is q =
      by_test (eqb (byte_at s i) 0x22) (λ t. never (cc (char_quote s i (eqb-true _ _ t))))
      (λ t. let n = char_next s i v j q in
      let z = sym (char_walk s i (eqb-false _ _ t)) ∙ q in
      let h : Spelled (Lang char_tree) s i j v = subst (Stepped char_tree s i) z (walk_sound char_tree char_good s i (omega arith)) in
      lang_char (part s i j) v h.spells)

  pub value_most : char_at s i ≡ Ok (Char v j) → v ≤ 0x10FFFF
  value_most q = char_most (char_is q)
