-- The spelling of a string is one of the written grammar, and spells that string.
use Prim.Native.Nat.{ℕ, ◌+◌, ◌-◌, ◌*◌, ◌/◌, ◌%◌, ◌≤◌, ◌<◌}
use mathlib.Core.Path.{◌≡◌, refl, subst}
use mathlib.Core.Logic.{inl, inr, ⊎_elim}
use mathlib.Core.Bool.{true, false, ◌||◌}
use mathlib.Core.List.{List, [], ◌∷◌}
use native.Mathlib.Omega.{arith}
use lib.Dec.{ltb, eqb}
use borrow.Author.Tests.{ltb-true, ltb-false, eqb-true, eqb-false}
use Rattle.std.specs.Prelude.{Option, Some, None}
use Rattle.std.proofs.lemmas.Bool.Decides.{nat_tests}
use Rattle.model.specs.Text.{is_scalar, is_text}
use Rattle.model.proofs.Basics.{both, by_test, and_ways, or-false}
use Rattle.grammar.specs.Written.{IsUnescaped, IsShort, quotation_mark, reverse_solidus, backspace, form_feed, line_feed, carriage_return, tab}
use Rattle.grammar.specs.Written.{IsHexDigit, decimal, lower, hex, IsChar, unescaped, short, unicode, IsChars, no_char, char, IsString}
use Rattle.grammar.proofs.Facts.{scalar_range, utf8_spelled}
use Rattle.writer.specs.Spell.{is_escaped, letter_of, hex_digit, long_form, form, escape, spell_char, spell_chars, spell_string}

-- ---- escapes

module _ (c : ℕ) where
  -- a byte behind a backslash, where there is one, stands for c
  abbrev Letter : Option ℕ → Type 0
  Letter (Some b) = IsShort b c
  Letter None = Unit

  is : {b k : ℕ} → IsShort b k → eqb c k ≡ true → IsShort b c
  is {k = k} h t = rw (eqb-true c k t) h

  letter_names : Letter (letter_of c)
  unfolding letter_of
  letter_names =
      both Letter (eqb c 0x22) (is quotation_mark)
      (λ _. both Letter (eqb c 0x5C) (is reverse_solidus)
      (λ _. both Letter (eqb c 0x08) (is backspace)
      (λ _. both Letter (eqb c 0x0C) (is form_feed)
      (λ _. both Letter (eqb c 0x0A) (is line_feed)
      (λ _. both Letter (eqb c 0x0D) (is carriage_return)
      (λ _. both Letter (eqb c 0x09) (is tab) (λ _. tt)))))))

-- one that is escaped without a letter is small
letterless : (c : ℕ) → is_escaped c ≡ true → letter_of c ≡ None → c < 0x20
unfolding letter_of
letterless c t e = grind (arith, nat_tests)

digit_spelled : (n : ℕ) → n < 16 → IsHexDigit (hex_digit n) n
unfolding hex_digit
digit_spelled n h =
    both (λ b. IsHexDigit b n) (ltb n 10) (λ t. decimal n (omega (arith, ltb-true n 10 t)))
    (λ t. letter (n - 10) (omega (arith, ltb-false n 10 t)) (omega arith))
  where
    letter : (x : ℕ) → 10 + x ≡ n → x ≤ 5 → IsHexDigit (0x57 + n) n
    letter x e l = let b : 0x61 + x ≡ 0x57 + n = omega arith in rw (← b, ← e) (lower x l)

long_spelled : (c : ℕ) → c < 0x20 → IsChar (long_form c) c
long_spelled c l =
    let v : 4096 * 0 + 256 * 0 + 16 * (c / 16) + c % 16 ≡ c = omega arith in
    let zero = decimal 0 (omega arith) in
    subst (IsChar (long_form c)) v (unicode (hex zero zero (digit_spelled (c / 16) (omega arith)) (digit_spelled (c % 16) (omega arith))) (λ h. omega arith))

escape_spelled : (c : ℕ) → is_escaped c ≡ true → IsChar (escape c) c
escape_spelled c t = go (letter_of c) refl (letter_names c)
  where
    go : (o : Option ℕ) → letter_of c ≡ o → Letter c o → IsChar (form c o) c
    go (Some b) e h = short h
    go None e h = long_spelled c (letterless c t e)

-- ---- characters

-- one that is not escaped
plain : (c : ℕ) → is_scalar c ≡ true → is_escaped c ≡ false → IsUnescaped c
plain c h t =
    let r = or-false (ltb c 0x20 || eqb c 0x22) (eqb c 0x5C) t in
    let l = or-false (ltb c 0x20) (eqb c 0x22) r.0 in
    let low = ltb-false c 0x20 l.0 in
    let quote = eqb-false c 0x22 l.1 in
    let back = eqb-false c 0x5C r.1 in
    let high : c ≤ 0x10FFFF = ⊎_elim (λ x. omega arith) (λ x. x.1) (scalar_range c h) in
    by_test (ltb c 0x22) (λ t. inl (low, omega (arith, ltb-true c 0x22 t)))
    (λ t. by_test (ltb c 0x5C) (λ u. inr (inl (omega (arith, ltb-false c 0x22 t, quote), omega (arith, ltb-true c 0x5C u))))
    (λ u. inr (inr (omega (arith, ltb-false c 0x5C u, back), high))))

pub char_spelled : (c : ℕ) → is_scalar c ≡ true → IsChar (spell_char c) c
unfolding spell_char
char_spelled c h = both (λ w. IsChar w c) (is_escaped c) (λ t. escape_spelled c t) (λ t. unescaped (utf8_spelled c h) (plain c h t))

pub chars_spelled : (us : List ℕ) → is_text us ≡ true → IsChars (spell_chars us) us
chars_spelled [] h = no_char
chars_spelled (c ∷ us) h = and_ways (is_scalar c) (is_text us) h (λ t u. char (char_spelled c t) (chars_spelled us u))

-- ---- with quotes

pub string_spelled : (us : List ℕ) → is_text us ≡ true → IsString (spell_string us) us
string_spelled us h = record { body = spell_chars us; spelled = refl; chars = chars_spelled us h }
