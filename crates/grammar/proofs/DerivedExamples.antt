-- Texts and characters derived from the productions alone, and some that no production takes.
use Prim.Native.Nat.{ℕ, ◌≤◌}
use native.Mathlib.Omega.{arith}
use mathlib.Core.Path.{◌≡◌, refl}
use mathlib.Core.Logic.{inl, inr}
use mathlib.Core.Bool.{true, true≢false}
use mathlib.Core.List.{[], ◌∷◌}
use Rattle.model.specs.Text.{text}
use Rattle.model.specs.Value.{Value, null, boolean, array, object, vnil, vcons, mnil, mcons}
use Rattle.grammar.specs.Utf8.{StartsThree, e0, e1_ec, ed, ee_ef, StartsFour, f0, f1_f3, f4, IsUtf8, utf8_1, utf8_2, utf8_3, utf8_4, utf8}
use Rattle.grammar.specs.Written.{structural, reverse_solidus, decimal, upper, lower, hex, IsChar, unescaped, short, unicode, surrogates}
use Rattle.grammar.specs.Written.{no_char, one, more, empty, series, is-array, is_member, Differ, is-object, IsValue, IsJsonText}
use Rattle.grammar.specs.Written.{is-text}

-- ---- UTF-8 (RFC 3629)

-- the least and the greatest character of each length and on both sides of the surrogates; the dollar and the euro sign
pub bytes : (utf8 0x24 ≡ 0x24 ∷ [])
    × (utf8 0x7F ≡ 0x7F ∷ [])
    × (utf8 0x80 ≡ 0xC2 ∷ 0x80 ∷ [])
    × (utf8 0x7FF ≡ 0xDF ∷ 0xBF ∷ [])
    × (utf8 0x800 ≡ 0xE0 ∷ 0xA0 ∷ 0x80 ∷ [])
    × (utf8 0x20AC ≡ 0xE2 ∷ 0x82 ∷ 0xAC ∷ [])
    × (utf8 0xD7FF ≡ 0xED ∷ 0x9F ∷ 0xBF ∷ [])
    × (utf8 0xE000 ≡ 0xEE ∷ 0x80 ∷ 0x80 ∷ [])
    × (utf8 0xFFFF ≡ 0xEF ∷ 0xBF ∷ 0xBF ∷ [])
    × (utf8 0x10000 ≡ 0xF0 ∷ 0x90 ∷ 0x80 ∷ 0x80 ∷ [])
    × (utf8 0x10FFFF ≡ 0xF4 ∷ 0x8F ∷ 0xBF ∷ 0xBF ∷ [])
unfolding utf8
bytes = (refl, refl, refl, refl, refl, refl, refl, refl, refl, refl, refl)

-- C0 80 and E0 80 80 are overlong, ED A0 80 is a surrogate, F4 90 80 80 lies above 10FFFF
pub overlong_two : {v : ℕ} → IsUtf8 (0xC0 ∷ 0x80 ∷ []) v → ⊥
overlong_two (utf8_2 b c) = omega arith

-- the first two bytes of three and of four
first_two_of_three : {b c d v : ℕ} → IsUtf8 (b ∷ c ∷ d ∷ []) v → StartsThree b c
first_two_of_three (utf8_3 s t) = s

first_two_of_four : {b c d e v : ℕ} → IsUtf8 (b ∷ c ∷ d ∷ e ∷ []) v → StartsFour b c
first_two_of_four (utf8_4 s t u) = s

second_of_e0 : {b c : ℕ} → StartsThree b c → b ≡ 0xE0 → 0xA0 ≤ c
second_of_e0 (e0 h) q = omega arith
second_of_e0 (e1_ec h t) q = omega arith
second_of_e0 (ed h) q = omega arith
second_of_e0 (ee_ef h t) q = omega arith

second_of_ed : {b c : ℕ} → StartsThree b c → b ≡ 0xED → c ≤ 0x9F
second_of_ed (e0 h) q = omega arith
second_of_ed (e1_ec h t) q = omega arith
second_of_ed (ed h) q = omega arith
second_of_ed (ee_ef h t) q = omega arith

second_of_f4 : {b c : ℕ} → StartsFour b c → b ≡ 0xF4 → c ≤ 0x8F
second_of_f4 (f0 h) q = omega arith
second_of_f4 (f1_f3 h t) q = omega arith
second_of_f4 (f4 h) q = omega arith

pub overlong_three : {v : ℕ} → IsUtf8 (0xE0 ∷ 0x80 ∷ 0x80 ∷ []) v → ⊥
overlong_three u = let l = second_of_e0 (first_two_of_three u) refl in omega arith

pub surrogate : {v : ℕ} → IsUtf8 (0xED ∷ 0xA0 ∷ 0x80 ∷ []) v → ⊥
surrogate u = let l = second_of_ed (first_two_of_three u) refl in omega arith

pub above : {v : ℕ} → IsUtf8 (0xF4 ∷ 0x90 ∷ 0x80 ∷ 0x80 ∷ []) v → ⊥
above u = let l = second_of_f4 (first_two_of_four u) refl in omega arith

-- ---- characters

pub letter : IsChar (text "a") 0x61
letter = unescaped (utf8_1 {b = 0x61} (omega arith, omega arith)) (inr (inr (omega arith, omega arith)))

pub euro : IsChar (0xE2 ∷ 0x82 ∷ 0xAC ∷ []) 0x20AC
euro =
    unescaped (utf8_3 {d = 0xAC} (e1_ec {b = 0xE2} {c = 0x82} (omega arith, omega arith) (omega arith, omega arith)) (omega arith, omega arith))
    (inr (inr (omega arith, omega arith)))

pub backslash : IsChar (text "\\\\") 0x5C
backslash = short reverse_solidus

pub escaped : IsChar (text "\\u00e9") 0xE9
escaped = unicode (hex (decimal 0 (omega arith)) (decimal 0 (omega arith)) (lower 4 (omega arith)) (decimal 9 (omega arith))) (λ i. omega arith)

pub clef : IsChar (text "\\uD834\\uDD1E") 0x1D11E
clef =
    surrogates (hex (upper 3 (omega arith)) (decimal 8 (omega arith)) (decimal 3 (omega arith)) (decimal 4 (omega arith))) (omega arith, omega arith)
    (hex (upper 3 (omega arith)) (upper 3 (omega arith)) (decimal 1 (omega arith)) (upper 4 (omega arith))) (omega arith, omega arith)

-- ---- texts

-- ` [ ] `, with one bracket open; the space at the ends is the array's or the text's
pub empty_array : IsJsonText 1 (text " [ ] ") (array vnil)
unfolding IsValue
empty_array =
    is-text (text " ") (text "[ ]") (text " ") refl (inr (inl (is-array (empty (structural [] (text " ") refl refl) (structural [] [] refl refl))))) refl

pub spaced_array : IsJsonText 1 (text " [ ] ") (array vnil)
unfolding IsValue
spaced_array =
    is-text [] (text " [ ] ") [] refl (inr (inl (is-array (empty (structural (text " ") (text " ") refl refl) (structural [] (text " ") refl refl))))) refl

-- `[null , true]`: a comma stands between elements
pub two_elements : IsJsonText 1 (text "[null , true]") (array (vcons null (vcons (boolean true) vnil)))
unfolding IsValue
two_elements =
    is-text [] (text "[null , true]") [] refl
    (inr (inl (is-array (series (structural [] [] refl refl)
    (more {w = text "null"} {a = null} refl (structural (text " ") (text " ") refl refl)
    (one {w = text "true"} {a = boolean true} refl)) (structural [] [] refl refl))))) refl

-- `{"":null}`
pub one_member : IsJsonText 1 (text "{\"\":null}") (object (mcons [] null mnil))
unfolding IsValue
one_member =
    is-text [] (text "{\"\":null}") [] refl
    (inr (inr (is-object (series (structural [] [] refl refl)
    (one (is_member {x = text "null"} {v = null} (record { body = []; spelled = refl; chars = no_char }) (structural [] [] refl refl) refl))
    (structural [] [] refl refl))
    (refl, tt)))) refl

-- a name twice
pub name_twice : (u v : Value) → Differ (mcons (text "a") u (mcons (text "a") v mnil)) → ⊥
name_twice u v d = true≢false d.0
