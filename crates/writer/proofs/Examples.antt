-- The one spelling of values, computed (02, L6).
use mathlib.Core.Path.{◌≡◌, refl}
use mathlib.Core.List.{[], ◌∷◌}
use mathlib.Core.Bool.{true, false}
use Rattle.model.specs.Text.{text}
use Rattle.model.specs.Value.{null, boolean, number, string, array, object, vnil, vcons, mnil, mcons}
use Rattle.grammar.specs.Utf8.{utf8}
use Rattle.writer.specs.Spell.{letter_of, hex_digit, spell_char, spell_chars, spell_string, spell}
use Rattle.writer.specs.Depth.{depth_of}

empty_array : spell (array vnil) ≡ text "[]"
empty_array = refl

empty_object : spell (object mnil) ≡ text "{}"
empty_object = refl

literals : spell (array (vcons null (vcons (boolean true) (vcons (boolean false) vnil)))) ≡ text "[null,true,false]"
literals = refl

-- "members in their order", "numbers as spelled"
members : let a = array (vcons (number (text "-0")) (vcons (number (text "1.0")) vnil)) in
    spell (object (mcons (text "b") (number (text "1.0e+2")) (mcons (text "a") a mnil)))
    ≡ text "{\"b\":1.0e+2,\"a\":[-0,1.0]}"
unfolding spell_char utf8
members = refl

empty_string : spell (string []) ≡ text "\"\""
empty_string = refl

-- "by the short forms where there is one"
short_forms : spell_string (0x08 ∷ 0x0C ∷ 0x0A ∷ 0x0D ∷ 0x09 ∷ 0x22 ∷ 0x5C ∷ []) ≡ text "\"\\b\\f\\n\\r\\t\\\"\\\\\""
unfolding spell_char letter_of
short_forms = refl

-- "else `\u00` with lower-case digits"
long_forms : spell_string (0x00 ∷ 0x1F ∷ 0x0B ∷ []) ≡ text "\"\\u0000\\u001f\\u000b\""
unfolding spell_char letter_of hex_digit
long_forms = refl

-- neither `/` nor 7F hex is escaped
as_they_are : spell_chars (0x20 ∷ 0x2F ∷ 0x7F ∷ []) ≡ 0x20 ∷ 0x2F ∷ 0x7F ∷ []
unfolding spell_char utf8
as_they_are = refl

-- all others in UTF-8, of two, three and four bytes
two_bytes : spell_chars (0x80 ∷ 0x7FF ∷ []) ≡ 0xC2 ∷ 0x80 ∷ 0xDF ∷ 0xBF ∷ []
unfolding spell_char utf8
two_bytes = refl

three_bytes : spell_chars (0x800 ∷ 0x20AC ∷ 0xFFFF ∷ []) ≡ 0xE0 ∷ 0xA0 ∷ 0x80 ∷ 0xE2 ∷ 0x82 ∷ 0xAC ∷ 0xEF ∷ 0xBF ∷ 0xBF ∷ []
unfolding spell_char utf8
three_bytes = refl

four_bytes : spell_chars (0x10000 ∷ 0x1F600 ∷ 0x10FFFF ∷ []) ≡ 0xF0 ∷ 0x90 ∷ 0x80 ∷ 0x80 ∷ 0xF0 ∷ 0x9F ∷ 0x98 ∷ 0x80 ∷ 0xF4 ∷ 0x8F ∷ 0xBF ∷ 0xBF ∷ []
unfolding spell_char utf8
four_bytes = refl

-- a bracket in a string is none
no_bracket : depth_of (string (text "[")) ≡ 0
no_bracket = refl

two_open : depth_of (array (vcons (object mnil) (vcons null vnil))) ≡ 2
two_open = refl
