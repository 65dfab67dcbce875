-- Worked examples of the definitions, computed.
use mathlib.Core.Path.{◌≡◌, refl}
use mathlib.Core.List.{[], ◌∷◌}
use mathlib.Core.Bool.{true, false}
use Rattle.chars.specs.declared.characters.Step.TheVariants.{Char, Quote}
use Rattle.chars.specs.Bytes.{code_of, digit, escape_of, lowest, highest, six_bits}
use Rattle.chars.specs.Characters.{refusal_at, hex_pair, partner_at, rest_at, unicode_at, escape_at, two_at, three_at, four_at, char_from, char_at}
use Rattle.chars.specs.Strings.{string_from, string_at, chars_from, chars_at, characters}
use Rattle.model.specs.Text.{same}
use Rattle.std.specs.Prelude.{Ok, Err}
use Rattle.chars.specs.Refusals.{refusal}
use Rattle.chars.specs.declared.refusals.Code.TheVariants.{Ended, NotAllowed, NotUtf8, LoneSurrogate}

-- `\ud83d\ude00` is one character
pub grin : char_at (0x5c ∷ 0x75 ∷ 0x64 ∷ 0x38 ∷ 0x33 ∷ 0x64 ∷ 0x5c ∷ 0x75 ∷ 0x64 ∷ 0x65 ∷ 0x30 ∷ 0x30 ∷ 0x22 ∷ []) 0 ≡ Ok (Char 0x1F600 12)
unfolding code_of digit escape_of lowest highest six_bits refusal_at hex_pair partner_at rest_at unicode_at escape_at two_at three_at four_at char_from char_at
grin = refl

-- the same in UTF-8
pub grin_utf : char_at (0xf0 ∷ 0x9f ∷ 0x98 ∷ 0x80 ∷ 0x22 ∷ []) 0 ≡ Ok (Char 0x1F600 4)
unfolding code_of digit escape_of lowest highest six_bits refusal_at hex_pair partner_at rest_at unicode_at escape_at two_at three_at four_at char_from char_at
grin_utf = refl

-- `\u0061` is a
pub a : char_at (0x5c ∷ 0x75 ∷ 0x30 ∷ 0x30 ∷ 0x36 ∷ 0x31 ∷ []) 0 ≡ Ok (Char 0x61 6)
unfolding code_of digit escape_of lowest highest six_bits refusal_at hex_pair partner_at rest_at unicode_at escape_at two_at three_at four_at char_from char_at
a = refl

-- `\n`
pub newline : char_at (0x5c ∷ 0x6e ∷ []) 0 ≡ Ok (Char 0x0A 2)
unfolding code_of digit escape_of lowest highest six_bits refusal_at hex_pair partner_at rest_at unicode_at escape_at two_at three_at four_at char_from char_at
newline = refl

-- `\/`
pub slash : char_at (0x5c ∷ 0x2f ∷ []) 0 ≡ Ok (Char 0x2F 2)
unfolding code_of digit escape_of lowest highest six_bits refusal_at hex_pair partner_at rest_at unicode_at escape_at two_at three_at four_at char_from char_at
slash = refl

-- the closing quote
pub quote : char_at (0x22 ∷ []) 0 ≡ Ok Quote
unfolding code_of digit escape_of lowest highest six_bits refusal_at hex_pair partner_at rest_at unicode_at escape_at two_at three_at four_at char_from char_at
quote = refl

-- an overlong form: C0 begins no character
pub overlong : char_at (0xc0 ∷ 0x80 ∷ []) 0 ≡ Err (refusal NotUtf8 0)
unfolding code_of digit escape_of lowest highest six_bits refusal_at hex_pair partner_at rest_at unicode_at escape_at two_at three_at four_at char_from char_at
overlong = refl

-- E0 80
pub overlong3 : char_at (0xe0 ∷ 0x80 ∷ 0x80 ∷ []) 0 ≡ Err (refusal NotUtf8 1)
unfolding code_of digit escape_of lowest highest six_bits refusal_at hex_pair partner_at rest_at unicode_at escape_at two_at three_at four_at char_from char_at
overlong3 = refl

-- ED A0: a surrogate
pub surrogate3 : char_at (0xed ∷ 0xa0 ∷ 0x80 ∷ []) 0 ≡ Err (refusal NotUtf8 1)
unfolding code_of digit escape_of lowest highest six_bits refusal_at hex_pair partner_at rest_at unicode_at escape_at two_at three_at four_at char_from char_at
surrogate3 = refl

-- F4 90: above 10FFFF
pub high4 : char_at (0xf4 ∷ 0x90 ∷ 0x80 ∷ 0x80 ∷ []) 0 ≡ Err (refusal NotUtf8 1)
unfolding code_of digit escape_of lowest highest six_bits refusal_at hex_pair partner_at rest_at unicode_at escape_at two_at three_at four_at char_from char_at
high4 = refl

-- 10FFFF
pub last : char_at (0xf4 ∷ 0x8f ∷ 0xbf ∷ 0xbf ∷ []) 0 ≡ Ok (Char 0x10FFFF 4)
unfolding code_of digit escape_of lowest highest six_bits refusal_at hex_pair partner_at rest_at unicode_at escape_at two_at three_at four_at char_from char_at
last = refl

-- a character that the end cuts off
pub cut : char_at (0xe2 ∷ 0x82 ∷ []) 0 ≡ Err (refusal Ended 2)
unfolding code_of digit escape_of lowest highest six_bits refusal_at hex_pair partner_at rest_at unicode_at escape_at two_at three_at four_at char_from char_at
cut = refl

-- a character that a quote cuts off
pub broken : char_at (0xe2 ∷ 0x82 ∷ 0x22 ∷ []) 0 ≡ Err (refusal NotUtf8 2)
unfolding code_of digit escape_of lowest highest six_bits refusal_at hex_pair partner_at rest_at unicode_at escape_at two_at three_at four_at char_from char_at
broken = refl

-- a low surrogate first
pub lone_low : char_at (0x5c ∷ 0x75 ∷ 0x64 ∷ 0x63 ∷ 0x30 ∷ 0x30 ∷ []) 0 ≡ Err (refusal LoneSurrogate 3)
unfolding code_of digit escape_of lowest highest six_bits refusal_at hex_pair partner_at rest_at unicode_at escape_at two_at three_at four_at char_from char_at
lone_low = refl

-- a high surrogate, then a quote
pub lone_high : char_at (0x5c ∷ 0x75 ∷ 0x64 ∷ 0x38 ∷ 0x30 ∷ 0x30 ∷ 0x22 ∷ []) 0 ≡ Err (refusal LoneSurrogate 6)
unfolding code_of digit escape_of lowest highest six_bits refusal_at hex_pair partner_at rest_at unicode_at escape_at two_at three_at four_at char_from char_at
lone_high = refl

-- a high surrogate, then `\n`
pub high_a : char_at (0x5c ∷ 0x75 ∷ 0x64 ∷ 0x38 ∷ 0x30 ∷ 0x30 ∷ 0x5c ∷ 0x6e ∷ []) 0 ≡ Err (refusal LoneSurrogate 7)
unfolding code_of digit escape_of lowest highest six_bits refusal_at hex_pair partner_at rest_at unicode_at escape_at two_at three_at four_at char_from char_at
high_a = refl

-- a high surrogate, then `\ue`
pub high_e : char_at (0x5c ∷ 0x75 ∷ 0x44 ∷ 0x38 ∷ 0x30 ∷ 0x30 ∷ 0x5c ∷ 0x75 ∷ 0x65 ∷ []) 0 ≡ Err (refusal LoneSurrogate 8)
unfolding code_of digit escape_of lowest highest six_bits refusal_at hex_pair partner_at rest_at unicode_at escape_at two_at three_at four_at char_from char_at
high_e = refl

-- two high surrogates
pub high_high : char_at (0x5c ∷ 0x75 ∷ 0x44 ∷ 0x38 ∷ 0x30 ∷ 0x30 ∷ 0x5c ∷ 0x75 ∷ 0x44 ∷ 0x38 ∷ 0x30 ∷ 0x30 ∷ []) 0 ≡ Err (refusal LoneSurrogate 9)
unfolding code_of digit escape_of lowest highest six_bits refusal_at hex_pair partner_at rest_at unicode_at escape_at two_at three_at four_at char_from char_at
high_high = refl

-- a wrong digit within the partner
pub high_x : char_at (0x5c ∷ 0x75 ∷ 0x44 ∷ 0x38 ∷ 0x30 ∷ 0x30 ∷ 0x5c ∷ 0x75 ∷ 0x44 ∷ 0x43 ∷ 0x78 ∷ 0x30 ∷ []) 0 ≡ Err (refusal NotAllowed 10)
unfolding code_of digit escape_of lowest highest six_bits refusal_at hex_pair partner_at rest_at unicode_at escape_at two_at three_at four_at char_from char_at
high_x = refl

-- 80 where the partner should begin: 5 goes before 4
pub high_80 : char_at (0x5c ∷ 0x75 ∷ 0x44 ∷ 0x38 ∷ 0x30 ∷ 0x30 ∷ 0x80 ∷ []) 0 ≡ Err (refusal LoneSurrogate 6)
unfolding code_of digit escape_of lowest highest six_bits refusal_at hex_pair partner_at rest_at unicode_at escape_at two_at three_at four_at char_from char_at
high_80 = refl

-- the text ends within a pair
pub high_cut : char_at (0x5c ∷ 0x75 ∷ 0x44 ∷ 0x38 ∷ 0x30 ∷ 0x30 ∷ 0x5c ∷ 0x75 ∷ []) 0 ≡ Err (refusal Ended 8)
unfolding code_of digit escape_of lowest highest six_bits refusal_at hex_pair partner_at rest_at unicode_at escape_at two_at three_at four_at char_from char_at
high_cut = refl

-- 80 behind a backslash
pub esc_80 : char_at (0x5c ∷ 0x80 ∷ []) 0 ≡ Err (refusal NotUtf8 1)
unfolding code_of digit escape_of lowest highest six_bits refusal_at hex_pair partner_at rest_at unicode_at escape_at two_at three_at four_at char_from char_at
esc_80 = refl

-- C3 behind a backslash
pub esc_c3 : char_at (0x5c ∷ 0xc3 ∷ []) 0 ≡ Err (refusal NotAllowed 1)
unfolding code_of digit escape_of lowest highest six_bits refusal_at hex_pair partner_at rest_at unicode_at escape_at two_at three_at four_at char_from char_at
esc_c3 = refl

-- x behind a backslash
pub esc_x : char_at (0x5c ∷ 0x78 ∷ []) 0 ≡ Err (refusal NotAllowed 1)
unfolding code_of digit escape_of lowest highest six_bits refusal_at hex_pair partner_at rest_at unicode_at escape_at two_at three_at four_at char_from char_at
esc_x = refl

-- nothing behind a backslash
pub esc_cut : char_at (0x5c ∷ []) 0 ≡ Err (refusal Ended 1)
unfolding code_of digit escape_of lowest highest six_bits refusal_at hex_pair partner_at rest_at unicode_at escape_at two_at three_at four_at char_from char_at
esc_cut = refl

-- a wrong digit
pub hex_g : char_at (0x5c ∷ 0x75 ∷ 0x30 ∷ 0x30 ∷ 0x67 ∷ 0x30 ∷ []) 0 ≡ Err (refusal NotAllowed 4)
unfolding code_of digit escape_of lowest highest six_bits refusal_at hex_pair partner_at rest_at unicode_at escape_at two_at three_at four_at char_from char_at
hex_g = refl

-- FF for a digit
pub hex_ff : char_at (0x5c ∷ 0x75 ∷ 0x30 ∷ 0xff ∷ []) 0 ≡ Err (refusal NotUtf8 3)
unfolding code_of digit escape_of lowest highest six_bits refusal_at hex_pair partner_at rest_at unicode_at escape_at two_at three_at four_at char_from char_at
hex_ff = refl

-- a byte under 20
pub low_byte : char_at (0x1f ∷ []) 0 ≡ Err (refusal NotAllowed 0)
unfolding code_of digit escape_of lowest highest six_bits refusal_at hex_pair partner_at rest_at unicode_at escape_at two_at three_at four_at char_from char_at
low_byte = refl

-- 7F is allowed
pub del : char_at (0x7f ∷ []) 0 ≡ Ok (Char 0x7F 1)
unfolding code_of digit escape_of lowest highest six_bits refusal_at hex_pair partner_at rest_at unicode_at escape_at two_at three_at four_at char_from char_at
del = refl

-- nothing left
pub nothing : char_at ([]) 0 ≡ Err (refusal Ended 0)
unfolding code_of digit escape_of lowest highest six_bits refusal_at hex_pair partner_at rest_at unicode_at escape_at two_at three_at four_at char_from char_at
nothing = refl

-- a byte 0
pub zero : char_at (0x0 ∷ []) 0 ≡ Err (refusal NotAllowed 0)
unfolding code_of digit escape_of lowest highest six_bits refusal_at hex_pair partner_at rest_at unicode_at escape_at two_at three_at four_at char_from char_at
zero = refl

-- `a\u00e9"`, and `é` in UTF-8 behind it
pub whole : string_at (0x61 ∷ 0x5c ∷ 0x75 ∷ 0x30 ∷ 0x30 ∷ 0x65 ∷ 0x39 ∷ 0xc3 ∷ 0xa9 ∷ 0x78 ∷ 0x22 ∷ 0x2c ∷ []) 0 ≡ Ok 11
unfolding code_of digit escape_of lowest highest six_bits refusal_at hex_pair partner_at rest_at unicode_at escape_at two_at three_at four_at
    char_from char_at string_from string_at chars_from chars_at
whole = refl

-- `\u0061` and `a` are the same name
pub same_a : same (characters (0x78 ∷ 0x5c ∷ 0x75 ∷ 0x30 ∷ 0x30 ∷ 0x36 ∷ 0x31 ∷ [])) (characters (0x78 ∷ 0x61 ∷ [])) ≡ true
unfolding code_of digit escape_of lowest highest six_bits refusal_at hex_pair partner_at rest_at unicode_at escape_at two_at three_at four_at
    char_from char_at string_from string_at chars_from chars_at
same_a = refl

pub other_case : same (characters (0x41 ∷ [])) (characters (0x61 ∷ [])) ≡ false
unfolding code_of digit escape_of lowest highest six_bits refusal_at hex_pair partner_at rest_at unicode_at escape_at two_at three_at four_at
    char_from char_at string_from string_at chars_from chars_at
other_case = refl
