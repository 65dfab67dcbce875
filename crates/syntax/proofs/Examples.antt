-- Worked examples of the definitions, computed: each product is a list of them (01, "Text", "Rows", "Three services" and the table of examples).
use mathlib.Core.Path.{◌≡◌, refl}
use mathlib.Core.List.{List, [], ◌∷◌, ◌++◌}
use Prim.Native.Nat.{ℕ, zero, suc, ◌+◌, ◌-◌}
use mathlib.Core.Bool.{true}
use lib.ListN.{replicate}
use Rattle.model.specs.Text.{text}
use Rattle.model.specs.Value.{null, number, boolean, string, vcons, vnil, mcons, mnil, array as list, object as record_of}
use Rattle.chars.specs.Bytes.{code_of, digit, escape_of, lowest, highest, six_bits}
use Rattle.tokens.specs.Parse.{Parse, refused, parsed, unexpected}
use Rattle.chars.specs.Runs.{run_from, run}
use Rattle.tokens.specs.Space.{is_space}
use Rattle.chars.specs.Characters.{refusal_at, hex_pair, partner_at, rest_at, unicode_at, escape_at, two_at, three_at, four_at, char_from, char_at}
use Rattle.chars.specs.Strings.{string_from, string_at, chars_from, chars_at}
use Rattle.tokens.specs.declared.tokens.Kind.TheVariants.{Null, False, True, Whole, Fractional, Quoted}
use Rattle.tokens.specs.Numbers.{whole_end, sign_end, power_at, exponent_at, fraction_at, unsigned_at, number_at}
use Rattle.tokens.specs.Scalars.{first_of, word_at}
use Rattle.syntax.specs.Tree.{Node, scalar, array, object, none, more, no_member, member}
use Rattle.syntax.specs.Grammar.{after_item, items_from, items_at, list_at, repeated, name_at, after_name, value_at, alone, read_text}
use Rattle.syntax.specs.Rows.{words}
use Rattle.syntax.specs.Spelling.{value_of}
use Rattle.syntax.specs.Answer.{document_limits, schema_limits, read_within, answer, answer_of, table_of}
use Rattle.chars.specs.declared.refusals.Code.TheVariants.{TooLong, Ended, NotAllowed, NotUtf8, LoneSurrogate, NameTwice, TooDeep}

-- a text within limits; who unfolds this unfolds all that reading computes with
unfoldable pub within : ℕ → ℕ → List ℕ → Parse Node
unfolding code_of digit escape_of lowest highest six_bits unexpected run_from run is_space refusal_at hex_pair partner_at rest_at unicode_at
    escape_at two_at three_at four_at char_from char_at string_from string_at chars_from chars_at whole_end sign_end power_at exponent_at fraction_at
    unsigned_at number_at first_of word_at after_item items_from items_at list_at repeated name_at after_name value_at alone read_text
within bytes depth s = read_text bytes depth s

-- a document
abbrev read : List ℕ → Parse Node
read s = within 65536 32 s

-- ---- texts that are read

-- 01's example, `{"a":[1,true]}`
abbrev example : Node
example = object 0 14 (member 1 4 (array 5 13 (more (scalar Whole 6 7) (more (scalar True 8 12) none))) no_member)

read_example : read (text "{\"a\":[1,true]}") ≡ parsed example 14
unfolding within
read_example = refl

rows_example : words example ≡ 8 ∷ 0 ∷ 14 ∷ 1 ∷ 5 ∷ 0
    ∷ 9 ∷ 1 ∷ 4 ∷ 0 ∷ 1 ∷ 0
    ∷ 7 ∷ 5 ∷ 13 ∷ 2 ∷ 3 ∷ 0
    ∷ 4 ∷ 6 ∷ 7 ∷ 0 ∷ 1 ∷ 2
    ∷ 3 ∷ 8 ∷ 12 ∷ 0 ∷ 1 ∷ 2
    ∷ []
rows_example = refl

value_example : value_of (text "{\"a\":[1,true]}") example ≡ record_of (mcons (text "a") (list (vcons (number (text "1")) (vcons (boolean true) vnil))) mnil)
unfolding within
value_example = refl

-- any value may stand at the top, with space around it; a fraction or an exponent makes kind 5
scalars : (read (text "null") ≡ parsed (scalar Null 0 4) 4)
    × (read (text " \t\r\nfalse ") ≡ parsed (scalar False 4 9) 10)
    × (read (text "-0") ≡ parsed (scalar Whole 0 2) 2)
    × (read (text "1.0") ≡ parsed (scalar Fractional 0 3) 3)
    × (read (text "10E+02 ") ≡ parsed (scalar Fractional 0 6) 7)
    × (read (text "\"\"") ≡ parsed (scalar Quoted 0 2) 2)
unfolding within
scalars = (refl, refl, refl, refl, refl, refl)

-- escapes; a pair of surrogates; 7F; two, three and four bytes of UTF-8; EF BB BF is a character here
strings : (read (text "\"\\\"\\\\\\/\\b\\f\\n\\r\\t\"") ≡ parsed (scalar Quoted 0 18) 18)
    × (read (text "\"\\ud83d\\uDE00\"") ≡ parsed (scalar Quoted 0 14) 14)
    × (read (0x22 ∷ 0x7F ∷ 0x22 ∷ []) ≡ parsed (scalar Quoted 0 3) 3)
    × (read (0x22 ∷ 0xC3 ∷ 0xA9 ∷ 0xEF ∷ 0xBB ∷ 0xBF ∷ 0xF4 ∷ 0x8F ∷ 0xBF ∷ 0xBF ∷ 0x22 ∷ []) ≡ parsed (scalar Quoted 0 11) 11)
unfolding within
strings = (refl, refl, refl, refl)

-- arrays hold objects and objects hold arrays; a name may come again in another object, and in another case
nested : (read (text "[ ]") ≡ parsed (array 0 3 none) 3)
    × (read (text "{ }") ≡ parsed (object 0 3 no_member) 3)
    × (read (text "[[],{}]") ≡ parsed (array 0 7 (more (array 1 3 none) (more (object 4 6 no_member) none))) 7)
    × (read (text "{\"a\":{\"a\":1},\"A\":2}")
    ≡ parsed (object 0 19 (member 1 4 (object 5 12 (member 6 9 (scalar Whole 10 11) no_member)) (member 13 16 (scalar Whole 17 18) no_member))) 19)
    × (read (text "{ \"\" : [ 1 , 2 ] } ")
    ≡ parsed (object 0 18 (member 2 4 (array 7 16 (more (scalar Whole 9 10) (more (scalar Whole 13 14) none))) no_member)) 19)
unfolding within
nested = (refl, refl, refl, refl, refl)

-- d + 1 arrays, one in the other
abbrev arrays : ℕ → ℕ → ℕ → Node
arrays zero f e = array f e none
arrays (suc d) f e = array f e (more (arrays d (f + 1) (e - 1)) none)

-- n opening brackets
abbrev open_brackets : ℕ → List ℕ
open_brackets n = replicate n 0x5B

-- 32 open brackets, then closed; of a schema 24
deep : (read (open_brackets 32 ++ replicate 32 0x5D) ≡ parsed (arrays 31 0 64) 64)
    × (within 16384 24 (open_brackets 24 ++ replicate 24 0x5D) ≡ parsed (arrays 23 0 48) 48)
    × (within 9 0 (text "1") ≡ parsed (scalar Whole 0 1) 1)
unfolding within
deep = (refl, refl, refl)

-- the value: space and escapes are no part of it, numbers are as spelled
spelled : (value_of (text " [-0, 1.50 ]") (array 1 12 (more (scalar Whole 2 4) (more (scalar Fractional 6 10) none)))
    ≡ list (vcons (number (text "-0")) (vcons (number (text "1.50")) vnil)))
    × (value_of (text "{\"\\u0061\":null}") (object 0 15 (member 1 9 (scalar Null 10 14) no_member)) ≡ record_of (mcons (text "a") null mnil))
    × (value_of (text "\"\\ud83d\\uDE00\\n\"") (scalar Quoted 0 16) ≡ string (0x1F600 ∷ 0x0A ∷ []))
    × (value_of (0x22 ∷ 0xE2 ∷ 0x82 ∷ 0xAC ∷ 0x22 ∷ []) (scalar Quoted 0 5) ≡ string (0x20AC ∷ []))
unfolding within
spelled = (refl, refl, refl, refl)

-- ---- refusals

-- 2: the text holds nothing but space, or stops inside a value, before any byte is wrong
ended : (read (text "") ≡ refused Ended 0)
    × (read (text " \t\n\r") ≡ refused Ended 4)
    × (read (text "[") ≡ refused Ended 1)
    × (read (text "[1") ≡ refused Ended 2)
    × (read (text "[1,") ≡ refused Ended 3)
    × (read (text "{\"a\"") ≡ refused Ended 4)
    × (read (text "{\"a\":") ≡ refused Ended 5)
    × (read (text "{\"a\":1") ≡ refused Ended 6)
    × (read (text "tru") ≡ refused Ended 3)
    × (read (text "-") ≡ refused Ended 1)
    × (read (text "1.") ≡ refused Ended 2)
    × (read (text "1e") ≡ refused Ended 2)
    × (read (text "1e+") ≡ refused Ended 3)
    × (read (text "\"") ≡ refused Ended 1)
    × (read (text "\"\\") ≡ refused Ended 2)
    × (read (text "\"\\u00") ≡ refused Ended 5)
    × (read (text "\"\\uD") ≡ refused Ended 4)
    × (read (text "\"\\uD83D") ≡ refused Ended 7)
    × (read (text "\"\\uD83D\\u") ≡ refused Ended 9)
    × (read (0x22 ∷ 0xC3 ∷ []) ≡ refused Ended 2)
unfolding within
ended = (refl, refl, refl, refl, refl, refl, refl, refl, refl, refl, refl, refl, refl, refl, refl, refl, refl, refl, refl, refl)

-- 3: a byte that no number and no literal has there
wrong_scalars : (read (text "01") ≡ refused NotAllowed 1)
    × (read (text "00") ≡ refused NotAllowed 1)
    × (read (text "-01") ≡ refused NotAllowed 2)
    × (read (text "-x") ≡ refused NotAllowed 1)
    × (read (text "1.x") ≡ refused NotAllowed 2)
    × (read (text "[1.]") ≡ refused NotAllowed 3)
    × (read (text "1e+-1") ≡ refused NotAllowed 3)
    × (read (text "+1") ≡ refused NotAllowed 0)
    × (read (text ".5") ≡ refused NotAllowed 0)
    × (read (text "trux") ≡ refused NotAllowed 3)
    × (read (text "tru ") ≡ refused NotAllowed 3)
    × (read (text "truex") ≡ refused NotAllowed 4)
    × (read (text "True") ≡ refused NotAllowed 0)
unfolding within
wrong_scalars = (refl, refl, refl, refl, refl, refl, refl, refl, refl, refl, refl, refl, refl)

-- 3: commas, brackets and colons; a byte behind the top value, a bracket too
wrong_lists : (read (text "[1,]") ≡ refused NotAllowed 3)
    × (read (text "[1 2]") ≡ refused NotAllowed 3)
    × (read (text "[1}") ≡ refused NotAllowed 2)
    × (read (text "[,1]") ≡ refused NotAllowed 1)
    × (read (text "]") ≡ refused NotAllowed 0)
    × (read (text "1]") ≡ refused NotAllowed 1)
    × (read (text "[]]") ≡ refused NotAllowed 2)
    × (read (text "{} {") ≡ refused NotAllowed 3)
    × (read (text "{1:2}") ≡ refused NotAllowed 1)
    × (read (text "{\"a\" 1}") ≡ refused NotAllowed 5)
    × (read (text "{\"a\":}") ≡ refused NotAllowed 5)
    × (read (text "{\"a\":1,}") ≡ refused NotAllowed 7)
    × (read (text "{\"a\":1]") ≡ refused NotAllowed 6)
unfolding within
wrong_lists = (refl, refl, refl, refl, refl, refl, refl, refl, refl, refl, refl, refl, refl)

-- 3: a byte order mark; a byte of 80 hex and up outside strings; a byte 0; a byte under 20 hex in a string; an escape that is none
wrong_bytes : (read (0xEF ∷ 0xBB ∷ 0xBF ∷ 0x31 ∷ []) ≡ refused NotAllowed 0)
    × (read (0x5B ∷ 0x80 ∷ []) ≡ refused NotAllowed 1)
    × (read (0x31 ∷ 0x00 ∷ []) ≡ refused NotAllowed 1)
    × (read (0x22 ∷ 0x00 ∷ []) ≡ refused NotAllowed 1)
    × (read (text "\"\n\"") ≡ refused NotAllowed 1)
    × (read (text "\"\\x\"") ≡ refused NotAllowed 2)
    × (read (text "\"\\u00G0\"") ≡ refused NotAllowed 5)
    × (read (0x22 ∷ 0x5C ∷ 0xC3 ∷ []) ≡ refused NotAllowed 2)
unfolding within
wrong_bytes = (refl, refl, refl, refl, refl, refl, refl, refl)

-- 4: the byte that cannot follow, never the one before it; overlong forms, surrogates and what lies above 10FFFF show at the second byte;
-- 80 to C1 and F5 to FF begin no character, in an escape neither
not_utf : (read (0x22 ∷ 0xC3 ∷ 0x22 ∷ []) ≡ refused NotUtf8 2)
    × (read (0x22 ∷ 0xE0 ∷ 0x80 ∷ []) ≡ refused NotUtf8 2)
    × (read (0x22 ∷ 0xED ∷ 0xA0 ∷ []) ≡ refused NotUtf8 2)
    × (read (0x22 ∷ 0xF0 ∷ 0x8F ∷ []) ≡ refused NotUtf8 2)
    × (read (0x22 ∷ 0xF4 ∷ 0x90 ∷ []) ≡ refused NotUtf8 2)
    × (read (0x22 ∷ 0x80 ∷ []) ≡ refused NotUtf8 1)
    × (read (0x22 ∷ 0xC1 ∷ []) ≡ refused NotUtf8 1)
    × (read (0x22 ∷ 0xF5 ∷ []) ≡ refused NotUtf8 1)
    × (read (0x22 ∷ 0xFF ∷ []) ≡ refused NotUtf8 1)
    × (read (0x22 ∷ 0xC3 ∷ 0x1F ∷ []) ≡ refused NotUtf8 2)
    × (read (0x22 ∷ 0xC3 ∷ 0x5C ∷ []) ≡ refused NotUtf8 2)
    × (read (0x22 ∷ 0xE2 ∷ 0x82 ∷ 0xC3 ∷ []) ≡ refused NotUtf8 3)
    × (read (0x22 ∷ 0x5C ∷ 0x80 ∷ []) ≡ refused NotUtf8 2)
    × (read (0x22 ∷ 0x5C ∷ 0x75 ∷ 0x30 ∷ 0xFF ∷ []) ≡ refused NotUtf8 4)
unfolding within
not_utf = (refl, refl, refl, refl, refl, refl, refl, refl, refl, refl, refl, refl, refl, refl)

-- 5: a low surrogate first, at its second digit; behind a high one the first byte that does not go on to a low one;
-- the last two digits of the low one are as any others, so 3
lone_surrogates : (read (text "\"\\uDC") ≡ refused LoneSurrogate 4)
    × (read (text "\"\\udfff\"") ≡ refused LoneSurrogate 4)
    × (read (text "\"\\uD83D\"") ≡ refused LoneSurrogate 7)
    × (read (text "\"\\uD83Dx") ≡ refused LoneSurrogate 7)
    × (read (text "\"\\uD83D\\n") ≡ refused LoneSurrogate 8)
    × (read (text "\"\\uD83D\\uE") ≡ refused LoneSurrogate 9)
    × (read (text "\"\\uD83D\\uD8") ≡ refused LoneSurrogate 10)
    × (read (0x22 ∷ 0x5C ∷ 0x75 ∷ 0x44 ∷ 0x38 ∷ 0x33 ∷ 0x44 ∷ 0x80 ∷ []) ≡ refused LoneSurrogate 7)
    × (read (text "\"\\uD83D\\uDEG") ≡ refused NotAllowed 11)
unfolding within
lone_surrogates = (refl, refl, refl, refl, refl, refl, refl, refl, refl)

-- 6: the closing quote of the later name, as soon as it is read (2 where the text ends before it); names are compared after unescaping
repeated_names : (read (text "{\"a\":1,\"\\u0061\":2}") ≡ refused NameTwice 14)
    × (read (text "{\"a\":1,\"a\"") ≡ refused NameTwice 9)
    × (read (text "{\"a\":1,\"a\"x") ≡ refused NameTwice 9)
    × (read (text "{\"a\":1,\"a") ≡ refused Ended 9)
    × (read (text "{\"a\":{\"a\":1},\"b\":2,\"a\":3}") ≡ refused NameTwice 21)
    × (read (text "[{\"\":0,\"\":0}]") ≡ refused NameTwice 8)
unfolding within
repeated_names = (refl, refl, refl, refl, refl, refl)

-- 7: the bracket that is one too many, where a value may stand; elsewhere it is 3
too_deep : (read (open_brackets 33) ≡ refused TooDeep 32)
    × (read (open_brackets 32 ++ text "{") ≡ refused TooDeep 32)
    × (read (open_brackets 32 ++ text "1[") ≡ refused NotAllowed 33)
    × (within 16384 24 (open_brackets 25) ≡ refused TooDeep 24)
    × (within 9 1 (text "{\"a\":[") ≡ refused TooDeep 5)
    × (within 9 1 (text "{[") ≡ refused NotAllowed 1)
    × (within 9 0 (text "[") ≡ refused TooDeep 0)
unfolding within
too_deep = (refl, refl, refl, refl, refl, refl, refl)

-- 1: the limit, and nothing else of the text is judged; a text of as many bytes as allowed is judged
too_long : (within 4 32 (text "false") ≡ refused TooLong 4)
    × (within 3 32 (text "]]]]") ≡ refused TooLong 3)
    × (within 0 0 (text "[") ≡ refused TooLong 0)
    × (within 5 32 (text "false") ≡ parsed (scalar False 0 5) 5)
    × (within 0 0 (text "") ≡ refused Ended 0)
unfolding within
too_long = (refl, refl, refl, refl, refl)

-- the limits of a document and of a schema; limits above a document's count as a document's
by_limits : (read_within document_limits (open_brackets 33) ≡ refused TooDeep 32)
    × (read_within schema_limits (open_brackets 33) ≡ refused TooDeep 24)
    × (read_within (record { bytes = 99999; depth = 99 }) (open_brackets 33) ≡ refused TooDeep 32)
    × (read_within (record { bytes = 2; depth = 1 }) (text "[1]") ≡ refused TooLong 2)
unfolding within
by_limits = (refl, refl, refl, refl)

-- ---- answers and tables

-- 01's example as it was read: five rows
abbrev five : Parse Node
five = parsed example 14

-- `null`: one row
abbrev one : Parse Node
one = parsed (scalar Null 0 4) 4

-- a table of w words holds w/6 rows: too few, one word less, exactly enough, a part of a row more; a refusal keeps its code whatever the table
answers : (answer_of 1 0 one ≡ answer 8 1 0 1)
    × (answer_of 1 1 one ≡ answer 8 1 0 1)
    × (answer_of 1 2 one ≡ answer 8 1 0 1)
    × (answer_of 1 3 one ≡ answer 8 1 0 1)
    × (answer_of 1 4 one ≡ answer 8 1 0 1)
    × (answer_of 1 5 one ≡ answer 8 1 0 1)
    × (answer_of 1 6 one ≡ answer 0 0 0 1)
    × (answer_of 1 0 five ≡ answer 8 1 0 5)
    × (answer_of 2 29 five ≡ answer 8 2 0 5)
    × (answer_of 2 30 five ≡ answer 0 0 0 5)
    × (answer_of 1 35 five ≡ answer 0 0 0 5)
    × (answer_of 1 0 (refused NotAllowed 7) ≡ answer 3 1 7 0)
    × (answer_of 2 30 (refused NameTwice 9) ≡ answer 6 2 9 0)
unfolding answer_of
answers = (refl, refl, refl, refl, refl, refl, refl, refl, refl, refl, refl, refl, refl)

-- a table without room, and that of a refused text, is as found; the words behind the last row are as found
tables : (table_of [] one ≡ [])
    × (table_of (9 ∷ []) one ≡ 9 ∷ [])
    × (table_of (9 ∷ 8 ∷ []) one ≡ 9 ∷ 8 ∷ [])
    × (table_of (9 ∷ 8 ∷ 7 ∷ []) one ≡ 9 ∷ 8 ∷ 7 ∷ [])
    × (table_of (9 ∷ 8 ∷ 7 ∷ 6 ∷ []) one ≡ 9 ∷ 8 ∷ 7 ∷ 6 ∷ [])
    × (table_of (9 ∷ 8 ∷ 7 ∷ 6 ∷ 5 ∷ []) one ≡ 9 ∷ 8 ∷ 7 ∷ 6 ∷ 5 ∷ [])
    × (table_of (9 ∷ 8 ∷ 7 ∷ 6 ∷ 5 ∷ 4 ∷ []) one ≡ 1 ∷ 0 ∷ 4 ∷ 0 ∷ 1 ∷ 0 ∷ [])
    × (table_of (9 ∷ 8 ∷ 7 ∷ 6 ∷ 5 ∷ 4 ∷ 3 ∷ 2 ∷ []) one ≡ 1 ∷ 0 ∷ 4 ∷ 0 ∷ 1 ∷ 0 ∷ 3 ∷ 2 ∷ [])
    × (table_of (replicate 29 9) five ≡ replicate 29 9)
    × (table_of (replicate 30 9) five ≡ words example)
    × (table_of (replicate 32 9) five ≡ words example ++ (9 ∷ 9 ∷ []))
    × (table_of (9 ∷ 8 ∷ 7 ∷ 6 ∷ 5 ∷ []) (refused NotAllowed 7) ≡ 9 ∷ 8 ∷ 7 ∷ 6 ∷ 5 ∷ [])
unfolding table_of
tables = (refl, refl, refl, refl, refl, refl, refl, refl, refl, refl, refl, refl)
