-- Worked examples of space, numbers, words and first bytes, computed: each product is a list of them.
use mathlib.Core.Path.{◌≡◌, refl}
use mathlib.Core.List.{[], ◌∷◌}
use Prim.Native.String.{String}
use Rattle.model.specs.Text.{text}
use Rattle.tokens.specs.declared.scalars.First.TheVariants.{Array, Object, Quote, Number, LetterN, LetterF, LetterT, Other}
use Rattle.chars.specs.Bytes.{code_of, escape_of}
use Rattle.tokens.specs.Parse.{Parse, refused, parsed, unexpected}
use Rattle.chars.specs.Runs.{run_from, run}
use Rattle.tokens.specs.Space.{is_space, skip}
use Rattle.chars.specs.Characters.{refusal_at, escape_at, char_from, char_at}
use Rattle.chars.specs.Strings.{string_from, string_at}
use Rattle.tokens.specs.declared.tokens.Kind.{Kind}
use Rattle.tokens.specs.declared.tokens.Kind.TheVariants.{Null, False, True, Whole, Fractional, Quoted}
use Rattle.tokens.specs.Numbers.{digits_end, whole_end, sign_end, power_at, exponent_at, fraction_at, unsigned_at, number_at}
use Rattle.tokens.specs.Scalars.{first_of, word_at, scalar_at}
use Rattle.chars.specs.declared.refusals.Code.TheVariants.{Ended, NotAllowed}

-- what stands at the start of a text
abbrev reads : String → Parse Kind
reads t = scalar_at (text t) 0

-- integers: no zero goes before another digit
pub integers : (reads "0" ≡ parsed Whole 1)
    × (reads "-0" ≡ parsed Whole 2)
    × (reads "120," ≡ parsed Whole 3)
    × (reads "01" ≡ parsed Whole 1)
    × (reads "-01" ≡ parsed Whole 2)
    × (reads "-" ≡ refused Ended 1)
    × (reads "-x" ≡ refused NotAllowed 1)
    × (reads "--1" ≡ refused NotAllowed 1)
unfolding run_from run whole_end sign_end power_at exponent_at fraction_at unsigned_at number_at unexpected first_of
integers = (refl, refl, refl, refl, refl, refl, refl, refl)

-- fractions: a digit stands behind the point
pub fractions : (reads "1.5" ≡ parsed Fractional 3)
    × (reads "-0.50]" ≡ parsed Fractional 5)
    × (reads "1." ≡ refused Ended 2)
    × (reads "1.x" ≡ refused NotAllowed 2)
    × (reads "1.e1" ≡ refused NotAllowed 2)
    × (number_at (text "[1.]") 1 ≡ refused NotAllowed 3)
unfolding run_from run whole_end sign_end power_at exponent_at fraction_at unsigned_at number_at unexpected first_of
fractions = (refl, refl, refl, refl, refl, refl)

-- exponents: a digit stands behind the letter and its sign
pub exponents : (reads "1e+7" ≡ parsed Fractional 4)
    × (reads "1E-2" ≡ parsed Fractional 4)
    × (reads "1.0e0" ≡ parsed Fractional 5)
    × (reads "0e00" ≡ parsed Fractional 4)
    × (reads "1e" ≡ refused Ended 2)
    × (reads "1e+" ≡ refused Ended 3)
    × (reads "1e+-1" ≡ refused NotAllowed 3)
    × (reads "1ee" ≡ refused NotAllowed 2)
unfolding run_from run whole_end sign_end power_at exponent_at fraction_at unsigned_at number_at unexpected first_of
exponents = (refl, refl, refl, refl, refl, refl, refl, refl)

-- words: the first byte that differs is refused, and what stands behind a word is not looked at
pub words : (reads "true" ≡ parsed True 4)
    × (reads "tru" ≡ refused Ended 3)
    × (reads "trux" ≡ refused NotAllowed 3)
    × (reads "truex" ≡ parsed True 4)
    × (reads "True" ≡ refused NotAllowed 0)
    × (reads "null" ≡ parsed Null 4)
    × (reads "nul" ≡ refused Ended 3)
    × (reads "false" ≡ parsed False 5)
    × (reads "fals " ≡ refused NotAllowed 4)
unfolding unexpected first_of word_at
words = (refl, refl, refl, refl, refl, refl, refl, refl, refl)

-- strings: with both quotes
pub strings : (reads "\"a\"" ≡ parsed Quoted 3)
    × (reads "\"\"" ≡ parsed Quoted 2)
    × (reads "\"" ≡ refused Ended 1)
    × (reads "\"\n\"" ≡ refused NotAllowed 1)
    × (reads "\"\\x\"" ≡ refused NotAllowed 2)
unfolding code_of escape_of refusal_at escape_at char_from char_at string_from string_at first_of
strings = (refl, refl, refl, refl, refl)

-- no such value begins there
pub none : (reads "" ≡ refused Ended 0)
    × (reads "+1" ≡ refused NotAllowed 0)
    × (reads ".5" ≡ refused NotAllowed 0)
    × (reads "[1]" ≡ refused NotAllowed 0)
    × (scalar_at (text "1") 1 ≡ refused Ended 1)
unfolding unexpected first_of
none = (refl, refl, refl, refl, refl)

-- a byte order mark, EF BB BF; 80; 0
pub bytes : (scalar_at (0xEF ∷ 0xBB ∷ 0xBF ∷ 0x31 ∷ []) 0 ≡ refused NotAllowed 0)
    × (scalar_at (0x80 ∷ []) 0 ≡ refused NotAllowed 0)
    × (scalar_at (0 ∷ []) 0 ≡ refused NotAllowed 0)
unfolding unexpected first_of
bytes = (refl, refl, refl)

-- space is 20, 09, 0A, 0D, and not 0B, 0C, A0
pub spaces : (skip (text " \t\n\r1") 0 ≡ 4)
    × (skip (text "1 ") 0 ≡ 0)
    × (skip (text "1  ") 1 ≡ 3)
    × (skip (text "") 0 ≡ 0)
    × (skip (text "") 7 ≡ 7)
    × (skip (0x20 ∷ 0x0B ∷ []) 0 ≡ 1)
    × (skip (0x0C ∷ []) 0 ≡ 0)
    × (skip (0xA0 ∷ []) 0 ≡ 0)
unfolding run_from run is_space
spaces = (refl, refl, refl, refl, refl, refl, refl, refl)

-- digits are 0 to 9: not `/` and `:`, which stand beside them
pub digits : (digits_end (text "a123b") 1 ≡ 4)
    × (digits_end (text "09:") 0 ≡ 2)
    × (digits_end (text "/") 0 ≡ 0)
    × (digits_end (text "12") 1 ≡ 2)
unfolding run_from run
digits = (refl, refl, refl, refl)

-- `"` `[` `{` `-` `0` `9` `n` `f` `t` begin a value; `/` `:` `N` `]` and FF do not
pub firsts : (first_of 0x22 ≡ Quote)
    × (first_of 0x5B ≡ Array)
    × (first_of 0x7B ≡ Object)
    × (first_of 0x2D ≡ Number)
    × (first_of 0x30 ≡ Number)
    × (first_of 0x39 ≡ Number)
    × (first_of 0x6E ≡ LetterN)
    × (first_of 0x66 ≡ LetterF)
    × (first_of 0x74 ≡ LetterT)
    × (first_of 0x2F ≡ Other)
    × (first_of 0x3A ≡ Other)
    × (first_of 0x4E ≡ Other)
    × (first_of 0x5D ≡ Other)
    × (first_of 0xFF ≡ Other)
unfolding first_of
firsts = (refl, refl, refl, refl, refl, refl, refl, refl, refl, refl, refl, refl, refl, refl)
