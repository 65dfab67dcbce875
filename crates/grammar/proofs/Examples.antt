-- Worked examples: RFC 8259's own, what is no text, and places.
use Prim.Native.Nat.{ℕ}
use Prim.Native.String.{String}
use native.Mathlib.Omega.{arith}
use mathlib.Core.Path.{◌≡◌, refl, subst}
use mathlib.Core.Bool.{true, false}
use mathlib.Core.List.{List, [], ◌∷◌, ◌++◌}
use mathlib.Core.Option.{Option, none, some}
use lib.ListN.{length}
use lib.Dec.{leb}
use borrow.Author.Tests.{leb-true}
use Rattle.model.specs.Text.{text}
use Rattle.model.specs.Value.{Value, boolean, number, string, array, object, Values, vnil, vcons, Members, mnil, mcons}
use Rattle.model.proofs.Basics.{never}
use Rattle.chars.specs.declared.refusals.Code.TheVariants.{NotAllowed, LoneSurrogate, NameTwice, TooDeep}
use Rattle.tokens.specs.Parse.{Parse, refused, parsed}
use Rattle.syntax.specs.Tree.{Node}
use Rattle.syntax.specs.Grammar.{read_text}
use Rattle.syntax.specs.Spelling.{value_of}
use Rattle.syntax.proofs.Examples.{within}
use Rattle.grammar.specs.Written.{IsJsonText, Begins}
use Rattle.grammar.proofs.Theorems.{reads_written, written_reads}
use Rattle.grammar.proofs.Places.{place_begins, place_ends}

-- ---- texts, by reading

abbrev value_read : List ℕ → Parse Node → Option Value
value_read s (refused c p) = none
value_read s (parsed n e) = some (value_of s n)

-- the value that s is read as, with at most d brackets open at once
abbrev reading : ℕ → List ℕ → Option Value
reading d s = value_read s (within 999 d s)

some_one : {A : Type 0} {x y : A} → some x ≡ some y → x ≡ y
some_one q = cc

by_reading : (d : ℕ) (s : List ℕ) (v : Value) → reading d s ≡ some v → IsJsonText d s v
unfolding within
by_reading d s v = go (read_text 999 d s) refl
  where
    go : (o : Parse Node) → read_text 999 d s ≡ o → value_read s o ≡ some v → IsJsonText d s v
    go (refused c p) q e = never (cc)
    go (parsed n i) q e = subst (IsJsonText d s) (some_one e) (reads_written 999 d s n i q)

-- a text by its lines
abbrev lines : List String → List ℕ
lines [] = []
lines (l ∷ ls) = text l ++ (0x0A ∷ lines ls)

abbrev str : String → Value
str s = string (text s)

abbrev num : String → Value
num s = number (text s)

abbrev ◌∶◌&◌ : String → Value → Members → Members
k ∶ v & ms = mcons (text k) v ms

infixr 40 ◌∶◌&◌
abbrev ◌⊳◌ : Value → Values → Values
v ⊳ vs = vcons v vs

infixr 40 ◌⊳◌
-- section 13: an object, an array of two, and three values that stand alone
abbrev image : List ℕ
image = lines (
    "{"
    ∷ "  \"Image\": {"
    ∷ "      \"Width\":  800,"
    ∷ "      \"Height\": 600,"
    ∷ "      \"Title\":  \"View from 15th Floor\","
    ∷ "      \"Thumbnail\": {"
    ∷ "          \"Url\":    \"http://www.example.com/image/481989943\","
    ∷ "          \"Height\": 125,"
    ∷ "          \"Width\":  100"
    ∷ "      },"
    ∷ "      \"Animated\" : false,"
    ∷ "      \"IDs\": [116, 943, 234, 38793]"
    ∷ "    }"
    ∷ "}"
    ∷ [])

abbrev image_value : Value
image_value =
    object ("Image" ∶ object ("Width" ∶ num "800" & "Height" ∶ num "600" & "Title" ∶ str "View from 15th Floor"
    & "Thumbnail" ∶ object ("Url" ∶ str "http://www.example.com/image/481989943" & "Height" ∶ num "125" & "Width" ∶ num "100" & mnil)
    & "Animated" ∶ boolean false & "IDs" ∶ array (num "116" ⊳ num "943" ⊳ num "234" ⊳ num "38793" ⊳ vnil) & mnil) & mnil)

abbrev cities : List ℕ
cities = lines (
    "["
    ∷ "  {"
    ∷ "     \"precision\": \"zip\","
    ∷ "     \"Latitude\":  37.7668,"
    ∷ "     \"Longitude\": -122.3959,"
    ∷ "     \"Address\":   \"\","
    ∷ "     \"City\":      \"SAN FRANCISCO\","
    ∷ "     \"State\":     \"CA\","
    ∷ "     \"Zip\":       \"94107\","
    ∷ "     \"Country\":   \"US\""
    ∷ "  },"
    ∷ "  {"
    ∷ "     \"precision\": \"zip\","
    ∷ "     \"Latitude\":  37.371991,"
    ∷ "     \"Longitude\": -122.026020,"
    ∷ "     \"Address\":   \"\","
    ∷ "     \"City\":      \"SUNNYVALE\","
    ∷ "     \"State\":     \"CA\","
    ∷ "     \"Zip\":       \"94085\","
    ∷ "     \"Country\":   \"US\""
    ∷ "  }"
    ∷ "]"
    ∷ [])

abbrev city : String → String → String → String → Value
city latitude longitude name zip =
    object ("precision" ∶ str "zip" & "Latitude" ∶ num latitude & "Longitude" ∶ num longitude
    & "Address" ∶ str "" & "City" ∶ str name & "State" ∶ str "CA" & "Zip" ∶ str zip & "Country" ∶ str "US" & mnil)

abbrev cities_value : Value
cities_value = array (city "37.7668" "-122.3959" "SAN FRANCISCO" "94107" ⊳ city "37.371991" "-122.026020" "SUNNYVALE" "94085" ⊳ vnil)

pub section_13 : IsJsonText 3 image image_value
    × IsJsonText 2 cities cities_value
    × IsJsonText 0 (text "\"Hello world!\"") (str "Hello world!")
    × IsJsonText 0 (text "42") (num "42")
    × IsJsonText 0 (text "true") (boolean true)
unfolding within
section_13 = (
  by_reading 3 image image_value refl,
  by_reading 2 cities cities_value refl,
  by_reading 0 (text "\"Hello world!\"") (str "Hello world!") refl,
  by_reading 0 (text "42") (num "42") refl,
  by_reading 0 (text "true") (boolean true) refl,
)

-- section 6: numbers that a program may not hold exactly are numbers all the same
pub section_6 : IsJsonText 0 (text "1E400") (num "1E400") × IsJsonText 0 (text "3.141592653589793238462643383279") (num "3.141592653589793238462643383279")
unfolding within
section_6 = (
  by_reading 0 (text "1E400") (num "1E400") refl,
  by_reading 0 (text "3.141592653589793238462643383279") (num "3.141592653589793238462643383279") refl,
)

-- section 7: a reverse solidus in two ways, and the G clef, U+1D11E, by two escapes
pub section_7 : IsJsonText 0 (text "\"\\u005C\"") (str "\\")
    × IsJsonText 0 (text "\"\\\\\"") (str "\\")
    × IsJsonText 0 (text "\"\\uD834\\uDD1E\"") (string (0x1D11E ∷ []))
unfolding within
section_7 = (
  by_reading 0 (text "\"\\u005C\"") (str "\\") refl,
  by_reading 0 (text "\"\\\\\"") (str "\\") refl,
  by_reading 0 (text "\"\\uD834\\uDD1E\"") (string (0x1D11E ∷ [])) refl,
)

-- section 8.3: two spellings of one string
pub section_8_3 : IsJsonText 0 (text "\"a\\\\b\"") (str "a\\b") × IsJsonText 0 (text "\"a\\u005Cb\"") (str "a\\b")
unfolding within
section_8_3 = (by_reading 0 (text "\"a\\\\b\"") (str "a\\b") refl, by_reading 0 (text "\"a\\u005Cb\"") (str "a\\b") refl)

-- ---- what is no text

no_text : (d : ℕ) (s : String) → reading d (text s) ≡ none → leb (length (text s)) 999 ≡ true → (v : Value) → IsJsonText d (text s) v → ⊥
unfolding within
no_text d s e l v t =
    let x = written_reads 999 d (text s) v t (leb-true _ _ l) in
    let z : some (value_of (text s) x.0) ≡ none = rw x.2 at e in
    never (cc)

-- no value is spelled by s
abbrev NoText : ℕ → String → Type 0
NoText d s = (v : Value) → IsJsonText d (text s) v → ⊥

-- a comma too many or too few, another separator, brackets that do not match or are too many, no colon, a name twice
pub lists : NoText 9 "[1,]" × NoText 9 "[,1]" × NoText 9 "[1 2]" × NoText 9 "[1;2]" × NoText 9 "[1}" × NoText 1 "[[]]"
    × NoText 9 "{\"a\" 1}" × NoText 9 "{\"a\":1,\"\\u0061\":2}"
unfolding within
lists = (
  no_text 9 "[1,]" refl refl,
  no_text 9 "[,1]" refl refl,
  no_text 9 "[1 2]" refl refl,
  no_text 9 "[1;2]" refl refl,
  no_text 9 "[1}" refl refl,
  no_text 1 "[[]]" refl refl,
  no_text 9 "{\"a\" 1}" refl refl,
  no_text 9 "{\"a\":1,\"\\u0061\":2}" refl refl,
)

-- zeros in front, a point with no digit on one side, a plus, a literal in capitals, a string with a line end or an unknown escape, two values, and nothing
pub tokens : NoText 0 "01" × NoText 0 "1." × NoText 0 ".5" × NoText 0 "+1" × NoText 0 "True"
    × NoText 0 "\"\n\"" × NoText 0 "\"\\x\"" × NoText 0 "1 2" × NoText 0 " "
unfolding within
tokens = (
  no_text 0 "01" refl refl,
  no_text 0 "1." refl refl,
  no_text 0 ".5" refl refl,
  no_text 0 "+1" refl refl,
  no_text 0 "True" refl refl,
  no_text 0 "\"\n\"" refl refl,
  no_text 0 "\"\\x\"" refl refl,
  no_text 0 "1 2" refl refl,
  no_text 0 " " refl refl,
)

-- ---- places

-- the place of a refusal: what stands before it begins a text, and one byte more begins none
abbrev Breaks : ℕ → String → String → Type 0
Breaks d before more = Begins d (text before) × (Begins d (text more) → ⊥)

-- section 8.2's `"\uDEAD"` has 5 at the second digit; `[1,]` 3 at its closing bracket;
-- `{"a":1,"\u0061":2}` 6 at the closing quote of the second name; `[[` with one bracket allowed 7
pub places : Breaks 0 "\"\\uD" "\"\\uDE" × Breaks 1 "[1," "[1,]" × Breaks 1 "{\"a\":1,\"\\u0061" "{\"a\":1,\"\\u0061\"" × Breaks 1 "[" "[["
unfolding within
places = (
  (place_begins 999 0 (text "\"\\uDEAD\"") LoneSurrogate 4 refl (omega arith), place_ends 999 0 (text "\"\\uDEAD\"") LoneSurrogate 4 refl (omega arith)),
  (place_begins 999 1 (text "[1,]") NotAllowed 3 refl (omega arith), place_ends 999 1 (text "[1,]") NotAllowed 3 refl (omega arith)),
  (
    place_begins 999 1 (text "{\"a\":1,\"\\u0061\":2}") NameTwice 14 refl (omega arith),
    place_ends 999 1 (text "{\"a\":1,\"\\u0061\":2}") NameTwice 14 refl (omega arith),
  ),
  (place_begins 999 1 (text "[[") TooDeep 1 refl (omega arith), place_ends 999 1 (text "[[") TooDeep 1 refl (omega arith)),
)
