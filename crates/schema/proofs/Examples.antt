-- Worked examples of the definitions, computed: each product is a list of them (01, "Definitions", "Meeting", "Three services").
use Prim.Native.Nat.{ℕ, zero, suc}
use Prim.Native.String.{String as Letters}
use mathlib.Core.Path.{◌≡◌, refl}
use mathlib.Core.Bool.{cond}
use mathlib.Core.List.{List, [], ◌∷◌, ◌++◌}
use lib.IntN.{ℤ, pos, neg_ℤ}
use lib.ListN.{replicate}
use lib.Dec.{eqb}
use Rattle.model.specs.Text.{text}
use Rattle.model.specs.Calendar.{first_months, first_years, day_count, day_number}
use Rattle.model.specs.Date.{utc_day, moment}
use Rattle.model.specs.Definition.{JSON, Schema, Float, Integer, String, Boolean, DateTime}
use Rattle.chars.specs.Refusals.{number}
use Rattle.chars.specs.Bytes.{code_of, digit, escape_of, lowest, highest, six_bits}
use Rattle.tokens.specs.Parse.{Parse, refused, parsed, unexpected}
use Rattle.chars.specs.Runs.{run_from, run}
use Rattle.tokens.specs.Space.{is_space}
use Rattle.chars.specs.Characters.{refusal_at, hex_pair, partner_at, rest_at, unicode_at, escape_at, two_at, three_at, four_at, char_from, char_at}
use Rattle.chars.specs.Strings.{string_from, string_at, chars_from, chars_at}
use Rattle.tokens.specs.Numbers.{whole_end, sign_end, power_at, exponent_at, fraction_at, unsigned_at, number_at}
use Rattle.tokens.specs.Scalars.{first_of, word_at}
use Rattle.tokens.specs.declared.tokens.Kind.TheVariants.{Null, Whole, Quoted}
use Rattle.syntax.specs.Tree.{Node, scalar, array, object, none, more, no_member}
use Rattle.syntax.specs.Grammar.{after_item, items_from, items_at, list_at, repeated, name_at, after_name, value_at, alone, read_text}
use Rattle.syntax.specs.Answer.{answer, table_of}
use Rattle.syntax.specs.declared.answers.Answer.{Answer}
use Rattle.definitions.specs.Definitions.{Located, named-at, array_at, map_at, object-at, no_field, field, Defined}
use Rattle.definitions.specs.Definitions.{faulty as unfit, fine as defined, definition_at, fault_number}
use Rattle.schema.specs.Judging.{mismatched, nothing, mismatch_at}
use Rattle.schema.specs.declared.judging.MismatchCode.TheVariants.{WrongKind, MissingName}
use Rattle.definitions.specs.Accepting.{read_schema, accept}
use Rattle.schema.specs.Dates.{least_of, greatest_of, earliest, latest, dates_of}
use Rattle.schema.specs.Checking.{check_answer, check_table, check_moments}
use Rattle.schema.specs.Paths.{check_path}

-- ---- how the examples are written

-- ' stands for the quote
abbrev quotes : List ℕ → List ℕ
quotes [] = []
quotes (c ∷ s) = cond (eqb c 0x27) 0x22 c ∷ quotes s

abbrev json : Letters → List ℕ
json s = quotes (text s)

-- a definition; or the number of a fault's code, and its place
data Shown : Type 0 where
  fine : Located → Shown
  faulty : ℕ → ℕ → Shown

abbrev shown : Defined Located → Shown
shown (unfit c p) = faulty (fault_number c) p
shown (defined d) = fine d

-- the definition of a text that is read, or its fault
abbrev defined_by : List ℕ → Parse Node → Shown
defined_by s (refused c p) = faulty (number c) p
defined_by s (parsed n e) = shown (definition_at s n)

-- the definition of a schema; who unfolds this unfolds all that reading computes with
defines : List ℕ → Shown
unfolding code_of digit escape_of lowest highest six_bits unexpected run_from run is_space refusal_at hex_pair partner_at rest_at unicode_at
    escape_at two_at three_at four_at char_from char_at string_from string_at chars_from chars_at whole_end sign_end power_at exponent_at fraction_at
    unsigned_at number_at first_of word_at after_item items_from items_at list_at repeated name_at after_name value_at alone read_text
defines s = defined_by s (read_schema s)

-- Check of a document and a schema, with tables of so many words
check_in : ℕ → ℕ → List ℕ → List ℕ → Answer
unfolding defines accept check_answer
check_in w₁ w₂ document schema = check_answer w₁ w₂ document schema

-- with room for all
abbrev check : List ℕ → List ℕ → Answer
check document schema = check_in 16380 16380 document schema

-- ---- definitions

-- the seven types, and exact case
types : (defines (json "'JSON'") ≡ fine (named-at 0 JSON))
    × (defines (json "'Schema'") ≡ fine (named-at 0 Schema))
    × (defines (json "'Float'") ≡ fine (named-at 0 Float))
    × (defines (json "'Integer'") ≡ fine (named-at 0 Integer))
    × (defines (json "'String'") ≡ fine (named-at 0 String))
    × (defines (json "'Boolean'") ≡ fine (named-at 0 Boolean))
    × (defines (json "'DateTime'") ≡ fine (named-at 0 DateTime))
    × (defines (json "'json'") ≡ faulty 11 0)
    × (defines (json "'Integer '") ≡ faulty 11 0)
    × (defines (json " ''") ≡ faulty 11 1)
unfolding defines
types = (refl, refl, refl, refl, refl, refl, refl, refl, refl, refl)

-- names are taken after unescaping
escaped : (defines (json "'\\u004aSON'") ≡ fine (named-at 0 JSON))
    × (defines (json "{'\\u004fbject':{}}") ≡ fine (object-at 0 no_field no_field))
    × (defines (json "{'Arra\\u0079':'Floa\\u0074'}") ≡ fine (array_at 0 (named-at 14 Float)))
    × (defines (json "{'Object':{'\\u0072equired':5}}") ≡ faulty 10 27)
    × (defines (json "{'Object':{'required':{'\\u0061':'JSON'}}}") ≡ fine (object-at 0 (field 23 (text "a") (named-at 32 JSON) no_field) no_field))
unfolding defines
escaped = (refl, refl, refl, refl, refl)

-- "Other kinds: 10."
wrong_kinds : (defines (json "null") ≡ faulty 10 0)
    × (defines (json "true") ≡ faulty 10 0)
    × (defines (json " 1") ≡ faulty 10 1)
    × (defines (json "1.5") ≡ faulty 10 0)
    × (defines (json "[]") ≡ faulty 10 0)
    × (defines (json "['JSON']") ≡ faulty 10 0)
unfolding defines
wrong_kinds = (refl, refl, refl, refl, refl, refl)

-- "An object with no member, or with more than one: 10", at the brace, whatever the names
several : (defines (json "{}") ≡ faulty 10 0)
    × (defines (json "{'Array':'JSON','Map':'JSON'}") ≡ faulty 10 0)
    × (defines (json " {'x':1,'y':2}") ≡ faulty 10 1)
    × (defines (json "{'Object':{},'note':1}") ≡ faulty 10 0)
    × (defines (json "{'Array':{}}") ≡ faulty 10 9)
unfolding defines
several = (refl, refl, refl, refl, refl)

-- "a single member with another name: 11", at its opening quote, whatever stands under it
unknown : (defines (json "{'array':'JSON'}") ≡ faulty 11 1)
    × (defines (json "{ 'x' : 5 }") ≡ faulty 11 2)
    × (defines (json "{'':{}}") ≡ faulty 11 1)
    × (defines (json "{'Map':{'Tuple':[]}}") ≡ faulty 11 8)
unfolding defines
unknown = (refl, refl, refl, refl)

-- "Under Array and Map stands a definition."
under_array : (defines (json "{'Array':{'Map':'Float'}}") ≡ fine (array_at 0 (map_at 9 (named-at 16 Float))))
    × (defines (json " { 'Map' : 'JSON' } ") ≡ fine (map_at 1 (named-at 11 JSON)))
    × (defines (json "{'Array':1}") ≡ faulty 10 9)
    × (defines (json "{'Map':'x'}") ≡ faulty 11 7)
    × (defines (json "{'Array':{'Array':{'Map':[]}}}") ≡ faulty 10 25)
unfolding defines
under_array = (refl, refl, refl, refl, refl)

-- an Object: each field has its opening quote, its name and its definition; what is absent has no fields; other members are ignored
objects : (defines (json "{'Object':{}}") ≡ fine (object-at 0 no_field no_field))
    × (defines (json "{'Object':{'required':{}}}") ≡ fine (object-at 0 no_field no_field))
    × (defines (json "{'Object':{'optional':{'b':'Float'},'required':{'a':{'Array':'JSON'},'c':'String'}}}") ≡ fine (object-at 0 (field 48 (text "a") (array_at 52 (named-at 61 JSON)) (field 69 (text "c") (named-at 73 String) no_field)) (field 23 (text "b") (named-at 27 Float) no_field)))
    × (defines (json "{'Object':{'x':1,'required':{},'y':[{}],'Optional':0}}") ≡ fine (object-at 0 no_field no_field))
unfolding defines
objects = (refl, refl, refl, refl)

-- 10 under Object: the value of the wrong kind itself; "required" before "optional", though "optional" may stand first
bodies : (defines (json "{'Object':1}") ≡ faulty 10 10)
    × (defines (json "{'Object':'JSON'}") ≡ faulty 10 10)
    × (defines (json "{'Object':[]}") ≡ faulty 10 10)
    × (defines (json "{'Object':{'required':[]}}") ≡ faulty 10 22)
    × (defines (json "{'Object':{'optional':null}}") ≡ faulty 10 22)
    × (defines (json "{'Object':{'optional':1,'required':2}}") ≡ faulty 10 35)
unfolding defines
bodies = (refl, refl, refl, refl, refl, refl)

-- "12, its opening quote under "optional"", in the order of "optional"; names are compared after unescaping
shared : (defines (json "{'Object':{'optional':{'c':1,'b':2},'required':{'b':1}}}") ≡ faulty 12 29)
    × (defines (json "{'Object':{'required':{'a':'JSON'},'optional':{'\\u0061':'JSON'}}}") ≡ faulty 12 47)
    × (defines (json "{'Object':{'required':{'a':'JSON','b':'JSON'},'optional':{'b':'JSON','a':'JSON'}}}") ≡ faulty 12 58)
    × (defines (json "{'Object':{'required':{'a':'JSON'},'optional':{'A':'JSON'}}}") ≡ fine (object-at 0 (field 23 (text "a") (named-at 27 JSON) no_field) (field 47 (text "A") (named-at 51 JSON) no_field)))
unfolding defines
shared = (refl, refl, refl, refl)

-- kinds and shared names before any definition; then the definitions of "required" in order, then of "optional", each wholly before the next
in_order : (defines (json "{'Object':{'required':{'a':1},'optional':2}}") ≡ faulty 10 41)
    × (defines (json "{'Object':{'required':{'a':1,'b':2},'optional':{'b':3}}}") ≡ faulty 12 48)
    × (defines (json "{'Object':{'optional':{'a':1},'required':{'b':'x'}}}") ≡ faulty 11 46)
    × (defines (json "{'Object':{'required':{'a':{'Array':1},'b':2}}}") ≡ faulty 10 36)
    × (defines (json "{'Object':{'required':{'a':'JSON','b':2},'optional':{'c':3}}}") ≡ faulty 10 38)
    × (defines (json "{'Object':{'optional':{'a':{'Object':{'required':{'x':0},'optional':{'x':0}}},'b':2}}}") ≡ faulty 12 69)
unfolding defines
in_order = (refl, refl, refl, refl, refl, refl)

-- ---- trees

-- `[1,null,"x"]`, of which only the kinds and places are looked at
abbrev elements : Node
elements = array 0 12 (more (scalar Whole 1 2) (more (scalar Null 3 7) (more (scalar Quoted 8 11) none)))

-- none; a wrong kind, of the whole or of the first element that has one
of_trees : (mismatch_at [] (array_at 0 (named-at 9 JSON)) elements ≡ nothing)
    × (mismatch_at [] (map_at 4 (named-at 11 JSON)) elements ≡ mismatched WrongKind 0 4)
    × (mismatch_at [] (array_at 0 (named-at 9 Integer)) elements ≡ mismatched WrongKind 3 9)
    × (mismatch_at [] (array_at 0 (named-at 9 String)) elements ≡ mismatched WrongKind 1 9)
    × (mismatch_at [] (object-at 5 (field 28 (text "a") (named-at 32 JSON) no_field) no_field) (object 7 9 no_member) ≡ mismatched MissingName 7 28)
    × (mismatch_at [] (object-at 5 no_field (field 28 (text "a") (named-at 32 JSON) no_field)) (object 7 9 no_member) ≡ nothing)
of_trees = (refl, refl, refl, refl, refl, refl)

-- ---- a document and a schema

-- a document that meets
meeting : (check (json "1") (json "'Integer'") ≡ answer 0 0 0 0)
    × (check (json "-0") (json "'Integer'") ≡ answer 0 0 0 0)
    × (check (json "1.0") (json "'Float'") ≡ answer 0 0 0 0)
    × (check (json "-12") (json "'Float'") ≡ answer 0 0 0 0)
    × (check (json "''") (json "'String'") ≡ answer 0 0 0 0)
    × (check (json "false") (json "'Boolean'") ≡ answer 0 0 0 0)
    × (check (json "[null,{}]") (json "'JSON'") ≡ answer 0 0 0 0)
    × (check (json "[]") (json "{'Array':'Integer'}") ≡ answer 0 0 0 0)
    × (check (json "[1,2]") (json "{'Array':'Integer'}") ≡ answer 0 0 0 0)
    × (check (json "{}") (json "{'Map':'Integer'}") ≡ answer 0 0 0 0)
    × (check (json "{'a':1,'b':2}") (json "{'Map':'Integer'}") ≡ answer 0 0 0 0)
unfolding check_in
meeting = (refl, refl, refl, refl, refl, refl, refl, refl, refl, refl, refl)

-- 20: the first byte in the document, and the definition's in the schema
wrong_values : (check (json "1.0") (json "'Integer'") ≡ answer 20 1 0 0)
    × (check (json "1e2") (json "'Integer'") ≡ answer 20 1 0 0)
    × (check (json " '1'") (json " 'Float'") ≡ answer 20 1 1 1)
    × (check (json "null") (json "'String'") ≡ answer 20 1 0 0)
    × (check (json "0") (json "'Boolean'") ≡ answer 20 1 0 0)
    × (check (json "{}") (json "'String'") ≡ answer 20 1 0 0)
    × (check (json "null") (json "'Integer'") ≡ answer 20 1 0 0)
unfolding check_in
wrong_values = (refl, refl, refl, refl, refl, refl, refl)

-- 20 under Array, Map and Object: the brace of the definition; a value's kind is judged before what it holds
wrong_containers : (check (json " 1") (json " {'Array':'JSON'}") ≡ answer 20 1 1 1)
    × (check (json "{'a':1}") (json "{'Array':'String'}") ≡ answer 20 1 0 0)
    × (check (json "[]") (json "{'Map':'JSON'}") ≡ answer 20 1 0 0)
    × (check (json "'x'") (json "{'Object':{}}") ≡ answer 20 1 0 0)
    × (check (json "[1]") (json "{'Object':{'required':{'a':'JSON'}}}") ≡ answer 20 1 0 0)
unfolding check_in
wrong_containers = (refl, refl, refl, refl, refl)

-- an element or a member that misfits: the first byte of the inner definition; in document order
inner : (check (json "[1,'a',null]") (json "{'Array':'Integer'}") ≡ answer 20 1 3 9)
    × (check (json "[[1],[2,3.5]]") (json "{'Array':{'Array':'Integer'}}") ≡ answer 20 1 8 18)
    × (check (json "[[1],2]") (json "{'Array':{'Array':'Integer'}}") ≡ answer 20 1 5 9)
    × (check (json "{'a':1,'b':true,'c':null}") (json "{'Map':'Integer'}") ≡ answer 20 1 11 7)
    × (check (json "{'b':[],'a':[{}]}") (json "{'Map':{'Array':'String'}}") ≡ answer 20 1 13 16)
unfolding check_in
inner = (refl, refl, refl, refl, refl)

-- 21: the brace of the document's object, and the opening quote of the name in the schema
missing_names : (check (json "{}") (json "{'Object':{'required':{'a':'JSON'}}}") ≡ answer 21 1 0 23)
    × (check (json "[{'a':1},{'A':1}]") (json "{'Array':{'Object':{'required':{'a':'JSON'}}}}") ≡ answer 21 1 9 32)
    × (check (json "{'b':1}") (json "{'Object':{'required':{'b':'JSON','a':'JSON'}}}") ≡ answer 21 1 0 34)
unfolding check_in
missing_names = (refl, refl, refl)

-- dates (01, the table of examples), and what is no string
dates : (check (json "'2024-04-30T23:59:59.5+02:00'") (json "'DateTime'") ≡ answer 0 0 0 0)
    × (check (json "'2024-04-31T08:00:00Z'") (json "'DateTime'") ≡ answer 22 1 0 0)
    × (check (json "'0000-02-29T00:00:00z'") (json "'DateTime'") ≡ answer 0 0 0 0)
    × (check (json "'1900-02-29T00:00:00Z'") (json "'DateTime'") ≡ answer 22 1 0 0)
    × (check (json "['2024-04-30']") (json "{'Array':'DateTime'}") ≡ answer 22 1 1 9)
    × (check (json "20240430") (json "'DateTime'") ≡ answer 20 1 0 0)
    × (check (json "['2024-04-30T08:00:00Z']") (json "'DateTime'") ≡ answer 20 1 0 0)
    × (check (json "'2024-04-30T08:00:00\\u005a'") (json "'DateTime'") ≡ answer 0 0 0 0)
unfolding check_in
dates = (refl, refl, refl, refl, refl, refl, refl, refl)

-- "Schema takes every value that is a definition; any other is 20 at that value", never at a place inside it
schemas : (check (json "'JSON'") (json "'Schema'") ≡ answer 0 0 0 0)
    × (check (json "{'Array':{'Object':{'optional':{'a':'Schema'}}}}") (json "'Schema'") ≡ answer 0 0 0 0)
    × (check (json "'json'") (json "'Schema'") ≡ answer 20 1 0 0)
    × (check (json "{'Array':['x']}") (json "'Schema'") ≡ answer 20 1 0 0)
    × (check (json "['Float',{'Object':{'required':{'a':1}}}]") (json "{'Array':'Schema'}") ≡ answer 20 1 9 9)
unfolding check_in
schemas = (refl, refl, refl, refl, refl)

-- names of "required" in schema order, each judged wholly before the next is looked for
required_order : (check (json "{'a':null,'b':null}") (json "{'Object':{'required':{'b':'Integer','a':'Integer'}}}") ≡ answer 20 1 14 27)
    × (check (json "{'a':[null]}") (json "{'Object':{'required':{'a':{'Array':'Integer'},'z':'JSON'}}}") ≡ answer 20 1 6 36)
    × (check (json "{'a':null}") (json "{'Object':{'required':{'z':'JSON','a':'Integer'}}}") ≡ answer 21 1 0 23)
unfolding check_in
required_order = (refl, refl, refl)

-- then those of "optional" that are present; members that the definition does not name are ignored
optional_order : (check (json "{}") (json "{'Object':{'optional':{'a':'Integer'}}}") ≡ answer 0 0 0 0)
    × (check (json "{'x':null}") (json "{'Object':{'optional':{'a':'Integer'}}}") ≡ answer 0 0 0 0)
    × (check (json "{'x':0,'a':null}") (json "{'Object':{'optional':{'a':'Integer'}}}") ≡ answer 20 1 11 27)
    × (check (json "{'a':null,'b':null}") (json "{'Object':{'optional':{'a':'Integer'},'required':{'b':'Integer'}}}") ≡ answer 20 1 14 54)
    × (check (json "{'a':null}") (json "{'Object':{'optional':{'a':'Integer'},'required':{'b':'JSON'}}}") ≡ answer 21 1 0 50)
    × (check (json "{'a':null,'b':null}") (json "{'Object':{'optional':{'b':'Integer','a':'Integer'}}}") ≡ answer 20 1 14 27)
unfolding check_in
optional_order = (refl, refl, refl, refl, refl, refl)

-- names are compared after unescaping
escaped_names : (check (json "{'\\u0061':1}") (json "{'Object':{'required':{'a':'Integer'}}}") ≡ answer 0 0 0 0)
    × (check (json "{'a':'1'}") (json "{'Object':{'required':{'\\u0061':'Integer'}}}") ≡ answer 20 1 5 32)
    × (check (json "{'\\u0041':1}") (json "{'Object':{'required':{'a':'JSON'}}}") ≡ answer 21 1 0 23)
unfolding check_in
escaped_names = (refl, refl, refl)

-- n arrays' definitions, one in the other
abbrev deep : ℕ → List ℕ
deep zero = json "'JSON'"
deep (suc n) = json "{'Array':" ++ (deep n ++ json "}")

-- a definition that a value is may be deeper than a schema may
deep_schema : (check (deep 25) (json "'Schema'") ≡ answer 0 0 0 0)
    × (check (json "1") (deep 25) ≡ answer 7 2 216 0)
    × (check (json "1") (deep 24) ≡ answer 20 1 0 0)
unfolding check_in
deep_schema = (refl, refl, refl)

-- ---- the order of Check: the schema wholly, then the document, then the misfits

order : (check (json "[") (json "[") ≡ answer 2 2 1 0)
    × (check (json "[") (json "[]") ≡ answer 10 2 0 0)
    × (check (json "[") (json "'String'") ≡ answer 2 1 1 0)
    × (check (json "1]") (json "'String'") ≡ answer 3 1 1 0)
    × (check (json "1") (json "'String'") ≡ answer 20 1 0 0)
    × (check (json "[") (replicate 16385 0x20) ≡ answer 1 2 16384 0)
    × (check (replicate 65537 0x20) (json "'JSON'") ≡ answer 1 1 65536 0)
unfolding check_in
order = (refl, refl, refl, refl, refl, refl, refl)

-- a string that is refused has the number of the paper's table
refused_strings : (check (0x22 ∷ 0xC0 ∷ 0x80 ∷ 0x22 ∷ []) (json "'String'") ≡ answer 4 1 1 0)
    × (check (json "'\\ud83d'") (json "'String'") ≡ answer 5 1 7 0)
    × (check (json "'\\udc00'") (json "'String'") ≡ answer 5 1 4 0)
unfolding check_in
refused_strings = (refl, refl, refl)

-- room in the schema's table before 10 to 12, in the document's after the schema was taken wholly, and before the misfits
room : (check_in 0 0 (json "[") (json "[") ≡ answer 2 2 1 0)
    × (check_in 0 5 (json "[") (json "1") ≡ answer 8 2 0 1)
    × (check_in 0 17 (json "1") (json "{'Array':1}") ≡ answer 8 2 0 3)
    × (check_in 0 18 (json "1") (json "{'Array':1}") ≡ answer 10 2 9 0)
    × (check_in 5 6 (json "[") (json "'String'") ≡ answer 2 1 1 0)
    × (check_in 11 6 (json "[1]") (json "'String'") ≡ answer 8 1 0 2)
    × (check_in 12 6 (json "[1]") (json "'String'") ≡ answer 20 1 0 0)
    × (check_in 6 11 (json "1") (json "'Integer'") ≡ answer 0 0 0 0)
unfolding check_in
room = (refl, refl, refl, refl, refl, refl, refl, refl)

-- ---- the document's table

-- it holds the rows after 0 and after 20 to 22; it is as found where the document is refused or has no room, and where it is not reached
tables : (check_table (replicate 7 9) 6 (json "1") (json "'Integer'") ≡ 4 ∷ 0 ∷ 1 ∷ 0 ∷ 1 ∷ 0 ∷ 9 ∷ [])
    × (check_table (replicate 6 9) 6 (json "1") (json "'String'") ≡ 4 ∷ 0 ∷ 1 ∷ 0 ∷ 1 ∷ 0 ∷ [])
    × (check_table (replicate 6 9) 6 (json "[") (json "'JSON'") ≡ replicate 6 9)
    × (check_table (replicate 6 9) 6 (json "[1]") (json "'JSON'") ≡ replicate 6 9)
    × (check_table (replicate 6 9) 6 (json "1") (json "'Json'") ≡ replicate 6 9)
    × (check_table (replicate 6 9) 5 (json "1") (json "'JSON'") ≡ replicate 6 9)
unfolding check_in check_table table_of
tables = (refl, refl, refl, refl, refl, refl)

-- ---- dates (02, L3)

-- how many, the earliest and the latest
dates_in : List ℕ → List ℕ → List ℤ
unfolding check_in check_moments earliest latest least_of greatest_of utc_day moment day_number day_count first_years first_months
dates_in document schema = dates_of (check_moments 16380 16380 document schema)

none_dated : List ℤ
none_dated = pos 0 ∷ pos 0 ∷ pos 0 ∷ []

-- what is judged as DateTime counts, each value once; a string under another type or no name does not
judged_dates :
    (dates_in (json "['1970-01-01T00:00:01Z','1969-12-31T23:59:59.5Z','1970-01-01T00:00:01Z']") (json "{'Array':'DateTime'}") ≡ pos 3 ∷ neg_ℤ (pos 1) ∷ pos 1 ∷ [])
    × (dates_in (json "{'a':'1970-01-01T00:00:00+01:00','b':'1970-01-01T00:00:00Z','c':'2000-01-01T00:00:00Z'}")
    (json "{'Object':{'required':{'b':'String'},'optional':{'a':'DateTime'}}}") ≡ pos 1 ∷ neg_ℤ (pos 3600) ∷ neg_ℤ (pos 3600) ∷ [])
    × (dates_in (json "'2000-01-01T00:00:00Z'") (json "'JSON'") ≡ none_dated)
unfolding dates_in none_dated
judged_dates = (refl, refl, refl)

-- "all three are 0 [..] on every other code"
no_dates_lem :
    (dates_in (json "['2000-01-01T00:00:00Z',1]") (json "{'Array':'DateTime'}") ≡ none_dated)
    × (dates_in (json "['2000-01-01T00:00:00Z',''") (json "{'Array':'DateTime'}") ≡ none_dated)
    × (dates_in (json "['2000-01-01T00:00:00Z']") (json "{'Array':'Date'}") ≡ none_dated)
unfolding dates_in none_dated
no_dates_lem = (refl, refl, refl)

-- ---- the path (02, L11)

path_in : List ℕ → List ℕ → List ℕ
unfolding check_in check_path
path_in document schema = check_path 16380 16380 document schema

-- from the value up to the top: of 20 and 22 the value, of 21 the object; none on 0 and where a text is refused
paths_up : (path_in (json "1") (json "'String'") ≡ 0 ∷ [])
    × (path_in (json "[1,[2,'x']]") (json "{'Array':{'Array':'Integer'}}") ≡ 1 ∷ 0 ∷ [])
    × (path_in (json "[[1],[2,'x']]") (json "{'Array':{'Array':'Integer'}}") ≡ 5 ∷ 3 ∷ 0 ∷ [])
    × (path_in (json "{'a':[1,true]}") (json "{'Map':{'Array':'Integer'}}") ≡ 4 ∷ 2 ∷ 0 ∷ [])
    × (path_in (json "{'b':0,'a':[{}]}") (json "{'Object':{'required':{'a':{'Array':{'Object':{'required':{'c':'JSON'}}}}}}}") ≡ 5 ∷ 4 ∷ 0 ∷ [])
    × (path_in (json "{'a':'2026-04-31T07:00:00Z'}") (json "{'Map':'DateTime'}") ≡ 2 ∷ 0 ∷ [])
    × (path_in (json "1") (json "'Integer'") ≡ [])
    × (path_in (json "[1") (json "'Integer'") ≡ [])
    × (path_in (json "1") (json "'integer'") ≡ [])
unfolding path_in
paths_up = (refl, refl, refl, refl, refl, refl, refl, refl, refl)
