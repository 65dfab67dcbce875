-- What is judged of a value under a definition, in which order, and the first mismatch, with places (01, "Definitions": "First misfit"). 01's
-- term is misfit.
use Rattle.std.specs.Prelude.{ℕ, Bool, true, false, cond, List, [], ◌∷◌, ◌++◌, Option, Some, None, Result, Ok, Err}
use Rattle.model.specs.Definition.{Named, JSON, Schema, Float, Integer, String, Boolean, DateTime, definition_of}
use Rattle.model.specs.Date.{is_date}
use Rattle.model.specs.Meeting.{is_some}
use Rattle.tokens.specs.declared.tokens.Kind.{Kind}
use Rattle.tokens.specs.declared.tokens.Kind.TheVariants.{Null, False, True, Whole, Fractional, Quoted}
use Rattle.syntax.specs.Tree.{Node, scalar, array, object, Nodes, none as no_Node, more, Members, no_member, member, place_of}
use Rattle.syntax.specs.Grammar.{name_of}
use Rattle.syntax.specs.Spelling.{value_of}
use Rattle.rows.specs.Finding.{lookup}
use Rattle.definitions.specs.Definitions.{Located, named-at, array_at, map_at, object-at, LocatedFields, no_field, field}
use Rattle.schema.specs.declared.judging.MismatchCode.{MismatchCode}
use Rattle.schema.specs.declared.judging.MismatchCode.TheVariants.{WrongKind, MissingName, NoDate}
use Rattle.schema.specs.declared.judging.Mismatch.{Mismatch}

-- the numbers of the codes in an answer
abbrev pub mismatch_number : MismatchCode → ℕ
mismatch_number WrongKind = 20
mismatch_number MissingName = 21
mismatch_number NoDate = 22

-- code, place in the document, other in the schema
abbrev pub mismatch : MismatchCode → ℕ → ℕ → Mismatch
mismatch code place other = record { code = code; place = place; other = other }

-- what judging comes to: a mismatch, or none
abbrev pub Judgement : Type 0
Judgement = Result (Unit {0}) Mismatch

-- the value meets the definition
abbrev pub nothing : Judgement
nothing = Ok tt

abbrev pub mismatched : MismatchCode → ℕ → ℕ → Judgement
mismatched code place other = Err (mismatch code place other)

-- the first of two counts
abbrev pub or_else : Judgement → Judgement → Judgement
or_else (Ok u) b = b
or_else (Err m) b = Err m

-- a mismatch for a wrong kind of value, at its first byte and by the definition's, where the test fails
abbrev pub unless : Bool → ℕ → ℕ → Judgement
unless ok place other = cond ok nothing (mismatched WrongKind place other)

-- "Integer takes kind 4 only, Float kinds 4 and 5"
abbrev pub is_whole : Kind → Bool
is_whole Null = false
is_whole False = false
is_whole True = false
is_whole Whole = true
is_whole Fractional = false
is_whole Quoted = false

abbrev pub is_number : Kind → Bool
is_number Null = false
is_number False = false
is_number True = false
is_number Whole = true
is_number Fractional = true
is_number Quoted = false

abbrev pub is_string : Kind → Bool
is_string Null = false
is_string False = false
is_string True = false
is_string Whole = false
is_string Fractional = false
is_string Quoted = true

abbrev pub is_boolean : Kind → Bool
is_boolean Null = false
is_boolean False = true
is_boolean True = true
is_boolean Whole = false
is_boolean Fractional = false
is_boolean Quoted = false

-- a test of a value's kind, which no array and no object passes
abbrev pub if_scalar : (Kind → Bool) → Node → Bool
if_scalar p (scalar k f e) = p k
if_scalar p (array f e ns) = false
if_scalar p (object f e ms) = false

-- "Under DateTime a value that isn't a string is 20"; a string that is no date is 22 at its opening quote
abbrev pub date_of : List ℕ → ℕ → Kind → ℕ → ℕ → Judgement
date_of s p Null f e = mismatched WrongKind f p
date_of s p False f e = mismatched WrongKind f p
date_of s p True f e = mismatched WrongKind f p
date_of s p Whole f e = mismatched WrongKind f p
date_of s p Fractional f e = mismatched WrongKind f p
date_of s p Quoted f e = cond (is_date (name_of s f e)) nothing (mismatched NoDate f p)

abbrev pub date_at : List ℕ → ℕ → Node → Judgement
date_at s p (scalar k f e) = date_of s p k f e
date_at s p (array f e ns) = mismatched WrongKind f p
date_at s p (object f e ms) = mismatched WrongKind f p

-- a definition at p that is a type name; "Schema takes every value that is a definition; any other is 20 at that value"
abbrev pub named_at : List ℕ → ℕ → Named → Node → Judgement
named_at s p JSON n = nothing
named_at s p Schema n = unless (is_some (definition_of (value_of s n))) (place_of n) p
named_at s p Float n = unless (if_scalar is_number n) (place_of n) p
named_at s p Integer n = unless (if_scalar is_whole n) (place_of n) p
named_at s p String n = unless (if_scalar is_string n) (place_of n) p
named_at s p Boolean n = unless (if_scalar is_boolean n) (place_of n) p
named_at s p DateTime n = date_at s p n

-- an array, an object
abbrev pub is_array : Node → Bool
is_array (scalar k f e) = false
is_array (array f e ns) = true
is_array (object f e ms) = false

abbrev pub is_object : Node → Bool
is_object (scalar k f e) = false
is_object (array f e ns) = false
is_object (object f e ms) = true

-- ---- what is judged

-- a value, by the definition that it stands under; or a required name that is missing: the brace of the object, and the opening quote of the name
-- in the schema
pub data Visit : Type 0 where
  value-by : Located → Node → Visit
  missing_name : ℕ → ℕ → Visit

-- "A value's kind is judged before what it holds": code 20, and under DateTime 22; code 21 for a name
abbrev pub mismatch_of : List ℕ → Visit → Judgement
mismatch_of s (value-by (named-at p t) n) = named_at s p t n
mismatch_of s (value-by (array_at p d) n) = unless (is_array n) (place_of n) p
mismatch_of s (value-by (map_at p d) n) = unless (is_object n) (place_of n) p
mismatch_of s (value-by (object-at p r o) n) = unless (is_object n) (place_of n) p
mismatch_of s (missing_name brace q) = mismatched MissingName brace q

-- what is judged in a value that is an array, or an object
abbrev pub in_array : Node → (Nodes → List Visit) → List Visit
in_array (scalar k f e) v = []
in_array (array f e ns) v = v ns
in_array (object f e ms) v = []

abbrev pub in_object : Node → (Members → List Visit) → List Visit
in_object (scalar k f e) v = []
in_object (array f e ns) v = []
in_object (object f e ms) v = v ms

-- "Array by element, Map by member, in document order"
abbrev pub each_element : (Node → List Visit) → Nodes → List Visit
each_element v no_Node = []
each_element v (more n ns) = v n ++ each_element v ns

abbrev pub each_member : (Node → List Visit) → Members → List Visit
each_member v no_member = []
each_member v (member f e n ms) = v n ++ each_member v ms

-- what is judged by a name: the value under it, where it is present
abbrev pub at_name : Option Node → List Visit → (Node → List Visit) → List Visit
at_name None absent v = absent
at_name (Some n) absent v = v n

-- a required name is missing in the object at a brace; an optional one may be absent
abbrev pub missing : ℕ → ℕ → List Visit
missing brace q = missing_name brace q ∷ []

abbrev pub skipped : ℕ → List Visit
skipped q = []

abbrev mutual
  -- all that is judged of a value of the text s under a definition, in this order
  pub visits : List ℕ → Located → Node → List Visit
  visits s (named-at p t) n = value-by (named-at p t) n ∷ []
  visits s (array_at p d) n = value-by (array_at p d) n ∷ in_array n (λ ns. each_element (λ m. visits s d m) ns)
  visits s (map_at p d) n = value-by (map_at p d) n ∷ in_object n (λ ms. each_member (λ m. visits s d m) ms)
  visits s (object-at p r o) n =
      value-by (object-at p r o) n ∷ in_object n (λ ms. field_visits s (missing (place_of n)) r ms ++ field_visits s skipped o ms)

  -- "names of "required" in schema order, each missing (21) or judged; then those of "optional" that are present, in schema order"
  pub field_visits : List ℕ → (ℕ → List Visit) → LocatedFields → Members → List Visit
  field_visits s absent no_field ms = []
  field_visits s absent (field q k d fs) ms = at_name (lookup s k ms) (absent q) (λ m. visits s d m) ++ field_visits s absent fs ms

-- ---- the first that fails

-- of what is judged, that of the first that fails
abbrev pub first_mismatch : List ℕ → List Visit → Judgement
first_mismatch s [] = nothing
first_mismatch s (v ∷ vs) = or_else (mismatch_of s v) (first_mismatch s vs)

-- the first mismatch of a value of the text s
abbrev pub mismatch_at : List ℕ → Located → Node → Judgement
mismatch_at s d n = first_mismatch s (visits s d n)
