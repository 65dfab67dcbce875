-- The examples of 01's table on dates and on Compare: those marked * in one statement, then the others. They speak of values, and of no step of the comparison.
use Prim.Native.String.{String}
use mathlib.Core.Path.{◌≡◌, refl}
use mathlib.Core.Bool.{Bool, true, false, false≢true}
use mathlib.Core.Option.{some}
use Rattle.model.specs.Text.{text, is_text}
use Rattle.model.specs.Value.{Value, string, object, mnil, mcons, IsJson}
use Rattle.model.specs.Definition.{DateTime, Def, named, definition_of}
use Rattle.model.specs.Meeting.{is_some, Meets}
use Rattle.model.specs.Carried.{Carried, NotCarried}
use Rattle.model.specs.Subtype.{subtype}
use Rattle.model.proofs.Theorem.{subtype_true, decided}

-- ---- a date is taken, or it is 22
abbrev pub Taken : String → Type 0
Taken s = Meets (named DateTime) (string (text s))

abbrev pub NotTaken : String → Type 0
NotTaken s = ¬ Meets (named DateTime) (string (text s))

-- ---- a schema as a value: a name, and an object with one member
abbrev pub t : String → Value
t s = string (text s)

abbrev pub ◌∶◌ : String → Value → Value
n ∶ v = object (mcons (text n) v mnil)

infixr 40 ◌∶◌
abbrev pub any : Value
any = "Object" ∶ object mnil

-- a new and an old schema are definitions a and b of which P holds: `Carried`, or for 30 `NotCarried`
pub record Between (P : Def → Def → Type 0) (new old : Value) : Type 0 where
  pub a : Def
  pub b : Def
  pub new_defines : definition_of new ≡ some a
  pub old_defines : definition_of old ≡ some b
  pub holds : P a b

-- by the decision on a and b, computed
carried : {new old : Value} {a b : Def} → definition_of new ≡ some a → definition_of old ≡ some b → subtype a b ≡ true → Between Carried new old
carried {a = a} {b = b} p q e = record { a = a; b = b; new_defines = p; old_defines = q; holds = subtype_true a b e }

not_carried : {new old : Value} {a b : Def} → IsJson new → IsJson old → definition_of new ≡ some a → definition_of old ≡ some b → subtype a b ≡ false
    → Between NotCarried new old
not_carried {new} {old} {a} {b} i j p q e =
    record { a = a; b = b; new_defines = p; old_defines = q; holds = (decided new old i j a b p q).not_carried e }

-- an Object definition with one field is a JSON value
field_json : (k s : String) → is_text (text k) ≡ true → is_text (text s) ≡ true → IsJson ("Object" ∶ k ∶ "a" ∶ t s)
field_json k s p q = (refl, refl, (p, refl, (refl, refl, q, tt), tt), tt)

-- ---- the rows marked *
pub examples :
    Taken "2024-04-30T23:59:59.5+02:00"
    × NotTaken "2024-04-31T08:00:00Z"
    × Taken "0000-02-29T00:00:00z"
    × NotTaken "1900-02-29T00:00:00Z"
    × Between Carried (t "Integer") (t "Float")
    × Between NotCarried (t "Float") (t "Integer")
    × Between Carried (t "DateTime") (t "String")
    × Between NotCarried (t "Schema") (t "String")
    × Between Carried any ("Map" ∶ t "JSON")
    × Between Carried ("Map" ∶ t "JSON") any
    × Between NotCarried any ("Object" ∶ "optional" ∶ "a" ∶ t "String")
    × Between Carried ("Map" ∶ t "Integer") ("Object" ∶ "optional" ∶ "a" ∶ t "Float")
    × Between NotCarried ("Object" ∶ "required" ∶ "a" ∶ t "Integer") ("Map" ∶ t "Integer")
examples = (
  refl,
  false≢true,
  refl,
  false≢true,
  carried refl refl refl,
  not_carried refl refl refl refl refl,
  carried refl refl refl,
  not_carried refl refl refl refl refl,
  carried refl refl refl,
  carried refl refl refl,
  not_carried (refl, refl, tt, tt) (field_json "optional" "String" refl refl) refl refl refl,
  carried refl refl refl,
  not_carried (field_json "required" "Integer" refl refl) (refl, refl, refl, tt) refl refl refl,
)

-- ---- the rows not marked
unmarked :
    NotTaken "2024-04-30"
    × NotTaken "2024-04-30 08:00:00Z"
    × NotTaken "2024-04-30T24:00:00Z"
    × NotTaken "2024-04-30T08:00:00+24:00"
    × NotTaken "2024-04-30T00:00:00.Z"
    × Between Carried any ("Object" ∶ "optional" ∶ "a" ∶ t "JSON")
    × Between Carried ("Object" ∶ "required" ∶ "a" ∶ t "Float") ("Object" ∶ "optional" ∶ "a" ∶ t "Float")
    × Between NotCarried ("Object" ∶ "optional" ∶ "a" ∶ t "Float") ("Object" ∶ "required" ∶ "a" ∶ t "Float")
unmarked = (
  false≢true,
  false≢true,
  false≢true,
  false≢true,
  false≢true,
  carried refl refl refl,
  carried refl refl refl,
  not_carried (field_json "optional" "Float" refl refl) (field_json "required" "Float" refl refl) refl refl refl,
)

-- ---- definitions
abbrev is_definition : Value → Bool
is_definition v = is_some (definition_of v)

-- what is a definition: exactly one member; other members under Object are ignored; no name both required and optional
definitions :
    (is_definition (t "json") ≡ false)
    × (is_definition (object mnil) ≡ false)
    × (is_definition (object (mcons (text "Array") (t "JSON") (mcons (text "Map") (t "JSON") mnil))) ≡ false)
    × (is_definition ("List" ∶ t "JSON") ≡ false)
    × (is_definition ("Object" ∶ "anything" ∶ object mnil) ≡ true)
    × (is_definition ("Object" ∶ "required" ∶ t "JSON") ≡ false)
    × (is_definition ("Object" ∶ object (mcons (text "optional") ("a" ∶ t "JSON") (mcons (text "required") ("a" ∶ t "JSON") mnil))) ≡ false)
    × (is_definition ("Object" ∶ object (mcons (text "optional") ("a" ∶ t "JSON") (mcons (text "required") ("b" ∶ t "JSON") mnil))) ≡ true)
definitions = (refl, refl, refl, refl, refl, refl, refl, refl)
