-- Worked examples of `witness`, computed: those of 01's table that are not carried, and others.
use Prim.Native.String.{String}
use mathlib.Core.Path.{◌≡◌, refl}
use mathlib.Core.Bool.{Bool, true, false, not, ◌&&◌}
use mathlib.Core.Option.{Option, none, some}
use Rattle.model.specs.Text.{text}
use Rattle.model.specs.Value.{Value, null, number, string, array, object, vnil, vcons, mnil, mcons}
use Rattle.model.specs.Definition.{Def, named, object-of, fnil, fcons, JSON, definition_of}
use Rattle.model.specs.Meeting.{is_some}
use Rattle.model.specs.Subtype.{subtype}
use Rattle.model.specs.Witness.{fresh, witness}
use Rattle.model.proofs.Deciding.{meets}

-- a schema as a value: a name, and an object with one member
abbrev t : String → Value
t s = string (text s)

abbrev ◌∶◌ : String → Value → Value
n ∶ v = object (mcons (text n) v mnil)

infixr 40 ◌∶◌
abbrev between : {A : Type 0} → (Def → Def → A) → Option Def → Option Def → Option A
between f none b = none
between f (some a) none = none
between f (some a) (some b) = some (f a b)

-- the witness of a new and an old schema, where both are definitions
abbrev shown : Value → Value → Option Value
shown new old = between witness (definition_of new) (definition_of old)

-- it meets the new definition and fails the old one
abbrev tells : Def → Def → Bool
tells a b = not (subtype a b) && meets a (witness a b) && not (meets b (witness a b))

abbrev told : Value → Value → Option Bool
told new old = between tells (definition_of new) (definition_of old)

-- an object value with two members
abbrev pair : String → Value → String → Value → Value
pair m v n w = object (mcons (text m) v (mcons (text n) w mnil))

abbrev half : Value
half = number (text "0.5")

abbrev whole : Value
whole = number (text "0")

abbrev any : Value
any = "Object" ∶ object mnil

abbrev required : Value → Value
required v = "Object" ∶ "required" ∶ v

abbrev optional : Value → Value
optional v = "Object" ∶ "optional" ∶ v

-- the rows of 01's table that are 30
rows :
    (shown (t "Float") (t "Integer") ≡ some half)
    × (shown (t "Schema") (t "String") ≡ some ("Array" ∶ t "JSON"))
    × (shown any (optional ("a" ∶ t "String")) ≡ some ("a" ∶ null))
    × (shown (required ("a" ∶ t "Integer")) ("Map" ∶ t "Integer") ≡ some (pair "aa" null "a" whole))
    × (shown (optional ("a" ∶ t "Float")) (required ("a" ∶ t "Float")) ≡ some (object mnil))
rows = (refl, refl, refl, refl, refl)

-- others: a path to what fails, with the other required members beside it
others :
    (shown (t "JSON") ("Array" ∶ t "JSON") ≡ some null)
    × (shown ("Array" ∶ t "JSON") (t "Boolean") ≡ some (array vnil))
    × (shown ("Array" ∶ "Map" ∶ t "Float") ("Array" ∶ "Map" ∶ t "Integer") ≡ some (array (vcons ("a" ∶ half) vnil)))
    × (shown ("Map" ∶ t "Integer") (optional ("x" ∶ t "String")) ≡ some ("x" ∶ whole))
    × (shown ("Map" ∶ t "Schema") (t "Schema") ≡ some (object mnil))
    × (shown (required ("Array" ∶ t "Schema")) (t "Schema") ≡ some (pair "a" null "Array" (t "JSON")))
    × (shown (required ("a" ∶ t "DateTime")) ("Array" ∶ t "JSON") ≡ some ("a" ∶ t "2000-01-01T00:00:00Z"))
    × (shown (required (pair "a" (t "Integer") "b" ("Map" ∶ t "Float"))) (required ("b" ∶ "Map" ∶ t "Integer")) ≡ some (pair "b" ("a" ∶ half) "a" whole))
others = (refl, refl, refl, refl, refl, refl, refl, refl)

-- what the new definition does not ask for is missing in its sample, if no field before it fails
missing :
    (shown (required ("a" ∶ "Array" ∶ t "Float")) (required (pair "a" ("Array" ∶ t "Float") "b" (t "JSON"))) ≡ some ("a" ∶ array vnil))
    × (shown (required ("a" ∶ "Array" ∶ t "Float")) (required (pair "b" (t "JSON") "a" ("Array" ∶ t "Integer"))) ≡ some ("a" ∶ array vnil))
    × (shown (required ("a" ∶ "Array" ∶ t "Float")) (required (pair "a" ("Array" ∶ t "Integer") "b" (t "JSON"))) ≡ some ("a" ∶ array (vcons half vnil)))
missing = (refl, refl, refl)

-- a name that is none of a, aab and b
names : fresh (object-of (fcons (text "a") (named JSON) fnil) (fcons (text "aab") (named JSON) (fcons (text "b") (named JSON) fnil))) ≡ text "ab"
names = refl

-- they meet the new definition and fail the old one
tests :
    (told (t "Float") (t "Integer") ≡ some true)
    × (told (t "Schema") (t "String") ≡ some true)
    × (told any (optional ("a" ∶ t "String")) ≡ some true)
    × (told (required ("a" ∶ t "Integer")) ("Map" ∶ t "Integer") ≡ some true)
    × (told (optional ("a" ∶ t "Float")) (required ("a" ∶ t "Float")) ≡ some true)
    × (told (required ("Array" ∶ t "Schema")) (t "Schema") ≡ some true)
    × (told (required (pair "a" (t "Integer") "b" ("Map" ∶ t "Float"))) (required ("b" ∶ "Map" ∶ t "Integer")) ≡ some true)
tests = (refl, refl, refl, refl, refl, refl, refl)

-- where the new is carried, the witness is some value and tells nothing
carried :
    (is_some (shown (t "Integer") (t "Float")) ≡ true)
    × (is_some (shown any ("Map" ∶ t "JSON")) ≡ true)
    × (is_some (shown any (t "json")) ≡ false)
    × (told (t "Integer") (t "Float") ≡ some false)
    × (told any ("Map" ∶ t "JSON") ≡ some false)
carried = (refl, refl, refl, refl, refl)
