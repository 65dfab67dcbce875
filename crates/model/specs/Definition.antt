-- Type definitions (01, "Definitions"; Teleport draft-04), and which value is which definition, of any length and depth.
use Rattle.std.specs.Prelude.{ℕ, Bool, true, false, not, cond, ◌&&◌, ◌||◌, List}
use Rattle.std.proofs.Math.Option.{Option, none, some}
use Rattle.model.specs.Text.{text, same}
use Rattle.model.specs.Value.{Value, null, boolean, number, string, array, object, Members, mnil, mcons}

-- "one of the strings JSON, Schema, Float, Integer, String, Boolean, DateTime"
pub data Named : Type 0 where
  JSON Schema Float Integer String Boolean DateTime : Named
  deriving Discrete as Named-discrete

-- "or an object with exactly one member, named Array, Map or Object"
mutual
  pub data Def : Type 0 where
    named : Named → Def
    array_of : Def → Def
    map_of : Def → Def
    object-of : Fields → Fields → Def  -- the required and the optional fields

  -- each field is a name and the definition under it
  pub data Fields : Type 0 where
    fnil : Fields
    fcons : List ℕ → Def → Fields → Fields

-- some field has the name n
abbrev pub has_field : List ℕ → Fields → Bool
has_field n fnil = false
has_field n (fcons m d fs) = same n m || has_field n fs

-- "share no name": no name of the second is one of the first
abbrev pub disjoint : Fields → Fields → Bool
disjoint r fnil = true
disjoint r (fcons n d fs) = not (has_field n r) && disjoint r fs

-- the type that a string names: "after unescaping, exact case"
abbrev pub named_by : List ℕ → Option Named
named_by s =
    cond (same s (text "JSON")) (some JSON)
    (cond (same s (text "Schema")) (some Schema)
    (cond (same s (text "Float")) (some Float)
    (cond (same s (text "Integer")) (some Integer)
    (cond (same s (text "String")) (some String)
    (cond (same s (text "Boolean")) (some Boolean)
    (cond (same s (text "DateTime")) (some DateTime) none))))))

abbrev pub is_empty : Members → Bool
is_empty mnil = true
is_empty (mcons n v ms) = false

abbrev pub mapped : {A B : Type 0} → (A → B) → Option A → Option B
mapped f none = none
mapped f (some a) = some (f a)

-- a further field, where it and the others are defined
abbrev pub added : List ℕ → Option Def → Option Fields → Option Fields
added n none fs = none
added n (some d) none = none
added n (some d) (some fs) = some (fcons n d fs)

-- an Object definition, where both parts are defined and share no name
abbrev pub joined : Option Fields → Option Fields → Option Def
joined none o = none
joined (some r) none = none
joined (some r) (some o) = cond (disjoint r o) (some (object-of r o)) none

-- the definition with the one member of the name n; d is the member's value as a definition, o the one that it gives under Object
abbrev pub constructed : List ℕ → Option Def → Option Def → Option Def
constructed n d o =
    cond (same n (text "Array")) (mapped array_of d)
    (cond (same n (text "Map")) (mapped map_of d)
    (cond (same n (text "Object")) o none))

-- the definition that a value is, if it is one ("Schema: when it is a definition, of any length and depth")
abbrev mutual
  pub definition_of : Value → Option Def
  definition_of null = none
  definition_of (boolean b) = none
  definition_of (number s) = none
  definition_of (string s) = mapped named (named_by s)
  definition_of (array vs) = none
  definition_of (object ms) = single ms

  -- "an object with exactly one member"
  pub single : Members → Option Def
  single mnil = none
  single (mcons n v ms) = cond (is_empty ms) (constructed n (definition_of v) (object_of v)) none

  -- "Under Object stands an object"; "Other members there are ignored, whatever they hold."
  pub object_of : Value → Option Def
  object_of null = none
  object_of (boolean b) = none
  object_of (number s) = none
  object_of (string s) = none
  object_of (array vs) = none
  object_of (object ms) = joined (fields_under (text "required") ms) (fields_under (text "optional") ms)

  -- the fields under "required" or "optional": "absent has no names"
  pub fields_under : List ℕ → Members → Option Fields
  fields_under k mnil = some fnil
  fields_under k (mcons n v ms) = cond (same k n) (fields_of v) (fields_under k ms)

  -- "objects with a definition under each name"
  pub fields_of : Value → Option Fields
  fields_of null = none
  fields_of (boolean b) = none
  fields_of (number s) = none
  fields_of (string s) = none
  fields_of (array vs) = none
  fields_of (object ms) = fields_in ms

  pub fields_in : Members → Option Fields
  fields_in mnil = some fnil
  fields_in (mcons n v ms) = added n (definition_of v) (fields_in ms)
