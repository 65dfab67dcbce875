-- Which values meet a definition (01, "Meeting").
use Rattle.std.specs.Prelude.{ℕ, ◌≡◌, Bool, true, false, List}
use Rattle.std.proofs.Math.Option.{Option, none, some}
use Rattle.model.specs.Value.{Value, null, boolean, number, string, array, object, Values, Members, Among, Under, has_name, is_integer}
use Rattle.model.specs.Date.{is_date}
use Rattle.model.specs.Definition.{Named, JSON, Schema, Float, Integer, String, Boolean, DateTime, Def, named, array_of, map_of}
use Rattle.model.specs.Definition.{object-of, Fields, fnil, fcons, definition_of}

abbrev pub is_some : {A : Type 0} → Option A → Bool
is_some none = false
is_some (some a) = true

-- a test of a number's spelling, which no other value passes
abbrev pub if_number : (List ℕ → Bool) → Value → Bool
if_number p null = false
if_number p (boolean b) = false
if_number p (number s) = p s
if_number p (string s) = false
if_number p (array vs) = false
if_number p (object ms) = false

-- a test of a string's characters, which no other value passes
abbrev pub if_string : (List ℕ → Bool) → Value → Bool
if_string p null = false
if_string p (boolean b) = false
if_string p (number s) = false
if_string p (string s) = p s
if_string p (array vs) = false
if_string p (object ms) = false

abbrev pub if_boolean : Value → Bool
if_boolean null = false
if_boolean (boolean b) = true
if_boolean (number s) = false
if_boolean (string s) = false
if_boolean (array vs) = false
if_boolean (object ms) = false

-- a property of an array's elements, which no other value has
abbrev pub IfArray : (Values → Type 0) → Value → Type 0
IfArray P null = ⊥
IfArray P (boolean b) = ⊥
IfArray P (number s) = ⊥
IfArray P (string s) = ⊥
IfArray P (array vs) = P vs
IfArray P (object ms) = ⊥

-- a property of an object's members, which no other value has
abbrev pub IfObject : (Members → Type 0) → Value → Type 0
IfObject P null = ⊥
IfObject P (boolean b) = ⊥
IfObject P (number s) = ⊥
IfObject P (string s) = ⊥
IfObject P (array vs) = ⊥
IfObject P (object ms) = P ms

-- the lines of 01, "Meeting", from JSON to DateTime
abbrev pub meets_named : Named → Value → Bool
meets_named JSON v = true
meets_named Schema v = is_some (definition_of v)
meets_named Float v = if_number (λ s. true) v
meets_named Integer v = if_number is_integer v
meets_named String v = if_string (λ s. true) v
meets_named Boolean v = if_boolean v
meets_named DateTime v = if_string is_date v

-- "has every name of "required""
abbrev pub HasNames : Fields → Members → Type 0
HasNames fnil ms = Unit
HasNames (fcons n d fs) ms = (has_name n ms ≡ true) × HasNames fs ms

-- "Array: when it is a list of values, perhaps empty, that all meet"; "Map: .. whose values all meet";
-- "Object: .. every name of "required", and under each name of "required" or "optional" that it has stands a value that meets the definition there"
abbrev mutual
  pub Meets : Def → Value → Type 0
  Meets (named t) v = meets_named t v ≡ true
  Meets (array_of d) v = IfArray (λ vs. (w : Value) → Among w vs → Meets d w) v
  Meets (map_of d) v = IfObject (λ ms. (n : List ℕ) (w : Value) → Under n w ms → Meets d w) v
  Meets (object-of r o) v = IfObject (λ ms. HasNames r ms × FieldsMeet r ms × FieldsMeet o ms) v

  -- under each name of the fields that the members have stands a value that meets the definition there
  pub FieldsMeet : Fields → Members → Type 0
  FieldsMeet fnil ms = Unit
  FieldsMeet (fcons n d fs) ms = ((w : Value) → Under n w ms → Meets d w) × FieldsMeet fs ms
