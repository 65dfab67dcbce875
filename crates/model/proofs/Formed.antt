-- The definition that a JSON value is has names that are texts and differ, and none both required and optional.
use Prim.Native.Nat.{ℕ}
use mathlib.Core.Path.{◌≡◌, refl, subst, ap}
use mathlib.Core.Bool.{true, false, ◌||◌}
use mathlib.Core.Option.{Option, none, some}
use mathlib.Core.List.{List}
use Rattle.model.specs.Text.{text, same, is_text}
use Rattle.model.specs.Value.{Value, null, boolean, number, string, array, object, Members, mnil, mcons, has_name, IsJson, AreMembers}
use Rattle.model.specs.Definition.{Def, named, array_of, map_of, object-of, Fields, fnil, fcons, has_field, disjoint, named_by, is_empty}
use Rattle.model.specs.Definition.{mapped, added, joined, constructed, definition_of, single, object_of, fields_under, fields_of, fields_in}
use Rattle.model.proofs.Basics.{both}

-- a definition that some JSON value is: names are texts, differ, and are not both required and optional
abbrev mutual
  pub WellFormed : Def → Type 0
  WellFormed (named t) = Unit
  WellFormed (array_of d) = WellFormed d
  WellFormed (map_of d) = WellFormed d
  WellFormed (object-of r o) = AreFields r × AreFields o × (disjoint r o ≡ true)

  pub AreFields : Fields → Type 0
  AreFields fnil = Unit
  AreFields (fcons n d fs) = (is_text n ≡ true) × (has_field n fs ≡ false) × WellFormed d × AreFields fs

abbrev Formed : Option Def → Type 0
Formed none = Unit
Formed (some d) = WellFormed d

abbrev FormedFields : Option Fields → Type 0
FormedFields none = Unit
FormedFields (some fs) = AreFields fs

mapped_formed : {A : Type 0} (f : A → Def) (o : Option A) → ((a : A) → o ≡ some a → WellFormed (f a)) → Formed (mapped f o)
mapped_formed f none h = tt
mapped_formed f (some a) h = h a refl

of_some : (o : Option Def) → Formed o → (d : Def) → o ≡ some d → WellFormed d
of_some o h d e = subst Formed e h

constructed_formed : (n : List ℕ) (d o : Option Def) → Formed d → Formed o → Formed (constructed n d o)
constructed_formed n d o h k =
    both Formed (same n (text "Array")) (λ e. mapped_formed array_of d (of_some d h))
    (λ e. both Formed (same n (text "Map")) (λ f. mapped_formed map_of d (of_some d h))
    (λ f. both Formed (same n (text "Object")) (λ g. k) (λ g. tt)))

joined_formed : (r o : Option Fields) → FormedFields r → FormedFields o → Formed (joined r o)
joined_formed none o h k = tt
joined_formed (some r) none h k = tt
joined_formed (some r) (some o) h k = both Formed (disjoint r o) (λ e. (h, k, e)) (λ e. tt)

-- the fields have the members' names
abbrev SameNames : Members → Option Fields → Type 0
SameNames ms none = Unit
SameNames ms (some fs) = (n : List ℕ) → has_field n fs ≡ has_name n ms

added_names : (m : List ℕ) (v : Value) (ms : Members) (d : Option Def) (fs : Option Fields) → SameNames ms fs → SameNames (mcons m v ms) (added m d fs)
added_names m v ms none fs h = tt
added_names m v ms (some d) none h = tt
added_names m v ms (some d) (some fs) h = λ n. ap (λ b. same n m || b) (h n)

names_in : (ms : Members) → SameNames ms (fields_in ms)
names_in mnil = λ n. refl
names_in (mcons m v ms) = added_names m v ms (definition_of v) (fields_in ms) (names_in ms)

added_formed : (n : List ℕ) (ms : Members) (d : Option Def) (fs : Option Fields)
    → is_text n ≡ true → has_name n ms ≡ false → SameNames ms fs → Formed d → FormedFields fs → FormedFields (added n d fs)
added_formed n ms none fs t u s h k = tt
added_formed n ms (some d) none t u s h k = tt
added_formed n ms (some d) (some fs) t u s h k = (t, rw (s n) u, h, k)

mutual
  formed : (v : Value) → IsJson v → Formed (definition_of v)
  formed null j = tt
  formed (boolean b) j = tt
  formed (number s) j = tt
  formed (string s) j = mapped_formed named (named_by s) (λ t e. tt)
  formed (array vs) j = tt
  formed (object ms) j = single_formed ms j

  single_formed : (ms : Members) → AreMembers ms → Formed (single ms)
  single_formed mnil j = tt
  single_formed (mcons n v ms) j =
      both Formed (is_empty ms) (λ e. constructed_formed n (definition_of v) (object_of v) (formed v j.2) (object_formed v j.2)) (λ e. tt)

  object_formed : (v : Value) → IsJson v → Formed (object_of v)
  object_formed null j = tt
  object_formed (boolean b) j = tt
  object_formed (number s) j = tt
  object_formed (string s) j = tt
  object_formed (array vs) j = tt
  object_formed (object ms) j =
      joined_formed (fields_under (text "required") ms) (fields_under (text "optional") ms) (part_formed ms j (text "required")) (part_formed ms j (text "optional"))

  part_formed : (ms : Members) → AreMembers ms → (k : List ℕ) → FormedFields (fields_under k ms)
  part_formed mnil j k = tt
  part_formed (mcons n v ms) j k = both FormedFields (same k n) (λ e. fields_formed v j.2) (λ e. part_formed ms j.3 k)

  fields_formed : (v : Value) → IsJson v → FormedFields (fields_of v)
  fields_formed null j = tt
  fields_formed (boolean b) j = tt
  fields_formed (number s) j = tt
  fields_formed (string s) j = tt
  fields_formed (array vs) j = tt
  fields_formed (object ms) j = in_formed ms j

  in_formed : (ms : Members) → AreMembers ms → FormedFields (fields_in ms)
  in_formed mnil j = tt
  in_formed (mcons n v ms) j = added_formed n ms (definition_of v) (fields_in ms) j.0 j.1 (names_in ms) (formed v j.2) (in_formed ms j.3)

pub definition_formed : (v : Value) → IsJson v → (d : Def) → definition_of v ≡ some d → WellFormed d
definition_formed v j = of_some (definition_of v) (formed v j)
