-- For private contracts: the definition that one has under a name, as the look-ups of fields.rt find it by rows.
use Rattle.std.specs.Prelude.{ℕ, ◌≤◌, ◌<◌, ◌≡◌, Bool, cond, List, length, Option, Some, None}
use Rattle.model.specs.Text.{same}
use Rattle.model.specs.Definition.{Def, named, array_of, map_of, object-of, Fields, fnil, fcons}
use Rattle.syntax.specs.Rows.{count_members}
use Rattle.definitions.specs.Definitions.{bare, bare_fields}
use Rattle.rows.specs.Records.{ObjectRow}
use Rattle.rows.specs.Matching.{most_names, member_name, found_at}
use Rattle.definitions.specs.declared.types.Generic.TheVariants.{Object}
use Rattle.definitions.specs.Shapes.{DefinedRow, GenericRow, FieldsRow}

-- ---- the definition under a name

-- the definition of the field with the name n
abbrev pub field_named : List ℕ → Fields → Option Def
field_named n fnil = None
field_named n (fcons m d fs) = cond (same n m) (Some d) (field_named n fs)

abbrev pub or_field : Option Def → Option Def → Option Def
or_field None y = y
or_field (Some d) y = Some d

-- the definition that one has under the name n, of a required name only or of any
abbrev pub definition_under : Bool → Def → List ℕ → Option Def
definition_under required (named t) n = None
definition_under required (array_of d) n = None
definition_under required (map_of d) n = cond required None (Some d)
definition_under required (object-of r o) n = cond required (field_named n r) (or_field (field_named n r) (field_named n o))

-- the row of a definition, where there is one
abbrev pub Gives : List ℕ → List ℕ → Option ℕ → Option Def → Type 0
Gives s t None None = Unit {0}
Gives s t None (Some d) = ⊥
Gives s t (Some v) None = ⊥
Gives s t (Some v) (Some d) = (0 < v) × (e : DefinedRow s t v) × (bare e.definition ≡ d)

pub record FindsField (s t : List ℕ) (r : Option ℕ) (key : List ℕ) (v : Option ℕ) : Type 0 where
  pub tells : (f : FieldsRow s t r) → Gives s t v (field_named key (bare_fields f.fields))

pub record FindsUnder (s t : List ℕ) (r : ℕ) (key : List ℕ) (required : Bool) (v : Option ℕ) : Type 0 where
  pub tells : (d : DefinedRow s t r) → Gives s t v (definition_under required (bare d.definition) key)

-- what stands under each name of the object at row r₂ in the fields at row r₁: what was found before, vs, stays
pub record MatchesFields (s₁ t₁ : List ℕ) (r₁ : Option ℕ) (s₂ t₂ : List ℕ) (r₂ : ℕ) (vs vs₂ : List (Option ℕ)) : Type 0 where
  pub long : length vs₂ ≡ length vs
  pub fresh : (o : ObjectRow s₂ t₂ r₂) (j : ℕ) → j < count_members o.members → found_at vs j ≡ None
      → FindsField s₁ t₁ r₁ (member_name s₂ o.members j) (found_at vs₂ j)
  pub kept : (o : ObjectRow s₂ t₂ r₂) (j : ℕ) → j < count_members o.members → {w : ℕ} → found_at vs j ≡ Some w → found_at vs₂ j ≡ found_at vs j

-- the same in the definition at row r₁
pub record MatchesUnder (s₁ t₁ : List ℕ) (r₁ : ℕ) (s₂ t₂ : List ℕ) (r₂ : ℕ) (required : Bool) (vs : List (Option ℕ)) : Type 0 where
  pub tells : (o : ObjectRow s₂ t₂ r₂) (j : ℕ) → j < count_members o.members → FindsUnder s₁ t₁ r₁ (member_name s₂ o.members j) required (found_at vs j)

-- an Object with many names, beside n others for which there is room
pub record ManyNames (s t : List ℕ) (r n : ℕ) : Type 0 where
  pub is : GenericRow s t r (Some Object)
  pub few : n ≤ most_names
