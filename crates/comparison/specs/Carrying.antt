-- For private contracts: what the walk over two definitions is given, and what it answers (carrying.rt).
use Rattle.std.specs.Prelude.{ℕ, ◌+◌, ◌<◌, Bool, false, cond, List, ◌≡◌, Option, Some, None}
use Rattle.model.specs.Definition.{Named, JSON as json, Schema as schema, Float as float, Integer as integer, String as string}
use Rattle.model.specs.Definition.{Boolean as boolean, DateTime as dateTime, Def, named, JSON, Fields, fnil, fcons}
use Rattle.model.specs.Subtype.{is, subtype_named, subtype}
use Rattle.definitions.specs.declared.types.TypeName.{TypeName}
use Rattle.definitions.specs.declared.types.TypeName.TheVariants.{Json, Schema, Float, Integer, Text, Boolean, DateTime}
use Rattle.definitions.specs.declared.types.Generic.{Generic}
use Rattle.tokens.specs.Spelling.{IsQuoted}
use Rattle.syntax.specs.Grammar.{name_of}
use Rattle.syntax.specs.Holding.{word}
use Rattle.definitions.specs.Definitions.{bare, bare_fields}
use Rattle.rows.specs.Records.{InTable}
use Rattle.definitions.specs.Shapes.{DefinedRow, GenericRow, FieldsRow}
use Rattle.comparison.specs.Fields.{definition_under}

-- ---- type names

-- the type that a name stands for
abbrev pub named_of : TypeName → Named
named_of Json = json
named_of Schema = schema
named_of Float = float
named_of Integer = integer
named_of Text = string
named_of Boolean = boolean
named_of DateTime = dateTime

-- a definition that names the first type, or none, is carried to one that names the second: where the new one names none, only JSON takes all its values
unfoldable pub subtype_name : Option TypeName → Option TypeName → Bool
subtype_name s None = false
subtype_name None (Some t) = is (named_of t) json
subtype_name (Some s) (Some t) = subtype_named (named_of s) (named_of t)

-- JSON is carried to it
pub record IsJsonRow (s t : List ℕ) (r : ℕ) (b : Bool) : Type 0 where
  pub tells : (d : DefinedRow s t r) → b ≡ subtype (named JSON) (bare d.definition)

-- ---- two definitions

-- a new definition at row r₁, and an old one at row r₂
pub record Pairing (s₁ s₂ t₁ t₂ : List ℕ) (r₁ r₂ : ℕ) : Type 0 where
  pub new : DefinedRow s₁ t₁ r₁
  pub old : DefinedRow s₂ t₂ r₂

-- the old one is of the generic type g
pub record PairingTo (s₁ s₂ t₁ t₂ : List ℕ) (r₁ r₂ : ℕ) (g : Generic) : Type 0 where
  pub given : Pairing s₁ s₂ t₁ t₂ r₁ r₂
  pub is : GenericRow s₂ t₂ r₂ (Some g)

pub record Decided (s₁ s₂ t₁ t₂ : List ℕ) (r₁ r₂ : ℕ) (b : Bool) : Type 0 where
  pub tells : (p : Pairing s₁ s₂ t₁ t₂ r₁ r₂) → b ≡ subtype (bare p.new.definition) (bare p.old.definition)

-- ---- a new definition, and the fields of an old one

-- of one field: what the new definition has under its name, or anything where it has none
abbrev pub field_subtype : Bool → Option Def → Def → Bool
field_subtype required None q = cond required false (subtype (named JSON) q)
field_subtype required (Some d) q = subtype d q

-- the first of the fields to which a is not carried: its name and definition
abbrev pub first_failing : Bool → Def → Fields → Option (List ℕ × Def)
first_failing required a fnil = None
first_failing required a (fcons n q fs) = cond (field_subtype required (definition_under required a n) q) (first_failing required a fs) (Some (n, q))

-- the old field's name is at row r₂, its definition behind it
pub record FieldPairing (s₁ s₂ t₁ t₂ : List ℕ) (r₁ r₂ : ℕ) : Type 0 where
  pub new : DefinedRow s₁ t₁ r₁
  pub name : InTable t₂ r₂
  pub quoted : IsQuoted s₂ (word t₂ r₂ 1) (word t₂ r₂ 2)
  pub old : DefinedRow s₂ t₂ (r₂ + 1)

pub record FieldDecided (s₁ s₂ t₁ t₂ : List ℕ) (r₁ r₂ : ℕ) (required b : Bool) : Type 0 where
  pub tells : (p : FieldPairing s₁ s₂ t₁ t₂ r₁ r₂)
      → b ≡ field_subtype required (definition_under required (bare p.new.definition) (name_of s₂ (word t₂ r₂ 1) (word t₂ r₂ 2))) (bare p.old.definition)

-- the old fields are at row r₂, where there are any
pub record FieldsPairing (s₁ s₂ t₁ t₂ : List ℕ) (r₁ : ℕ) (r₂ : Option ℕ) : Type 0 where
  pub new : DefinedRow s₁ t₁ r₁
  pub old : FieldsRow s₂ t₂ r₂

-- the field with the name n and the definition q, among the fields at row r: its name is at row v, its definition behind it
pub record FieldAt (s t : List ℕ) (r v : ℕ) (n : List ℕ) (q : Def) : Type 0 where
  pub name : InTable t v
  pub quoted : IsQuoted s (word t v 1) (word t v 2)
  pub is : name_of s (word t v 1) (word t v 2) ≡ n
  pub value : DefinedRow s t (v + 1)
  pub defines : bare value.definition ≡ q
  pub less : word t (v + 1) 4 < word t r 4  -- its rows lie in those of the fields

-- the row of a field's name among the fields at a row, where there is such a field
abbrev pub Fails : List ℕ → List ℕ → Option ℕ → Option ℕ → Option (List ℕ × Def) → Type 0
Fails s t r None None = Unit {0}
Fails s t r None (Some f) = ⊥
Fails s t r (Some v) None = ⊥
Fails s t None (Some v) (Some f) = ⊥
Fails s t (Some r) (Some v) (Some f) = (0 < v) × FieldAt s t r v f.0 f.1

pub record FieldsFailing (s₁ s₂ t₁ t₂ : List ℕ) (r₁ : ℕ) (r₂ : Option ℕ) (required : Bool) (v : Option ℕ) : Type 0 where
  pub tells : (p : FieldsPairing s₁ s₂ t₁ t₂ r₁ r₂) → Fails s₂ t₂ r₂ v (first_failing required (bare p.new.definition) (bare_fields p.old.fields))
