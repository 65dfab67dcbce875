-- For private contracts: of each writer of a value what it is given, with room for what it writes (`..Ready`), and what it leaves, where it wrote n bytes (`..Written`).
use Rattle.std.specs.Prelude.{ℕ, ◌+◌, ◌≤◌, ◌≡◌, Bool, true, not, List, [], ◌∷◌, ◌++◌, length, Option, Some, None}
use Rattle.model.specs.Text.{same}
use Rattle.model.specs.Value.{Value, null, object, Members}
use Rattle.model.specs.Definition.{Def}
use Rattle.model.specs.Witness.{plain_value as plain_value, apart, sample, kept, counted, names, own_names, fresh, others, beyond_named}
use Rattle.tokens.specs.Spelling.{IsQuoted}
use Rattle.syntax.specs.Grammar.{name_of}
use Rattle.syntax.specs.Holding.{word}
use Rattle.writer.specs.Spell.{spell, spell_string, spell_members, before_members}
use Rattle.writer.specs.Compact.{over}
use Rattle.definitions.specs.Definitions.{bare, bare_fields}
use Rattle.rows.specs.Records.{InTable}
use Rattle.definitions.specs.Shapes.{DefinedRow, GenericRow, FieldsRow}
use Rattle.definitions.specs.declared.types.TypeName.{TypeName}
use Rattle.definitions.specs.declared.types.Generic.TheVariants.{Object}
use Rattle.comparison.specs.Carrying.{named_of}

-- the bytes w are written from byte 0 of what is lent, and n is how many they are
abbrev pub Writes : List ℕ → ℕ → List ℕ → List ℕ → Type 0
Writes w n out out₂ = (n ≡ length w) × (out₂ ≡ over w out)

-- ---- values that stand for a type name; none counts as JSON

-- neither an array nor an object
abbrev pub plain_by : Option TypeName → Value
plain_by None = null
plain_by (Some t) = plain_value (named_of t)

-- of no other named type than those that take all of it
abbrev pub apart_by : Option TypeName → Value
apart_by None = null
apart_by (Some t) = apart (named_of t)

-- ---- names and members

-- a byte before it, the name in its one spelling, and the colon behind it
abbrev pub name_bytes : ℕ → List ℕ → List ℕ
name_bytes lead n = lead ∷ (spell_string n ++ (0x3A ∷ []))

-- the name whose opening quote is at i, behind the byte `lead`
pub record NameReady (s : List ℕ) (i room lead : ℕ) : Type 0 where
  pub end : ℕ
  pub quoted : IsQuoted s i end
  pub fits : length (name_bytes lead (name_of s i end)) ≤ room

pub record NameWritten (s : List ℕ) (i lead n : ℕ) (out out₂ : List ℕ) : Type 0 where
  pub tells : (e : ℕ) → IsQuoted s i e → Writes (name_bytes lead (name_of s i e)) n out out₂

-- members, each behind a comma
abbrev pub further : Members → List ℕ
further ms = before_members ms (spell_members ms)

-- ---- samples of the definition at row r

-- the sample itself
pub record SampleReady (s t : List ℕ) (r room : ℕ) : Type 0 where
  pub row : DefinedRow s t r
  pub fits : length (spell (sample (bare row.definition))) ≤ room

pub record SampleWritten (s t : List ℕ) (r n : ℕ) (out out₂ : List ℕ) : Type 0 where
  pub tells : (d : DefinedRow s t r) → Writes (spell (sample (bare d.definition))) n out out₂

-- a field as a member behind a comma
abbrev pub field_bytes : List ℕ → Def → List ℕ
field_bytes n d = name_bytes 0x2C n ++ spell (sample d)

-- the field whose name is at row r
pub record FieldReady (s t : List ℕ) (r room : ℕ) : Type 0 where
  pub name : InTable t r
  pub quoted : IsQuoted s (word t r 1) (word t r 2)
  pub row : DefinedRow s t (r + 1)
  pub fits : length (field_bytes (name_of s (word t r 1) (word t r 2)) (bare row.definition)) ≤ room

pub record FieldWritten (s t : List ℕ) (r n : ℕ) (out out₂ : List ℕ) : Type 0 where
  pub tells : (d : DefinedRow s t (r + 1)) → Writes (field_bytes (name_of s (word t r 1) (word t r 2)) (bare d.definition)) n out out₂

-- the name m is kept: all are but the one that is left out, if any
abbrev pub keeps : Option (List ℕ) → List ℕ → Bool
keeps None m = true
keeps (Some key) m = not (same key m)

-- the fields at row r, where there are any, but one that is left out
pub record FieldsReady (s t : List ℕ) (r : Option ℕ) (but : Option (List ℕ)) (room : ℕ) : Type 0 where
  pub row : FieldsRow s t r
  pub fits : length (further (kept (keeps but) (bare_fields row.fields))) ≤ room

pub record FieldsWritten (s t : List ℕ) (r : Option ℕ) (but : Option (List ℕ)) (n : ℕ) (out out₂ : List ℕ) : Type 0 where
  pub tells : (f : FieldsRow s t r) → Writes (further (kept (keeps but) (bare_fields f.fields))) n out out₂

-- the object of all fields at row r
pub record RequiredReady (s t : List ℕ) (r : Option ℕ) (room : ℕ) : Type 0 where
  pub row : FieldsRow s t r
  pub fits : length (spell (object (kept (λ m. true) (bare_fields row.fields)))) ≤ room

pub record RequiredWritten (s t : List ℕ) (r : Option ℕ) (n : ℕ) (out out₂ : List ℕ) : Type 0 where
  pub tells : (f : FieldsRow s t r) → Writes (spell (object (kept (λ m. true) (bare_fields f.fields)))) n out out₂

-- the members that the definition at row r asks for, but the one of the key
pub record OthersReady (s t : List ℕ) (r : ℕ) (key : List ℕ) (room : ℕ) : Type 0 where
  pub row : DefinedRow s t r
  pub fits : length (further (others (bare row.definition) key)) ≤ room

pub record OthersWritten (s t : List ℕ) (r : ℕ) (key : List ℕ) (n : ℕ) (out out₂ : List ℕ) : Type 0 where
  pub tells : (d : DefinedRow s t r) → Writes (further (others (bare d.definition) key)) n out out₂

-- ---- a name that the definition at row r does not name

-- how many names of the fields at row r begin with p
pub record CountsFields (s t : List ℕ) (r : Option ℕ) (p : List ℕ) (n : ℕ) : Type 0 where
  pub tells : (f : FieldsRow s t r) → n ≡ counted p (names (bare_fields f.fields))

-- how many of the definition there
pub record CountsNames (s t : List ℕ) (r : ℕ) (p : List ℕ) (n : ℕ) : Type 0 where
  pub tells : (d : DefinedRow s t r) → n ≡ counted p (own_names (bare d.definition))

-- the letters of the name; the definition is an Object
pub record LettersReady (s t : List ℕ) (r room : ℕ) : Type 0 where
  pub row : DefinedRow s t r
  pub is : GenericRow s t r (Some Object)
  pub fits : length (fresh (bare row.definition)) ≤ room

pub record LettersWritten (s t : List ℕ) (r n : ℕ) (out out₂ : List ℕ) : Type 0 where
  pub tells : (d : DefinedRow s t r) → Writes (fresh (bare d.definition)) n out out₂

-- ---- beyond the named types

-- a value of the definition at row r that meets only those that take all of it
pub record BeyondReady (s t : List ℕ) (r room : ℕ) : Type 0 where
  pub row : DefinedRow s t r
  pub fits : length (spell (beyond_named (bare row.definition))) ≤ room

pub record BeyondWritten (s t : List ℕ) (r n : ℕ) (out out₂ : List ℕ) : Type 0 where
  pub tells : (d : DefinedRow s t r) → Writes (spell (beyond_named (bare d.definition))) n out out₂
