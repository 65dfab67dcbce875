-- For private contracts: a definition by its row, the type or the generic type that it names, and its fields.
use Rattle.std.specs.Prelude.{ℕ, ◌≡◌, Bool, List, Option, Some, None}
use Rattle.model.specs.Subtype.{of_objects}
use Rattle.definitions.specs.Definitions.{Located, named-at, array_at, map_at, object-at, LocatedFields, fine, definition_at, fields_at, bare}
use Rattle.definitions.specs.Types.{type_of}
use Rattle.rows.specs.Records.{Rowed, PartRow}
use Rattle.definitions.specs.declared.types.TypeName.{TypeName}
use Rattle.definitions.specs.declared.types.Generic.{Generic}
use Rattle.definitions.specs.declared.types.Generic.TheVariants.{Array, Map, Object}

-- a definition at row r
pub record DefinedRow (s t : List ℕ) (r : ℕ) : Type 0 where
  pub row : Rowed s t r
  pub definition : Located
  pub defines : definition_at s row.tree ≡ fine definition

-- the type that a definition names; any other definition names none
abbrev pub type_in : Located → Option TypeName
type_in (named-at p t) = Some (type_of t)
type_in (array_at p d) = None
type_in (map_at p d) = None
type_in (object-at p r o) = None

pub record TypeRow (s t : List ℕ) (r : ℕ) (g : Option TypeName) : Type 0 where
  pub tells : (d : DefinedRow s t r) → g ≡ type_in d.definition

-- the generic type of a definition; a type name has none
abbrev pub generic_in : Located → Option Generic
generic_in (named-at p t) = None
generic_in (array_at p d) = Some Array
generic_in (map_at p d) = Some Map
generic_in (object-at p r o) = Some Object

pub record GenericRow (s t : List ℕ) (r : ℕ) (g : Option Generic) : Type 0 where
  pub tells : (d : DefinedRow s t r) → g ≡ generic_in d.definition

-- only objects meet it
pub record OfObjectsRow (s t : List ℕ) (r : ℕ) (b : Bool) : Type 0 where
  pub tells : (d : DefinedRow s t r) → b ≡ of_objects (bare d.definition)

-- the fields at row r, where there is one
pub record FieldsRow (s t : List ℕ) (r : Option ℕ) : Type 0 where
  pub part : PartRow s t r
  pub fields : LocatedFields
  pub defines : fields_at s part.members ≡ fine fields
