-- An Object definition at its row: its body and the rows of its fields, as `find` gives them (01, "Definitions").
use Prim.Native.Nat.{ℕ, ◌+◌}
use mathlib.Core.Path.{◌≡◌, refl, sym, ◌∙◌}
use mathlib.Core.List.{List}
use Rattle.std.specs.Prelude.{Option, Some}
use Rattle.model.specs.Text.{text}
use Rattle.chars.specs.Strings.{characters}
use Rattle.definitions.specs.Definitions.{bare}
use Rattle.rows.specs.Records.{InTable, ObjectRow}
use Rattle.rows.specs.Finding.{Finds}
use Rattle.definitions.specs.Shapes.{DefinedRow, generic_in, GenericRow, FieldsRow}
use Rattle.definitions.specs.declared.types.Generic.{Generic}
use Rattle.definitions.specs.declared.types.Generic.TheVariants.{Object}
use Rattle.rows.proofs.Facts.{as_row, in_table, part_object}
use Rattle.definitions.proofs.types.Laws.{spelled}
use Rattle.definitions.proofs.shapes.Laws.{Fielded, in-object, fields_found}

-- the generic type that was read is the definition's
abbrev pub of-kind : {s t : List ℕ} {r : ℕ} {g : Option Generic} → GenericRow s t r g → {k : Option Generic} → g ≡ k → (d : DefinedRow s t r) → k ≡ generic_in d.definition
of-kind h e d = sym e ∙ h.tells d

pub as_kind : {s t : List ℕ} {r : ℕ} {g : Option Generic} → GenericRow s t r g → {k : Option Generic} → g ≡ k → GenericRow s t r k
as_kind h e = rw e at h

-- the rows of "required" and of "optional", by the words' own bytes
module _ {s t : List ℕ} {r : ℕ} {v : Option ℕ} where
  pub find_required : Finds s t r (characters (text "required")) v → Finds s t r (text "required") v
  find_required f = rw spelled.required at f

  pub find_optional : Finds s t r (characters (text "optional")) v → Finds s t r (text "optional") v
  find_optional f = rw spelled.optional at f

module _ {s t : List ℕ} {r : ℕ} (o : GenericRow s t r (Some Object)) where
  -- its fields, and its body
  abbrev pub object_fields : (d : DefinedRow s t r) → Fielded s t r (bare d.definition)
  object_fields d = in-object d (o.tells d)

  abbrev pub object_body : DefinedRow s t r → ObjectRow s t (r + 2)
  object_body d = (object_fields d).body.object

  -- the body's row
  pub body_in : DefinedRow s t r → InTable t (r + 2)
  body_in d = in_table (as_row (object_body d))

  abbrev pub required_fields : {v : Option ℕ} → Finds s t (r + 2) (text "required") v → DefinedRow s t r → FieldsRow s t v
  required_fields f d = fields_found (object_fields d).body f (object_fields d).body.first

  abbrev pub optional_fields : {v : Option ℕ} → Finds s t (r + 2) (text "optional") v → DefinedRow s t r → FieldsRow s t v
  optional_fields f d = fields_found (object_fields d).body f (object_fields d).body.second

-- fields that are there: their object, and its row
pub fields_object : {s t : List ℕ} {r : ℕ} → FieldsRow s t (Some r) → ObjectRow s t r
fields_object f = part_object f.part refl

pub fields_in_lem : {s t : List ℕ} {r : ℕ} → FieldsRow s t (Some r) → InTable t r
fields_in_lem f = in_table (as_row (fields_object f))
