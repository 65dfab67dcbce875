-- The fields of an Object definition by their rows, one after the other.
use Prim.Native.Nat.{ℕ, ◌+◌, ◌<◌}
use mathlib.Core.Path.{◌≡◌, refl, sym, ap, ◌∙◌}
use mathlib.Core.List.{List}
use Rattle.std.specs.Prelude.{Option, Some, None}
use native.Mathlib.Omega.{arith}
use Rattle.model.specs.Definition.{fcons}
use Rattle.syntax.specs.Tree.{Members, no_member}
use Rattle.syntax.specs.Grammar.{name_of}
use Rattle.syntax.specs.Rows.{sizes_members}
use Rattle.syntax.specs.Holding.{word}
use Rattle.definitions.specs.Definitions.{LocatedFields, no_field, field, fine, definition_at, fields_at, bare, bare_fields}
use Rattle.rows.specs.Records.{InTable}
use Rattle.rows.specs.Children.{Passes, Begins}
use Rattle.rows.specs.declared.children.Children.{Children}
use Rattle.definitions.specs.Shapes.{DefinedRow, FieldsRow}
use Rattle.definitions.proofs.definitions.Meaning.{added_fine}
use Rattle.rows.proofs.Facts.{row, same_tree, as_row, part_object, same_part, NamesLeft, names_start, name_here, names_next, names_end}
use Rattle.definitions.proofs.definitions.Body.{part_rows}
use Rattle.tokens.specs.Spelling.{IsQuoted}

-- no members, no fields
pub fields_empty : (s : List ℕ) {ms : Members} {fs : LocatedFields} → ms ≡ no_member → fields_at s ms ≡ fine fs → fs ≡ no_field
fields_empty s {fs = fs} e q = let z : fine no_field ≡ fine fs = sym (ap (fields_at s) e) ∙ q in cc

-- a row has one definition, and one list of fields
pub same_definition : {s t : List ℕ} {r : ℕ} (d e : DefinedRow s t r) → d.definition ≡ e.definition
same_definition {s} d e =
    let z : fine d.definition ≡ fine e.definition = sym d.defines ∙ ap (definition_at s) (same_tree d.row e.row) ∙ e.defines in cc

pub same_fields : {s t : List ℕ} {r : Option ℕ} (f g : FieldsRow s t r) → f.fields ≡ g.fields
same_fields {s} f g = let z : fine f.fields ≡ fine g.fields = sym f.defines ∙ ap (fields_at s) (same_part f.part g.part) ∙ g.defines in cc

-- the fields whose names are left, of those at row r
pub record FieldsLeft (s t : List ℕ) (r : Option ℕ) (c : Children 1) (fields : LocatedFields) : Type 0 where
  pub rest : Members
  pub ahead : NamesLeft s t c rest
  pub defines : fields_at s rest ≡ fine fields
  pub less : sizes_members rest < part_rows t r

-- the first of them: its name at row n, its definition behind it; the others are left in d
pub record FieldHere (s t : List ℕ) (r : Option ℕ) (n : ℕ) (d : Children 1) (fields : LocatedFields) : Type 0 where
  pub name : InTable t n
  pub quoted : IsQuoted s (word t n 1) (word t n 2)
  pub row : DefinedRow s t (n + 1)
  pub less : word t (n + 1) 4 < part_rows t r
  pub others : LocatedFields
  pub adds : fields ≡ field (word t n 1) (name_of s (word t n 1) (word t n 2)) row.definition others
  pub is : bare_fields fields ≡ fcons (name_of s (word t n 1) (word t n 2)) (bare row.definition) (bare_fields others)
  pub behind : FieldsLeft s t r d others

pub fields_none : {s t : List ℕ} (f : FieldsRow s t None) → f.fields ≡ no_field
fields_none {s} f = fields_empty s (f.part.absent refl) f.defines

module _ {s t : List ℕ} {c : Children 1} where
  abbrev pub fields_start : {r : ℕ} (f : FieldsRow s t (Some r)) → Begins t r c → FieldsLeft s t (Some r) c f.fields
  fields_start f b =
      let o = part_object f.part refl in
      record { rest = f.part.members; ahead = names_start o b; defines = f.defines; less = omega (arith, (row (as_row o)).subtree) }

  -- all members are ahead
  pub start_rest : {r : ℕ} (f : FieldsRow s t (Some r)) (b : Begins t r c) → (fields_start f b).rest ≡ f.part.members
  start_rest f b = refl

  module _ {r : Option ℕ} {fields : LocatedFields} (a : FieldsLeft s t r c fields) where
    pub fields_end : c.left ≡ 0 → fields ≡ no_field
    fields_end l = fields_empty s (names_end a.ahead l) a.defines

    module _ {n : ℕ} {d : Children 1} (p : Passes c n d) where
      abbrev pub field_here : FieldHere s t r n d fields
      field_here =
          let m = name_here a.ahead p in
          let k = added_fine (word t n 1) (name_of s (word t n 1) (word t n 2)) _ _ fields (sym (ap (fields_at s) m.is) ∙ a.defines) in
          record {
            name = m.in_table;
            quoted = m.quoted;
            row = record { row = m.value; definition = k.definition; defines = k.defines };
            less = omega (arith, (row m.value).subtree, a.less, ap sizes_members m.is);
            others = k.others;
            adds = k.adds;
            is = ap bare_fields k.adds;
            behind = record {
              rest = m.others;
              ahead = names_next a.ahead p m;
              defines = k.define;
              less = omega (arith, a.less, ap sizes_members m.is);
            };
          }

      -- the members behind it are those of the fields behind it
      pub behind_rest : field_here.behind.rest ≡ (name_here a.ahead p).others
      behind_rest = refl
