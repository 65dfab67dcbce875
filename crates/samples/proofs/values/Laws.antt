-- Samples: what is written for each kind of definition; InFields, how far the members of the fields at a row are written.
use Prim.Native.Nat.{ℕ, ◌+◌, ◌≤◌, ◌<◌}
use mathlib.Core.Path.{◌≡◌, refl, sym, ap, ◌∙◌}
use mathlib.Core.Bool.{Bool, true, false}
use mathlib.Core.List.{List, [], ◌∷◌, ◌++◌, append_assoc, append-nil}
use native.Mathlib.Omega.{arith}
use lib.ListN.{length, set, length-append}
use Rattle.std.specs.Prelude.{Option, Some, None}
use Rattle.model.specs.Text.{text}
use Rattle.model.specs.Value.{object, Members, mnil, mcons}
use Rattle.model.specs.Definition.{Def, Fields}
use Rattle.model.specs.Witness.{plain_value, sample, kept, others}
use Rattle.chars.specs.Strings.{characters}
use Rattle.syntax.specs.Grammar.{name_of}
use Rattle.syntax.specs.Holding.{word}
use Rattle.writer.specs.Spell.{spell, spell_members}
use Rattle.model.proofs.Basics.{never}
use Rattle.writer.proofs.Facts.{Wrote, wrote_none, over_byte}
use Rattle.definitions.specs.Definitions.{Located, named-at, array_at, map_at, object-at, LocatedFields, bare, bare_fields}
use Rattle.rows.specs.Records.{Reads}
use Rattle.rows.specs.Finding.{Finds}
use Rattle.rows.specs.Children.{Passes, Begins}
use Rattle.rows.specs.declared.children.Children.{Children}
use Rattle.definitions.specs.Shapes.{DefinedRow, type_in, TypeRow, generic_in, GenericRow, FieldsRow}
use Rattle.rows.specs.declared.records.Record.{Record}
use Rattle.definitions.specs.declared.types.TypeName.{TypeName}
use Rattle.definitions.specs.declared.types.Generic.{Generic}
use Rattle.definitions.specs.declared.types.Generic.TheVariants.{Array, Map, Object}
use Rattle.definitions.proofs.Facts.{in_array, in_map, part_less, part_rows, FieldsLeft, FieldHere, fields_start, fields_end}
use Rattle.definitions.proofs.Facts.{find_required, object_fields, required_fields, field_here, same_fields, same_definition}
use Rattle.comparison.proofs.Facts.{of_name}
use Rattle.samples.proofs.Lent.{left_of, put_back, wrote, wrote_as, Lent, lent, lent_more}
use Rattle.samples.specs.Writing.{Writes, plain_by, name_bytes, NameReady, NameWritten, further, SampleReady, SampleWritten, field_bytes}
use Rattle.samples.specs.Writing.{FieldReady, FieldWritten, keeps, FieldsReady, FieldsWritten, RequiredReady, RequiredWritten}
use Rattle.samples.specs.Writing.{OthersReady, OthersWritten}

-- ---- by the kind of the definition at row r

named_sample : (d : Located) → None ≡ generic_in d → sample (bare d) ≡ plain_by (type_in d)
named_sample (named-at p t) q = sym (ap plain_value (of_name t))
named_sample (array_at p d) q = never (cc)
named_sample (map_at p d) q = never (cc)
named_sample (object-at p r o) q = never (cc)

-- what is written for the definition there
abbrev pub sample_bytes : {s t : List ℕ} {r : ℕ} → DefinedRow s t r → List ℕ
sample_bytes d = spell (sample (bare d.definition))

module _ {s t : List ℕ} {r : ℕ} {w : List ℕ} (k : (d : DefinedRow s t r) → sample_bytes d ≡ w) where
  sample_fits : {room : ℕ} → SampleReady s t r room → length w ≤ room
  sample_fits p = omega (arith, p.fits, ap length (k p.row))

  sample_written : {n : ℕ} {out out₂ : List ℕ} → Writes w n out out₂ → SampleWritten s t r n out out₂
  sample_written h = record { tells = λ d. rw (k d) h }

module _ {s t : List ℕ} {r : ℕ} where
  module _ (h : GenericRow s t r (Some Array)) where
    array_sample : (d : DefinedRow s t r) → sample_bytes d ≡ text "[]"
    array_sample d = ap (λ (a : Def). spell (sample a)) (in_array d (h.tells d)).is

    pub array_fits : {room : ℕ} → SampleReady s t r room → 2 ≤ room
    array_fits = sample_fits array_sample

    pub array_written : {n : ℕ} {out out₂ : List ℕ} → Writes (text "[]") n out out₂ → SampleWritten s t r n out out₂
    array_written = sample_written array_sample

  module _ (h : GenericRow s t r (Some Map)) where
    map_sample : (d : DefinedRow s t r) → sample_bytes d ≡ text "{}"
    map_sample d = ap (λ (a : Def). spell (sample a)) (in_map d (h.tells d)).is

    pub map_fits : {room : ℕ} → SampleReady s t r room → 2 ≤ room
    map_fits = sample_fits map_sample

    pub map_written : {n : ℕ} {out out₂ : List ℕ} → Writes (text "{}") n out out₂ → SampleWritten s t r n out out₂
    map_written = sample_written map_sample

  -- w is the value that stands for the type name
  module _ (h : GenericRow s t r None) {m : Option TypeName} (k : TypeRow s t r m) {w : List ℕ} (e : w ≡ spell (plain_by m)) where
    name_sample : (d : DefinedRow s t r) → sample_bytes d ≡ w
    name_sample d = ap spell (named_sample d.definition (h.tells d)) ∙ sym (e ∙ ap (λ (n : Option TypeName). spell (plain_by n)) (k.tells d))

    pub name_fits : {room : ℕ} → SampleReady s t r room → length w ≤ room
    name_fits = sample_fits name_sample

    pub name_written : {n : ℕ} {out out₂ : List ℕ} → Writes w n out out₂ → SampleWritten s t r n out out₂
    name_written = sample_written name_sample

  -- an Object, by the row of its required fields
  module _ (h : GenericRow s t r (Some Object)) {v : Option ℕ} (f : Finds s t (r + 2) (characters (text "required")) v) where
    abbrev required_row : DefinedRow s t r → FieldsRow s t v
    required_row = required_fields h (find_required f)

    -- they have fewer rows, so the measure falls
    pub required_less : DefinedRow s t r → part_rows t v < word t r 4
    required_less d = part_less (object_fields h d).body (find_required f)

    object_sample : (d : DefinedRow s t r) → sample_bytes d ≡ spell (object (kept (λ m. true) (bare_fields (required_row d).fields)))
    object_sample d = ap (λ (a : Def). spell (sample a)) (object_fields h d).is

    pub required_ready : {room : ℕ} → SampleReady s t r room → RequiredReady s t v room
    required_ready p = record { row = required_row p.row; fits = omega (arith, p.fits, ap length (object_sample p.row)) }

    pub sample_required : {n : ℕ} {out out₂ : List ℕ} → RequiredWritten s t v n out out₂ → SampleWritten s t r n out out₂
    sample_required k = record { tells = λ d. rw (object_sample d) (k.tells (required_row d)) }

    -- the members but the one of a key
    object_others : (key : List ℕ) (d : DefinedRow s t r) → others (bare d.definition) key ≡ kept (keeps (Some key)) (bare_fields (required_row d).fields)
    object_others key d = ap (λ (a : Def). others a key) (object_fields h d).is

    module _ {key : List ℕ} where
      pub others_ready : {room : ℕ} → OthersReady s t r key room → FieldsReady s t v (Some key) room
      others_ready p =
          let e = ap (λ (ms : Members). length (further ms)) (object_others key p.row) in record { row = required_row p.row; fits = omega (arith, p.fits) }

      pub others_written : {n : ℕ} {out out₂ : List ℕ} → FieldsWritten s t v (Some key) n out out₂ → OthersWritten s t r key n out out₂
      others_written k = record { tells = λ d. rw (object_others key d) (k.tells (required_row d)) }

-- any other definition asks for none
abbrev pub is_object : Option Generic → Bool
is_object (Some Array) = false
is_object (Some Map) = false
is_object (Some Object) = true
is_object None = false

no_others : (key : List ℕ) (d : Located) → is_object (generic_in d) ≡ false → others (bare d) key ≡ mnil
no_others key (named-at p t) h = refl
no_others key (array_at p d) h = refl
no_others key (map_at p d) h = refl
no_others key (object-at p r o) h = never (cc)

pub others_none : {s t : List ℕ} {r : ℕ} {g : Option Generic} → GenericRow s t r g → is_object g ≡ false
    → {key out : List ℕ} → OthersWritten s t r key 0 out out
others_none k h {key} = record { tells = λ d. rw (no_others key d.definition (rw (k.tells d) at h)) (refl, refl) }

-- ---- members, each behind a comma

-- the brackets take the place of the first comma, and one byte more
pub further_room : (ms : Members) → length (further ms) < length (spell (object ms))
further_room mnil = omega arith
further_room (mcons n v ms) = omega (arith, length-append (spell_members (mcons n v ms)) (0x7D ∷ []))

-- one more
further_field : (m : List ℕ) (d : Def) (ms : Members) → further (mcons m (sample d) ms) ≡ field_bytes m d ++ further ms
further_field m d ms = ap (◌∷◌ 0x2C) (simp append_assoc)

-- the object of the members ms, of which `further ms` is written
object_closed : (out : List ℕ) (ms : Members) {mid : List ℕ} {n : ℕ} → Writes (further ms) n out mid → (n ≡ 0 → ⊥) → n < length out
    → Writes (spell (object ms)) (n + 1) out (set (set mid 0 0x7B) n 0x7D)
object_closed out mnil g z l = absurd (z g.0)
object_closed out (mcons m v ms) {mid} {n} g z l =
    let w = spell_members (mcons m v ms) in
    let h : n ≡ length w + 1 = omega (arith, g.0) in
    (omega (arith, h, length-append w (0x7D ∷ [])), ap (λ (u : List ℕ). set (set u 0 0x7B) n 0x7D) g.1 ∙ over_byte out (0x7B ∷ w) n 0x7D (omega arith) l)

-- ---- `write_required`

pub fields_ready : {s t : List ℕ} {r : Option ℕ} {room : ℕ} → RequiredReady s t r room → FieldsReady s t r None room
fields_ready p = record { row = p.row; fits = omega (arith, p.fits, further_room (kept (λ m. true) (bare_fields p.row.fields))) }

-- the members are written
module _ {s t : List ℕ} {r : Option ℕ} {n : ℕ} {out mid : List ℕ}
    (k : FieldsWritten s t r None n out mid) (p : RequiredReady s t r (length out)) where
  abbrev members : Members
  members = kept (λ m. true) (bare_fields p.row.fields)

  -- and the brackets have room
  required_lent : Lent out n mid (further members) 1
  required_lent = lent (wrote (k.tells p.row)) (omega (arith, (k.tells p.row).0, p.fits, further_room members))

  pub required_closed : (n ≡ 0 → ⊥) → RequiredWritten s t r (n + 1) out (set (set mid 0 0x7B) n 0x7D)
  required_closed z = record { tells = λ f. object_closed out (kept (λ m. true) (bare_fields f.fields)) (k.tells f) z (omega (arith, required_lent.room)) }

-- ---- `write_field`

-- the name and its colon, and then the value
field_bytes_lem : {s t : List ℕ} {r room : ℕ} (p : FieldReady s t r room)
    → length (name_bytes 0x2C (name_of s (word t r 1) (word t r 2))) + length (sample_bytes p.row) ≤ room
field_bytes_lem {s} {t} {r} p = omega (arith, p.fits, length-append (name_bytes 0x2C (name_of s (word t r 1) (word t r 2))) (sample_bytes p.row))

pub name_ready : {s t : List ℕ} {r room : ℕ} → FieldReady s t r room → {x : Record} → Reads t r x → NameReady s x.first room 0x2C
name_ready {t = t} {r = r} p q = rw q.first (record { end = word t r 2; quoted = p.quoted; fits = omega (arith, field_bytes_lem p) })

-- the name is written
module _ {s t : List ℕ} {r : ℕ} {x : Record} {n : ℕ} {out mid : List ℕ}
    (q : Reads t r x) (k : NameWritten s x.first 0x2C n out mid) (p : FieldReady s t r (length out)) where
  named : Lent out n mid (name_bytes 0x2C (name_of s (word t r 1) (word t r 2))) (length (sample_bytes p.row))
  named = let w = (rw q.first at k).tells (word t r 2) p.quoted in lent (wrote w) (omega (arith, field_bytes_lem p, w.0))

  pub value_ready : SampleReady s t (r + 1) (length (left_of n mid))
  value_ready = record { row = p.row; fits = named.left }

  -- and the value
  module _ {j : ℕ} {y : List ℕ} (h : SampleWritten s t (r + 1) j (left_of n mid) y) where
    valued : Lent out (n + j) (put_back n mid y) (field_bytes (name_of s (word t r 1) (word t r 2)) (bare p.row.definition)) 0
    valued = lent_more named (sample_bytes p.row) (omega arith) (h.tells p.row)

    pub field_room : n + j ≤ length out
    field_room = omega (arith, valued.room)

    pub field_written : FieldWritten s t r (n + j) out (put_back n mid y)
    field_written = record {
      tells = λ d. wrote_as valued.wrote (ap (λ (x : Located). field_bytes (name_of s (word t r 1) (word t r 2)) (bare x)) (same_definition d p.row));
    }

-- ---- the members of the fields at row r

-- of the members for the fields at row r, n bytes are written before those whose names are left
pub record InFields (s t : List ℕ) (r : ℕ) (but : Option (List ℕ)) (c : Children 1) (before : List ℕ) (n : ℕ) (out : List ℕ) : Type 0 where
  pub fields : LocatedFields
  pub ahead : FieldsLeft s t (Some r) c fields
  pub done : List ℕ
  pub wrote : Wrote before n out done
  pub splits : (f : FieldsRow s t (Some r)) → further (kept (keeps but) (bare_fields f.fields)) ≡ done ++ further (kept (keeps but) (bare_fields fields))

module _ {s t : List ℕ} {r : ℕ} {but : Option (List ℕ)} {c : Children 1} {before : List ℕ} where
  pub in_start : (p : FieldsReady s t (Some r) but (length before)) → Begins t r c → InFields s t r but c before 0 before
  in_start p b = record {
    fields = p.row.fields;
    ahead = fields_start p.row b;
    done = [];
    wrote = wrote_none before;
    splits = λ f. ap (λ (fs : LocatedFields). further (kept (keeps but) (bare_fields fs))) (same_fields f p.row);
  }

  module _ {n : ℕ} {out : List ℕ} (a : InFields s t r but c before n out) where
    -- there is room for what is still to be written
    in_lent : FieldsReady s t (Some r) but (length before) → Lent before n out a.done (length (further (kept (keeps but) (bare_fields a.fields))))
    in_lent p =
        let w = further (kept (keeps but) (bare_fields a.fields)) in
        lent a.wrote (omega (arith, p.fits, a.wrote.count, ap length (a.splits p.row), length-append a.done w))

    -- all are seen
    pub in_end : c.left ≡ 0 → FieldsWritten s t (Some r) but n before out
    in_end l = record { tells = λ f. wrote_as a.wrote (a.splits f ∙ rw (fields_end a.ahead l) (append-nil a.done)) }

    module _ {row : ℕ} {d : Children 1} (h : Passes c row d) where
      abbrev pub this : FieldHere s t (Some r) row d a.fields
      this = field_here a.ahead h

      -- it is passed over
      pub in_skipped : false ≡ keeps but (name_of s (word t row 1) (word t row 2)) → InFields s t r but d before n out
      in_skipped k = record {
        fields = this.others;
        ahead = this.behind;
        done = a.done;
        wrote = a.wrote;
        splits = λ f. a.splits f ∙ ap (λ (w : List ℕ). a.done ++ w) (ap (λ (fs : Fields). further (kept (keeps but) fs)) this.is ∙ rw (sym k) refl);
      }

      -- it is kept
      module _ (k : true ≡ keeps but (name_of s (word t row 1) (word t row 2))) (p : FieldsReady s t (Some r) but (length before)) where
        abbrev bytes : List ℕ
        bytes = field_bytes (name_of s (word t row 1) (word t row 2)) (bare this.row.definition)

        abbrev rest : List ℕ
        rest = further (kept (keeps but) (bare_fields this.others))

        one_more : further (kept (keeps but) (bare_fields a.fields)) ≡ bytes ++ rest
        one_more =
            ap (λ (fs : Fields). further (kept (keeps but) fs)) this.is
            ∙ rw (sym k) (further_field (name_of s (word t row 1) (word t row 2)) (bare this.row.definition) (kept (keeps but) (bare_fields this.others)))

        one_room : length bytes + length rest ≤ length (further (kept (keeps but) (bare_fields a.fields)))
        one_room = omega (arith, ap length one_more, length-append bytes rest)

        pub in_ready : FieldReady s t row (length (left_of n out))
        in_ready = record { name = this.name; quoted = this.quoted; row = this.row; fits = omega (arith, one_room, (in_lent p).left) }

        module _ {j : ℕ} {y : List ℕ} (m : FieldWritten s t row j (left_of n out) y) where
          in_more : Lent before (n + j) (put_back n out y) (a.done ++ bytes) (length rest)
          in_more = lent_more (in_lent p) bytes one_room (m.tells this.row)

          pub in_room : n + j ≤ length before
          in_room = omega (arith, in_more.room)

          pub in_kept : InFields s t r but d before (n + j) (put_back n out y)
          in_kept = record {
            fields = this.others;
            ahead = this.behind;
            done = a.done ++ bytes;
            wrote = in_more.wrote;
            splits = λ f. a.splits f ∙ ap (λ (w : List ℕ). a.done ++ w) one_more ∙ sym (append_assoc a.done bytes rest);
          }
