-- Whether a new definition is carried to an old Array, Map or Object: a law for each way out of `carried_to_array`, `carried_to_map` and `carried_to_object`
-- (01, demand 3).
use Prim.Native.Nat.{ℕ, ◌+◌, ◌<◌}
use mathlib.Core.Path.{◌≡◌, refl, sym, ap, ap₂, ◌∙◌}
use mathlib.Core.Bool.{Bool, true, false, not, ◌&&◌, true≢false}
use mathlib.Core.List.{List}
use Rattle.std.specs.Prelude.{Option, Some, None, is_some}
use Rattle.model.specs.Text.{text}
use Rattle.model.specs.Definition.{Def, array_of, map_of}
use Rattle.model.specs.Subtype.{subtype, of_objects}
use Rattle.syntax.specs.Holding.{word}
use Rattle.definitions.specs.Definitions.{Located, named-at, array_at, map_at, object-at, bare, bare_fields}
use Rattle.rows.specs.Finding.{Finds}
use Rattle.comparison.specs.Carrying.{IsJsonRow, Pairing, PairingTo, Decided, FieldsPairing, FieldsFailing}
use Rattle.rows.specs.Records.{ObjectRow, InTable}
use Rattle.definitions.specs.Shapes.{DefinedRow, generic_in, GenericRow, OfObjectsRow}
use Rattle.definitions.specs.declared.types.Generic.{Generic}
use Rattle.definitions.specs.declared.types.Generic.TheVariants.{Array, Map, Object}
use Rattle.definitions.proofs.Facts.{Within, in_array, in_map, Fielded, in-object, part_less, part_rows, objects_by, objects_in, body_in, object_fields}
use Rattle.definitions.proofs.Facts.{object_body, required_fields, optional_fields}
use Rattle.comparison.proofs.carrying.Decision.{none_fails, objects_subtype, fails_none}

-- ---- to an Array

abbrev pub is_array : Option Generic → Bool
is_array (Some Array) = true
is_array (Some Map) = false
is_array (Some Object) = false
is_array None = false

no_array : (d : Located) (q : Def) → is_array (generic_in d) ≡ false → subtype (bare d) (array_of q) ≡ false
no_array (named-at p t) q h = refl
no_array (array_at p d) q h = absurd (true≢false h)
no_array (map_at p d) q h = refl
no_array (object-at p r o) q h = refl

module _ {s₁ s₂ t₁ t₂ : List ℕ} {r₁ r₂ : ℕ} (i : PairingTo s₁ s₂ t₁ t₂ r₁ r₂ Array) where
  abbrev old_array : (d : DefinedRow s₂ t₂ r₂) → Within s₂ t₂ r₂ array_of (bare d.definition)
  old_array d = in_array d (i.is.tells d)

  pub array_less : word t₂ (r₂ + 2) 4 < word t₂ r₂ 4
  array_less = (old_array i.given.old).less

  module _ (h : GenericRow s₁ t₁ r₁ (Some Array)) where
    abbrev pub array_pair : Pairing s₁ s₂ t₁ t₂ r₁ r₂ → Pairing s₁ s₂ t₁ t₂ (r₁ + 2) (r₂ + 2)
    array_pair p = record { new = (in_array p.new (h.tells p.new)).inner; old = (old_array p.old).inner }

    pub array_array : {b : Bool} → Decided s₁ s₂ t₁ t₂ (r₁ + 2) (r₂ + 2) b → Decided s₁ s₂ t₁ t₂ r₁ r₂ b
    array_array k = record {
      tells = λ p. k.tells (array_pair p) ∙ sym (ap₂ subtype (in_array p.new (h.tells p.new)).is (old_array p.old).is);
    }

  pub array_other : {g : Option Generic} → GenericRow s₁ t₁ r₁ g → is_array g ≡ false → Decided s₁ s₂ t₁ t₂ r₁ r₂ false
  array_other h z = record {
    tells = λ p.
        (let d = p.new.definition in
        let q = old_array p.old in
        sym (ap (subtype (bare d)) q.is ∙ no_array d (bare q.inner.definition) (sym (ap is_array (h.tells p.new)) ∙ z)));
  }

-- ---- to a Map

module _ {s₁ s₂ t₁ t₂ : List ℕ} {r₁ r₂ : ℕ} (i : PairingTo s₁ s₂ t₁ t₂ r₁ r₂ Map) where
  abbrev old_map : (d : DefinedRow s₂ t₂ r₂) → Within s₂ t₂ r₂ map_of (bare d.definition)
  old_map d = in_map d (i.is.tells d)

  pub map_less : word t₂ (r₂ + 2) 4 < word t₂ r₂ 4
  map_less = (old_map i.given.old).less

  abbrev pub map_old : DefinedRow s₂ t₂ r₂ → DefinedRow s₂ t₂ (r₂ + 2)
  map_old d = (old_map d).inner

  module _ (h : GenericRow s₁ t₁ r₁ (Some Map)) where
    abbrev pub map_pair : Pairing s₁ s₂ t₁ t₂ r₁ r₂ → Pairing s₁ s₂ t₁ t₂ (r₁ + 2) (r₂ + 2)
    map_pair p = record { new = (in_map p.new (h.tells p.new)).inner; old = map_old p.old }

    pub map_map : {b : Bool} → Decided s₁ s₂ t₁ t₂ (r₁ + 2) (r₂ + 2) b → Decided s₁ s₂ t₁ t₂ r₁ r₂ b
    map_map k = record {
      tells = λ p. k.tells (map_pair p) ∙ sym (ap₂ subtype (in_map p.new (h.tells p.new)).is (old_map p.old).is);
    }

  pub map_object : GenericRow s₁ t₁ r₁ (Some Object) → {b : Bool} → IsJsonRow s₂ t₂ (r₂ + 2) b → Decided s₁ s₂ t₁ t₂ r₁ r₂ b
  map_object h k = record {
    tells = λ p. k.tells (map_old p.old) ∙ sym (ap₂ subtype (in-object p.new (h.tells p.new)).is (old_map p.old).is);
  }

  pub map_other : {g : Option Generic} → GenericRow s₁ t₁ r₁ g → objects_by g ≡ false → Decided s₁ s₂ t₁ t₂ r₁ r₂ false
  map_other h z = record {
    tells = λ p.
        (let d = p.new.definition in
        let o : of_objects (bare d) ≡ false = sym (objects_in d) ∙ sym (ap objects_by (h.tells p.new)) ∙ z in
        sym (ap (subtype (bare d)) (old_map p.old).is ∙ rw o refl));
  }

-- ---- to an Object

module _ {s₁ s₂ t₁ t₂ : List ℕ} {r₁ r₂ : ℕ} (i : PairingTo s₁ s₂ t₁ t₂ r₁ r₂ Object) where
  abbrev old_object : (d : DefinedRow s₂ t₂ r₂) → Fielded s₂ t₂ r₂ (bare d.definition)
  old_object d = object_fields i.is d

  pub object_other : OfObjectsRow s₁ t₁ r₁ false → Decided s₁ s₂ t₁ t₂ r₁ r₂ false
  object_other h = record {
    tells = λ p. (let o = sym (h.tells p.new) in sym (ap (subtype (bare p.new.definition)) (old_object p.old).is ∙ rw o refl));
  }

  pub object_row : ObjectRow s₂ t₂ (r₂ + 2)
  object_row = object_body i.is i.given.old

  pub object_in : InTable t₂ (r₂ + 2)
  object_in = body_in i.is i.given.old

  pub object_less : {key : List ℕ} {v : Option ℕ} → Finds s₂ t₂ (r₂ + 2) key v → part_rows t₂ v < word t₂ r₂ 4
  object_less f = part_less (old_object i.given.old).body f

  module _ {v : Option ℕ} (f : Finds s₂ t₂ (r₂ + 2) (text "required") v) where
    abbrev pub required_pair : Pairing s₁ s₂ t₁ t₂ r₁ r₂ → FieldsPairing s₁ s₂ t₁ t₂ r₁ v
    required_pair p = record { new = p.new; old = required_fields i.is f p.old }

  module _ {v : Option ℕ} (f : Finds s₂ t₂ (r₂ + 2) (text "optional") v) where
    abbrev pub optional_pair : Pairing s₁ s₂ t₁ t₂ r₁ r₂ → FieldsPairing s₁ s₂ t₁ t₂ r₁ v
    optional_pair p = record { new = p.new; old = optional_fields i.is f p.old }

  -- only objects meet the new definition, and `failing_field` answers w for "required": none, where b
  module _ (h : OfObjectsRow s₁ t₁ r₁ true) {v : Option ℕ} (f : Finds s₂ t₂ (r₂ + 2) (text "required") v)
      {w : Option ℕ} (k : FieldsFailing s₁ s₂ t₁ t₂ r₁ v true w) (b : Bool) (n : is_some w ≡ not b) where
    whole : (p : Pairing s₁ s₂ t₁ t₂ r₁ r₂)
        → b && none_fails false (bare p.new.definition) (bare_fields (old_object p.old).optional) ≡ subtype (bare p.new.definition) (bare p.old.definition)
    whole p =
        let a = bare p.new.definition in
        let o = old_object p.old in
        ap (λ (b : Bool). b && none_fails false a (bare_fields o.optional)) (fails_none s₂ t₂ v w _ b (k.tells (required_pair f p)) n)
        ∙ sym (objects_subtype a (bare_fields o.required) (bare_fields o.optional) (sym (h.tells p.new))) ∙ sym (ap (subtype a) o.is)

    pub object_fails : b ≡ false → Decided s₁ s₂ t₁ t₂ r₁ r₂ false
    object_fails e = record { tells = λ p. rw e at (whole p) }

    -- and x for "optional": none, where c
    pub object_ends : b ≡ true → {u : Option ℕ} → Finds s₂ t₂ (r₂ + 2) (text "optional") u
        → {x : Option ℕ} → FieldsFailing s₁ s₂ t₁ t₂ r₁ u false x → (c : Bool) → is_some x ≡ not c → Decided s₁ s₂ t₁ t₂ r₁ r₂ c
    object_ends e {u} g {x} m c i = record { tells = λ p. fails_none s₂ t₂ u x _ c (m.tells (optional_pair g p)) i ∙ (rw e at (whole p)) }
