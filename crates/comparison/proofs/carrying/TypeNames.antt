-- Whether a new definition is carried to a type name: the decision of `carried_name` is the one on definitions (01, demand 3).
use Prim.Native.Nat.{ℕ}
use mathlib.Core.Path.{◌≡◌, refl, ap, ap₂, ◌∙◌}
use mathlib.Core.Bool.{Bool}
use mathlib.Core.List.{List}
use Rattle.std.specs.Prelude.{Option, Some, None}
use Rattle.model.proofs.Basics.{never}
use Rattle.model.specs.Definition.{Named, JSON, Schema, Float, Integer, String, Boolean, DateTime, named}
use Rattle.model.specs.Subtype.{is, subtype_named, subtype}
use Rattle.definitions.specs.Definitions.{Located, named-at, array_at, map_at, object-at, bare}
use Rattle.definitions.specs.Types.{type_of}
use Rattle.definitions.specs.Shapes.{type_in, TypeRow, generic_in, GenericRow}
use Rattle.definitions.specs.declared.types.TypeName.{TypeName}
use Rattle.definitions.specs.declared.types.TypeName.TheVariants.{Json}
use Rattle.comparison.specs.Carrying.{named_of, subtype_name, IsJsonRow, Decided}

-- a type by its name
pub of_name : (t : Named) → named_of (type_of t) ≡ t
of_name JSON = refl
of_name Schema = refl
of_name Float = refl
of_name Integer = refl
of_name String = refl
of_name Boolean = refl
of_name DateTime = refl

only_json : (t : Named) → is (named_of (type_of t)) JSON ≡ is t JSON
only_json t = ap (λ (t : Named). is t JSON) (of_name t)

-- the decision on names is the one on definitions, where the old one is a type name
to_name : (d e : Located) → None ≡ generic_in e → subtype_name (type_in d) (type_in e) ≡ subtype (bare d) (bare e)
unfolding subtype_name
to_name (named-at p s) (named-at i t) q = ap₂ subtype_named (of_name s) (of_name t)
to_name (array_at p d) (named-at i t) q = only_json t
to_name (map_at p d) (named-at i t) q = only_json t
to_name (object-at p r o) (named-at i t) q = only_json t
to_name d (array_at i e) q = never (cc)
to_name d (map_at i e) q = never (cc)
to_name d (object-at i r o) q = never (cc)

-- only JSON takes every value
json_name : (e : Located) → subtype_name (Some Json) (type_in e) ≡ subtype (named JSON) (bare e)
unfolding subtype_name
json_name (named-at i t) = ap (subtype_named JSON) (of_name t)
json_name (array_at i e) = refl
json_name (map_at i e) = refl
json_name (object-at i r o) = refl

module _ {s t : List ℕ} {r : ℕ} where
  pub is_json_row : {g : Option TypeName} {b : Bool} → TypeRow s t r g → b ≡ subtype_name (Some Json) g → IsJsonRow s t r b
  is_json_row h e = record { tells = λ d. e ∙ ap (subtype_name (Some Json)) (h.tells d) ∙ json_name d.definition }

-- `carried`, where the old definition is a type name
pub by_name : {s₁ s₂ t₁ t₂ : List ℕ} {r₁ r₂ : ℕ} {g h : Option TypeName} {b : Bool} → GenericRow s₂ t₂ r₂ None
    → TypeRow s₁ t₁ r₁ g → TypeRow s₂ t₂ r₂ h → b ≡ subtype_name g h → Decided s₁ s₂ t₁ t₂ r₁ r₂ b
by_name o x y e = record {
  tells = λ p. e ∙ ap₂ subtype_name (x.tells p.new) (y.tells p.old) ∙ to_name p.new.definition p.old.definition (o.tells p.old);
}
