-- A value of another kind is no definition, no body of an Object, and no "required" or "optional" (01, "Definitions").
use Prim.Native.Nat.{ℕ}
use mathlib.Core.Path.{◌≡◌, refl}
use mathlib.Core.List.{List}
use Rattle.tokens.specs.declared.tokens.Kind.TheVariants.{Null, False, True, Whole, Fractional, Quoted}
use Rattle.syntax.specs.Tree.{Node, scalar, array, object, place_of}
use Rattle.definitions.specs.Definitions.{faulty, wrong, definition_at, body_at, part_of}
use Rattle.definitions.specs.declared.definitions.FaultCode.TheVariants.{NoDefinition}
use Rattle.rows.proofs.Facts.{kind_of}

pub no_body : (s : List ℕ) (p : ℕ) (n : Node) → (kind_of n ≡ 8 → ⊥) → body_at s p n ≡ faulty NoDefinition (place_of n)
no_body s p (scalar k f e) h = refl
no_body s p (array f e ns) h = refl
no_body s p (object f e ms) h = absurd (h refl)

pub no_part : (s : List ℕ) (n : Node) → (kind_of n ≡ 8 → ⊥) → part_of s n ≡ wrong (place_of n)
no_part s (scalar k f e) h = refl
no_part s (array f e ns) h = refl
no_part s (object f e ms) h = absurd (h refl)

pub no_definition : (s : List ℕ) (n : Node) → (kind_of n ≡ 6 → ⊥) → (kind_of n ≡ 8 → ⊥) → definition_at s n ≡ faulty NoDefinition (place_of n)
no_definition s (scalar Null f e) h g = refl
no_definition s (scalar False f e) h g = refl
no_definition s (scalar True f e) h g = refl
no_definition s (scalar Whole f e) h g = refl
no_definition s (scalar Fractional f e) h g = refl
no_definition s (scalar Quoted f e) h g = absurd (h refl)
no_definition s (array f e ns) h g = refl
no_definition s (object f e ms) h g = absurd (g refl)
