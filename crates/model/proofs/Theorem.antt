-- The decision of Compare is right (01, demand 3): of two schemas' definitions, `subtype` says whether the new one is carried to the old one.
use mathlib.Core.Path.{◌≡◌}
use mathlib.Core.Bool.{true, false}
use mathlib.Core.Option.{some}
use Rattle.model.specs.Value.{Value, IsJson}
use Rattle.model.specs.Definition.{Def, definition_of}
use Rattle.model.specs.Carried.{Carried, NotCarried}
use Rattle.model.specs.Subtype.{subtype}
use Rattle.model.proofs.Sound.{sound}
use Rattle.model.proofs.Complete.{complete}
use Rattle.model.proofs.Formed.{WellFormed, definition_formed}

-- over definitions; the first half needs neither condition
pub subtype_true : (a b : Def) → subtype a b ≡ true → Carried a b
subtype_true a b e v j m = sound b a e v m

pub subtype_false : (a b : Def) → WellFormed a → WellFormed b → subtype a b ≡ false → NotCarried a b
subtype_false a b k l e = complete b a l k e

-- over schemas, as JSON values
pub record Decided (a b : Def) : Type 0 where
  pub carried : subtype a b ≡ true → Carried a b
  pub not_carried : subtype a b ≡ false → NotCarried a b

pub decided : (new old : Value) → IsJson new → IsJson old → (a b : Def) → definition_of new ≡ some a → definition_of old ≡ some b → Decided a b
decided new old i j a b p q = record {
  carried = subtype_true a b;
  not_carried = subtype_false a b (definition_formed new i a p) (definition_formed old j b q);
}
