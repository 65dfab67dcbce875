-- The decision that `failing_field` makes field by field is the one of `subtype` on definitions (01, demand 3).
use Prim.Native.Nat.{ℕ}
use mathlib.Core.Path.{◌≡◌, refl, ap, ap₂, ◌∙◌}
use mathlib.Core.Bool.{Bool, true, false, not, cond, ◌&&◌, ◌||◌}
use mathlib.Core.List.{List}
use Rattle.std.specs.Prelude.{Option, Some, None, is_some, is_none}
use Rattle.model.proofs.Basics.{never}
use Rattle.model.specs.Text.{same}
use Rattle.model.specs.Definition.{JSON, Def, named, array_of, map_of, object-of, Fields, fnil, fcons, has_field}
use Rattle.model.specs.Subtype.{subtype, subtype_fields, of_objects, field_or, under, requires, requires_all}
use Rattle.comparison.specs.Carrying.{field_subtype, first_failing, Fails}
use Rattle.comparison.specs.Fields.{field_named, or_field, definition_under}

-- ---- the decision on fields is the one on definitions

abbrev pub or_def : Def → Option Def → Def
or_def e None = e
or_def e (Some d) = d

pub field_or_lem : (e : Def) (n : List ℕ) (fs : Fields) → field_or e n fs ≡ or_def e (field_named n fs)
field_or_lem e n fnil = refl
field_or_lem e n (fcons m d fs) = choose (same n m) (field_or_lem e n fs)
  where
    choose : (b : Bool) → field_or e n fs ≡ or_def e (field_named n fs) → cond b d (field_or e n fs) ≡ or_def e (cond b (Some d) (field_named n fs))
    choose true h = refl
    choose false h = h

has_field_lem : (n : List ℕ) (fs : Fields) → has_field n fs ≡ is_some (field_named n fs)
has_field_lem n fnil = refl
has_field_lem n (fcons m d fs) = choose (same n m) (has_field_lem n fs)
  where
    choose : (b : Bool) → has_field n fs ≡ is_some (field_named n fs) → b || has_field n fs ≡ is_some (cond b (Some d) (field_named n fs))
    choose true h = refl
    choose false h = h

-- an optional field: what the new definition asks under its name is carried
pub field_any : (a : Def) (n : List ℕ) (q : Def) → subtype (under a n) q ≡ field_subtype false (definition_under false a n) q
field_any (named t) n q = refl
field_any (array_of d) n q = refl
field_any (map_of d) n q = refl
field_any (object-of r o) n q = rw (field_or_lem (field_or (named JSON) n o) n r, field_or_lem (named JSON) n o) (go (field_named n r) (field_named n o))
  where
    go : (x y : Option Def) → subtype (or_def (or_def (named JSON) y) x) q ≡ field_subtype false (or_field x y) q
    go None None = refl
    go None (Some d) = refl
    go (Some d) y = refl

-- a required field: it asks for the name too
pub field_all : (a : Def) (n : List ℕ) (q : Def) → requires a n && subtype (under a n) q ≡ field_subtype true (definition_under true a n) q
field_all (named t) n q = refl
field_all (array_of d) n q = refl
field_all (map_of d) n q = refl
field_all (object-of r o) n q = rw (field_or_lem (field_or (named JSON) n o) n r, has_field_lem n r) (go (field_named n r))
  where
    go : (x : Option Def) → is_some x && subtype (or_def (field_or (named JSON) n o) x) q ≡ field_subtype true x q
    go None = refl
    go (Some d) = refl

-- a is carried to each of the fields
abbrev pub none_fails : Bool → Def → Fields → Bool
none_fails required a fs = is_none (first_failing required a fs)

none_first : (b : Bool) (x : Option (List ℕ × Def)) (f : List ℕ × Def) → b && is_none x ≡ is_none (cond b x (Some f))
none_first true x f = refl
none_first false x f = refl

fields_any : (a : Def) (fs : Fields) → subtype_fields a fs ≡ none_fails false a fs
fields_any a fnil = refl
fields_any a (fcons n q fs) =
    ap₂ ◌&&◌ (field_any a n q) (fields_any a fs) ∙ none_first (field_subtype false (definition_under false a n) q) (first_failing false a fs) (n, q)

fields_all : (a : Def) (fs : Fields) (c : Bool) → requires_all a fs && (subtype_fields a fs && c) ≡ none_fails true a fs && c
fields_all a fnil c = refl
fields_all a (fcons n q fs) c =
    regroup (requires a n) (subtype (under a n) q) (requires_all a fs) (subtype_fields a fs) (none_fails true a fs) (fields_all a fs c)
    ∙ ap (λ (b : Bool). (b && none_fails true a fs) && c) (field_all a n q)
    ∙ ap (λ (b : Bool). b && c) (none_first (field_subtype true (definition_under true a n) q) (first_failing true a fs) (n, q))
  where
    no_second : (b : Bool) → b && false ≡ false
    no_second true = refl
    no_second false = refl

    regroup : (r s rs ss fs : Bool) → rs && (ss && c) ≡ fs && c → (r && rs) && ((s && ss) && c) ≡ ((r && s) && fs) && c
    regroup true true rs ss fs h = h
    regroup true false rs ss fs h = no_second rs
    regroup false s rs ss fs h = refl

-- to an Object: only objects meet the new definition, and it is carried to the required and to the optional fields
pub objects_subtype : (a : Def) (r o : Fields) → of_objects a ≡ true → subtype a (object-of r o) ≡ none_fails true a r && none_fails false a o
objects_subtype a r o h = rw h (fields_all a r (subtype_fields a o) ∙ ap (λ (b : Bool). none_fails true a r && b) (fields_any a o))

-- there is a row of one that fails just where one does
pub fails_none : (s t : List ℕ) (r v : Option ℕ) (x : Option (List ℕ × Def)) (b : Bool) → Fails s t r v x → is_some v ≡ not b → b ≡ is_none x
fails_none s t r None None true h q = refl
fails_none s t r None None false h q = never (cc)
fails_none s t r None (Some f) b h q = absurd h
fails_none s t r (Some v) None b h q = absurd h
fails_none s t r (Some v) (Some f) true h q = never (cc)
fails_none s t r (Some v) (Some f) false h q = refl
