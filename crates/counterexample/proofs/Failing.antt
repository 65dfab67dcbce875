-- The witness against an Object is told by the first field that fails (schema's `first_failing`), and against JSON's values there is no choice.
use mathlib.Core.Path.{◌≡◌, refl, ap, ◌∙◌}
use mathlib.Core.Bool.{Bool, true, false, cond}
use mathlib.Core.List.{List}
use Prim.Native.Nat.{ℕ}
use Rattle.std.specs.Prelude.{Option, Some, None}
use Rattle.model.specs.Value.{Value, null}
use Rattle.model.specs.Definition.{JSON, Def, named, array_of, map_of, object-of, Fields, fnil, fcons}
use Rattle.model.specs.Subtype.{of_objects, field_or, under, requires, subtype}
use Rattle.model.specs.Witness.{sample, witness, witness_fields}
use Rattle.model.proofs.Basics.{by_test}
use Rattle.comparison.specs.Fields.{field_named, or_field, definition_under}
use Rattle.comparison.specs.Carrying.{field_subtype, first_failing}
use Rattle.comparison.proofs.Facts.{or_def, field_or_lem, field_any, field_all}
use Rattle.counterexample.specs.Writing.{failing_of, failing, failing_value}

-- the value that fails under the name found, or a sample
abbrev pub shown : Def → Option (List ℕ × Def) → Value
shown a None = sample a
shown a (Some f) = failing_value a f.0 f.1

optional_shown : (a : Def) (fs : Fields) → witness_fields false a fs (sample a) ≡ shown a (first_failing false a fs)
optional_shown a fnil = refl
optional_shown a (fcons n q fs) =
    rw (field_any a n q) (go (field_subtype false (definition_under false a n) q) (optional_shown a fs))
  where
    go : (b : Bool) → witness_fields false a fs (sample a) ≡ shown a (first_failing false a fs)
        → cond b (witness_fields false a fs (sample a)) (failing_value a n q) ≡ shown a (cond b (first_failing false a fs) (Some (n, q)))
    go true h = h
    go false h = refl

-- v is the value where no required field fails
abbrev of_required : Def → Value → Option (List ℕ × Def) → Value
of_required a v None = v
of_required a v (Some f) = cond (requires a f.0) (failing_value a f.0 f.1) (sample a)

required_shown : (a : Def) (v : Value) (fs : Fields) → witness_fields true a fs v ≡ of_required a v (first_failing true a fs)
required_shown a v fnil = refl
required_shown a v (fcons n q fs) =
    rw (← field_all a n q) (by_test (requires a n)
    (λ t. rw t (go (subtype (under a n) q) t (required_shown a v fs)))
    (λ f. rw f (rw f refl)))
  where
    go : (b : Bool) → requires a n ≡ true → witness_fields true a fs v ≡ of_required a v (first_failing true a fs)
        → cond b (witness_fields true a fs v) (failing_value a n q) ≡ of_required a v (cond b (first_failing true a fs) (Some (n, q)))
    go true t h = h
    go false t h = rw t refl

pub witness_object : (a : Def) (r o : Fields) → witness a (object-of r o) ≡ shown a (failing a (object-of r o))
witness_object a r o = go (of_objects a)
  where
    join : (x y : Option (List ℕ × Def)) → of_required a (shown a y) x ≡ shown a (failing_of a x y)
    join None y = refl
    join (Some f) y = both (requires a f.0)
      where
        both : (b : Bool) → cond b (failing_value a f.0 f.1) (sample a) ≡ shown a (cond b (Some f) None)
        both true = refl
        both false = refl

    go : (b : Bool) → cond b (witness_fields true a r (witness_fields false a o (sample a))) (sample a)
        ≡ shown a (cond b (failing_of a (first_failing true a r) (first_failing false a o)) None)
    go true =
        required_shown a (witness_fields false a o (sample a)) r
        ∙ ap (λ (v : Value). of_required a v (first_failing true a r)) (optional_shown a o)
        ∙ join (first_failing true a r) (first_failing false a o)
    go false = refl

-- JSON takes everything: its value is null, whatever the old definition is
pub witness_json : (q : Def) → witness (named JSON) q ≡ null
witness_json (named t) = refl
witness_json (array_of q) = refl
witness_json (map_of q) = refl
witness_json (object-of r o) = refl

-- what the new definition asks under a name, by what was found there
pub under_found : (a : Def) (n : List ℕ) → under a n ≡ or_def (named JSON) (definition_under false a n)
under_found (named t) n = refl
under_found (array_of d) n = refl
under_found (map_of d) n = refl
under_found (object-of r o) n = rw (field_or_lem (field_or (named JSON) n o) n r, field_or_lem (named JSON) n o) (go (field_named n r) (field_named n o))
  where
    go : (x y : Option Def) → or_def (or_def (named JSON) y) x ≡ or_def (named JSON) (or_field x y)
    go None y = refl
    go (Some d) y = refl
