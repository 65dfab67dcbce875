-- The name under which the witness against an Object fails, on plain values: one law for each way out of `failing_name`.
use Prim.Native.Nat.{ℕ, ◌+◌, ◌-◌, ◌≤◌, ◌<◌}
use mathlib.Core.Path.{◌≡◌, refl, sym, ap, ◌∙◌, subst}
use mathlib.Core.Bool.{Bool, true, false, ◌&&◌}
use mathlib.Core.List.{List}
use native.Mathlib.Omega.{arith}
use lib.ListN.{length}
use Rattle.std.specs.Prelude.{Option, Some, None, is_some}
use Rattle.model.specs.Text.{text}
use Rattle.model.specs.Definition.{JSON, Def, named, array_of, map_of, object-of}
use Rattle.model.specs.Subtype.{subtype, under, requires}
use Rattle.chars.specs.Strings.{characters, part}
use Rattle.tokens.specs.Spelling.{IsQuoted}
use Rattle.syntax.specs.Grammar.{name_of}
use Rattle.syntax.specs.Holding.{word}
use Rattle.definitions.specs.Definitions.{bare, bare_fields}
use Rattle.rows.specs.Records.{InTable, Reads}
use Rattle.rows.specs.declared.records.Record.{Record}
use Rattle.rows.proofs.Facts.{quotes_read}
use Rattle.rows.specs.Finding.{Finds}
use Rattle.definitions.specs.Shapes.{DefinedRow, OfObjectsRow}
use Rattle.comparison.specs.Fields.{definition_under, Gives, FindsUnder}
use Rattle.comparison.specs.Carrying.{Pairing, PairingTo, field_subtype, first_failing, FieldsPairing, Fails, FieldsFailing}
use Rattle.definitions.specs.declared.types.Generic.TheVariants.{Object}
use Rattle.definitions.proofs.Facts.{part_rows, Fielded, object_fields}
use Rattle.comparison.proofs.Facts.{field_all, object_less, required_pair, optional_pair}
use Rattle.counterexample.specs.Writing.{failing_of, failing, FailingName}

-- ---- a name that the new definition asks for

takes_all : (a : Def) → subtype a (named JSON) ≡ true
takes_all (named t) = refl
takes_all (array_of d) = refl
takes_all (map_of d) = refl
takes_all (object-of r o) = refl

-- it has a definition under it
requires_some : (a : Def) (n : List ℕ) → requires a n ≡ is_some (definition_under true a n)
requires_some a n = go (requires a n) (definition_under true a n) (rw (takes_all (under a n)) at (field_all a n (named JSON)))
  where
    go : (b : Bool) (x : Option Def) → b && true ≡ field_subtype true x (named JSON) → b ≡ is_some x
    go true None h = h
    go true (Some d) h = refl
    go false None h = refl
    go false (Some d) h = h ∙ takes_all d

-- v was found for it
found_requires : {s t n : List ℕ} {r : ℕ} {v : Option ℕ} → FindsUnder s t r n true v → (d : DefinedRow s t r) → requires (bare d.definition) n ≡ is_some v
found_requires {s} {t} {n} {r} {v} g d = requires_some (bare d.definition) n ∙ go v (definition_under true (bare d.definition) n) (g.tells d)
  where
    go : (v : Option ℕ) (x : Option Def) → Gives s t v x → is_some x ≡ is_some v
    go None None h = refl
    go None (Some d) h = absurd h
    go (Some v) None h = absurd h
    go (Some v) (Some d) h = refl

-- ---- the field that fails

module _ (s t : List ℕ) where
  -- among the fields at row r, so among the rows of the definition at row q
  widened : (r : Option ℕ) (q : ℕ) (v : Option ℕ) (x : Option (List ℕ × Def)) → part_rows t r < word t q 4 → Fails s t r v x → Fails s t (Some q) v x
  widened r q None None l h = h
  widened r q None (Some f) l h = absurd h
  widened r q (Some v) None l h = absurd h
  widened None q (Some v) (Some f) l h = absurd h
  widened (Some r) q (Some v) (Some f) l h = (
    h.0,
    record {
      name = h.1.name;
      quoted = h.1.quoted;
      is = h.1.is;
      value = h.1.value;
      defines = h.1.defines;
      less = omega (arith, l, h.1.less);
    },
  )

  -- x is the first that is required, y the first that is optional
  module _ (r : ℕ) (a : Def) (x y : Option (List ℕ × Def)) where
    module _ (v : ℕ) (h : Fails s t (Some r) (Some v) x) where
      abbrev asked : Bool
      asked = requires a (name_of s (word t v 1) (word t v 2))

      fails_asked : asked ≡ true → Fails s t (Some r) (Some v) (failing_of a x y)
      fails_asked q = go x h
        where
          go : (x : Option (List ℕ × Def)) → Fails s t (Some r) (Some v) x → Fails s t (Some r) (Some v) (failing_of a x y)
          go None h = absurd h
          go (Some f) h = rw (sym (ap (requires a) h.1.is) ∙ q) h

      fails_unasked : asked ≡ false → Fails s t (Some r) None (failing_of a x y)
      fails_unasked q = go x h
        where
          go : (x : Option (List ℕ × Def)) → Fails s t (Some r) (Some v) x → Fails s t (Some r) None (failing_of a x y)
          go None h = absurd h
          go (Some f) h = rw (sym (ap (requires a) h.1.is) ∙ q) tt

    fails_optional : Fails s t (Some r) None x → (w : Option ℕ) → Fails s t (Some r) w y → Fails s t (Some r) w (failing_of a x y)
    fails_optional h w k = go x h
      where
        go : (x : Option (List ℕ × Def)) → Fails s t (Some r) None x → Fails s t (Some r) w (failing_of a x y)
        go None h = k
        go (Some f) h = absurd h

-- the row of its name
failing_at : {s₁ s₂ t₁ t₂ : List ℕ} {r₁ : ℕ} {r₂ : Option ℕ} {required : Bool} {v : ℕ}
    → FieldsFailing s₁ s₂ t₁ t₂ r₁ r₂ required (Some v) → FieldsPairing s₁ s₂ t₁ t₂ r₁ r₂ → InTable t₂ v × IsQuoted s₂ (word t₂ v 1) (word t₂ v 2)
failing_at {s₂ = s₂} {t₂ = t₂} {r₂ = r₂} {required = required} {v = v} k p =
    go r₂ (first_failing required (bare p.new.definition) (bare_fields p.old.fields)) (k.tells p)
  where
    go : (r : Option ℕ) (x : Option (List ℕ × Def)) → Fails s₂ t₂ r (Some v) x → InTable t₂ v × IsQuoted s₂ (word t₂ v 1) (word t₂ v 2)
    go r None h = absurd h
    go None (Some f) h = absurd h
    go (Some r) (Some f) h = (h.1.name, h.1.quoted)

-- ---- `failing_name`

module _ {s₁ s₂ t₁ t₂ : List ℕ} {r₁ r₂ : ℕ} (i : PairingTo s₁ s₂ t₁ t₂ r₁ r₂ Object) where
  abbrev old_object : (p : Pairing s₁ s₂ t₁ t₂ r₁ r₂) → Fielded s₂ t₂ r₂ (bare p.old.definition)
  old_object p = object_fields i.is p.old

  pub name_other : OfObjectsRow s₁ t₁ r₁ false → FailingName s₁ s₂ t₁ t₂ r₁ r₂ None
  name_other h = record { tells = λ p. rw (old_object p).is (rw (sym (h.tells p.new)) tt) }

  -- the row of "required"
  module _ {v : Option ℕ} (f : Finds s₂ t₂ (r₂ + 2) (text "required") v) where
    -- `failing_field` answers row w for it
    module _ {w : ℕ} (k : FieldsFailing s₁ s₂ t₁ t₂ r₁ v true (Some w)) where
      pub failing_row : InTable t₂ w
      failing_row = (failing_at k (required_pair i f i.given)).0

      pub failing_quotes : {x : Record} → Reads t₂ w x → (x.first + 2 ≤ x.end) × (x.end ≤ length s₂)
      failing_quotes q = quotes_read q (failing_at k (required_pair i f i.given)).1

    -- only objects meet the new definition
    module _ (h : OfObjectsRow s₁ t₁ r₁ true) where
      abbrev first : Pairing s₁ s₂ t₁ t₂ r₁ r₂ → Option (List ℕ × Def)
      first p = first_failing true (bare p.new.definition) (bare_fields (old_object p).required)

      abbrev second : Pairing s₁ s₂ t₁ t₂ r₁ r₂ → Option (List ℕ × Def)
      second p = first_failing false (bare p.new.definition) (bare_fields (old_object p).optional)

      both : (p : Pairing s₁ s₂ t₁ t₂ r₁ r₂)
          → failing_of (bare p.new.definition) (first p) (second p) ≡ failing (bare p.new.definition) (bare p.old.definition)
      both p = rw (old_object p).is (rw (sym (h.tells p.new)) refl)

      module _ {w : Option ℕ} (k : FieldsFailing s₁ s₂ t₁ t₂ r₁ v true w) where
        first_fails : (p : Pairing s₁ s₂ t₁ t₂ r₁ r₂) → Fails s₂ t₂ (Some r₂) w (first p)
        first_fails p = widened s₂ t₂ v r₂ w (first p) (object_less i f) (k.tells (required_pair i f p))

      -- row w: the name there, between its quotes, is sought in the new definition
      module _ {w : ℕ} (k : FieldsFailing s₁ s₂ t₁ t₂ r₁ v true (Some w)) {x : Record} (q : Reads t₂ w x)
          {y : List ℕ} (z : y ≡ part s₂ (x.first + 1) (x.end - 1)) where
        asks : {u : Option ℕ} → FindsUnder s₁ t₁ r₁ (characters y) true u → (p : Pairing s₁ s₂ t₁ t₂ r₁ r₂)
            → requires (bare p.new.definition) (name_of s₂ (word t₂ w 1) (word t₂ w 2)) ≡ is_some u
        asks g p = found_requires (rw (z, q.first, q.last) at g) p.new

        pub name_required : {u : ℕ} → FindsUnder s₁ t₁ r₁ (characters y) true (Some u) → FailingName s₁ s₂ t₁ t₂ r₁ r₂ (Some w)
        name_required g = record {
          tells = λ p.
              subst (Fails s₂ t₂ (Some r₂) (Some w)) (both p)
              (fails_asked s₂ t₂ r₂ (bare p.new.definition) (first p) (second p) w (first_fails k p) (asks g p));
        }

        -- it asks for no value under the name, so a sample lacks it
        pub name_lacking : FindsUnder s₁ t₁ r₁ (characters y) true None → FailingName s₁ s₂ t₁ t₂ r₁ r₂ None
        name_lacking g = record {
          tells = λ p.
              subst (Fails s₂ t₂ (Some r₂) None) (both p)
              (fails_unasked s₂ t₂ r₂ (bare p.new.definition) (first p) (second p) w (first_fails k p) (asks g p));
        }

      -- none of them: the row of "optional"
      pub name_optional : FieldsFailing s₁ s₂ t₁ t₂ r₁ v true None → {u : Option ℕ} → Finds s₂ t₂ (r₂ + 2) (text "optional") u
          → {x : Option ℕ} → FieldsFailing s₁ s₂ t₁ t₂ r₁ u false x → FailingName s₁ s₂ t₁ t₂ r₁ r₂ x
      name_optional k {u} g {x} m = record {
        tells = λ p.
            subst (Fails s₂ t₂ (Some r₂) x) (both p)
            (fails_optional s₂ t₂ r₂ (bare p.new.definition) (first p) (second p) (first_fails k p) x
            (widened s₂ t₂ u r₂ x (second p) (object_less i g) (m.tells (optional_pair i g p))));
      }
