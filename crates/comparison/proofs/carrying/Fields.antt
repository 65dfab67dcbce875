-- Whether a new definition is carried to the fields of an old Object: `InFields` and `InWide` are the invariants of the loops over them,
-- with a law for each way through (`failing_field`, `failing_found`, `carried_found`).
use Prim.Native.Nat.{ℕ, ◌+◌, ◌≤◌, ◌<◌}
use mathlib.Core.Path.{◌≡◌, refl, sym, ap, subst, ◌∙◌}
use mathlib.Core.Bool.{Bool, true, false, cond}
use mathlib.Core.List.{List}
use native.Mathlib.Omega.{arith}
use Rattle.std.specs.Prelude.{Option, Some, None}
use Rattle.model.specs.Definition.{Def}
use Rattle.model.specs.Subtype.{subtype}
use Rattle.syntax.specs.Grammar.{name_of}
use Rattle.syntax.specs.Holding.{word}
use Rattle.definitions.specs.Definitions.{LocatedFields, bare, bare_fields}
use Rattle.comparison.specs.Carrying.{Pairing, Decided, field_subtype, first_failing, FieldPairing, FieldDecided, FieldsPairing}
use Rattle.comparison.specs.Carrying.{FieldAt, Fails, FieldsFailing}
use Rattle.rows.specs.Children.{Passes, Begins}
use Rattle.rows.specs.declared.children.Children.{Children}
use Rattle.definitions.specs.Shapes.{DefinedRow}
use Rattle.comparison.specs.Fields.{definition_under, Gives, FindsUnder, MatchesUnder}
use Rattle.definitions.proofs.Facts.{FieldsLeft, FieldHere, field_here, fields_none, fields_start, fields_end, same_fields}
use Rattle.rows.proofs.Facts.{part_object, MemberHere, members_start, name_here}
use Rattle.rows.proofs.Facts.{Answers, answers_start, answers_here, answers_next}
use Rattle.rows.specs.Matching.{found_at}

-- ---- the old fields, one after the other

module _ {s₁ s₂ t₁ t₂ : List ℕ} {r₁ : ℕ} {r₂ : Option ℕ} (required : Bool) (p : FieldsPairing s₁ s₂ t₁ t₂ r₁ r₂) where
  -- the first of the fields fs to which the new definition is not carried
  abbrev pub failing : LocatedFields → Option (List ℕ × Def)
  failing fs = first_failing required (bare p.new.definition) (bare_fields fs)

-- before the fields at row r₂ whose names are left: none before them fails
pub record InFields (s₁ s₂ t₁ t₂ : List ℕ) (r₁ r₂ : ℕ) (required : Bool) (c : Children 1) : Type 0 where
  pub given : FieldsPairing s₁ s₂ t₁ t₂ r₁ (Some r₂)
  pub past : 0 < c.row
  pub fields : LocatedFields
  pub ahead : FieldsLeft s₂ t₂ (Some r₂) c fields
  pub stays : (p : FieldsPairing s₁ s₂ t₁ t₂ r₁ (Some r₂)) → failing required p fields ≡ failing required p p.old.fields

module _ {s₁ s₂ t₁ t₂ : List ℕ} {r₁ : ℕ} {required : Bool} where
  pub failing_absent : FieldsFailing s₁ s₂ t₁ t₂ r₁ None required None
  failing_absent = record { tells = λ p. rw (fields_none p.old) tt }

module _ {s₁ s₂ t₁ t₂ : List ℕ} {r₁ r₂ : ℕ} {required : Bool} {c : Children 1} where
  pub failing_start : (p : FieldsPairing s₁ s₂ t₁ t₂ r₁ (Some r₂)) → Begins t₂ r₂ c → InFields s₁ s₂ t₁ t₂ r₁ r₂ required c
  failing_start p b = record {
    given = p;
    past = omega (arith, b.row);
    fields = p.old.fields;
    ahead = fields_start p.old b;
    stays = λ q. ap (failing required q) (same_fields p.old q.old);
  }

  module _ (a : InFields s₁ s₂ t₁ t₂ r₁ r₂ required c) where
    pub failing_end : c.left ≡ 0 → FieldsFailing s₁ s₂ t₁ t₂ r₁ (Some r₂) required None
    failing_end l = record { tells = λ p. subst (Fails s₂ t₂ (Some r₂) None) (rw (fields_end a.ahead l) at (a.stays p)) tt }

    module _ {row : ℕ} {d : Children 1} (p : Passes c row d) where
      abbrev field : FieldHere s₂ t₂ (Some r₂) row d a.fields
      field = field_here a.ahead p

      field_at : FieldAt s₂ t₂ r₂ row (name_of s₂ (word t₂ row 1) (word t₂ row 2)) (bare field.row.definition)
      field_at = record { name = field.name; quoted = field.quoted; is = refl; value = field.row; defines = refl; less = field.less }

      abbrev with_new : DefinedRow s₁ t₁ r₁ → FieldPairing s₁ s₂ t₁ t₂ r₁ row
      with_new n = record { new = n; name = field.name; quoted = field.quoted; old = field.row }

      pub field_pair : FieldPairing s₁ s₂ t₁ t₂ r₁ row
      field_pair = with_new a.given.new

      pub field_less : word t₂ (row + 1) 4 < word t₂ r₂ 4
      field_less = field.less

      -- this field where it fails, and else the first of those behind it
      all_fields : {b : Bool} → FieldDecided s₁ s₂ t₁ t₂ r₁ row required b → (q : FieldsPairing s₁ s₂ t₁ t₂ r₁ (Some r₂))
          → cond b (failing required q field.others) (Some (name_of s₂ (word t₂ row 1) (word t₂ row 2), bare field.row.definition))
          ≡ failing required q q.old.fields
      all_fields h q = rw (h.tells (with_new q.new)) (sym (ap (first_failing required (bare q.new.definition)) field.is) ∙ a.stays q)

      pub field_fails : FieldDecided s₁ s₂ t₁ t₂ r₁ row required false → FieldsFailing s₁ s₂ t₁ t₂ r₁ (Some r₂) required (Some row)
      field_fails h = record { tells = λ q. subst (Fails s₂ t₂ (Some r₂) (Some row)) (all_fields h q) (omega (arith, a.past, p.is), field_at) }

      pub field_next : FieldDecided s₁ s₂ t₁ t₂ r₁ row required true → InFields s₁ s₂ t₁ t₂ r₁ r₂ required d
      field_next h = record {
        given = a.given;
        past = omega (arith, a.past, p.row);
        fields = field.others;
        ahead = field.behind;
        stays = all_fields h;
      }

-- the same where what the new definition has under each name was found before, in vs: i fields are compared, and there is room for these and those that are left
pub record InWide (room : ℕ) (s₁ s₂ t₁ t₂ : List ℕ) (r₁ r₂ : ℕ) (required : Bool) (vs : List (Option ℕ)) (i : ℕ) (c : Children 1) : Type 0 where
  pub few : i + c.left ≤ room
  pub ahead : InFields s₁ s₂ t₁ t₂ r₁ r₂ required c
  pub matched : Answers (λ n v. FindsUnder s₁ t₁ r₁ n required v) s₂ ahead.ahead.rest vs i c.left

module _ {room : ℕ} {s₁ s₂ t₁ t₂ : List ℕ} {r₁ r₂ : ℕ} {required : Bool} {vs : List (Option ℕ)} {c : Children 1} where
  pub wide_start : (p : FieldsPairing s₁ s₂ t₁ t₂ r₁ (Some r₂)) → Begins t₂ r₂ c → word t₂ r₂ 3 ≤ room → MatchesUnder s₁ t₁ r₁ s₂ t₂ r₂ required vs
      → InWide room s₁ s₂ t₁ t₂ r₁ r₂ required vs 0 c
  unfolding failing_start
  wide_start p b few m =
      let o = part_object p.old.part refl in
      let n = (members_start o b.left).counts in
      record {
        few = omega (arith, b.left);
        ahead = failing_start p b;
        matched = answers_start (λ j h. m.tells o j (omega arith));
      }

  module _ {i : ℕ} (a : InWide room s₁ s₂ t₁ t₂ r₁ r₂ required vs i c) {row : ℕ} {d : Children 1} (p : Passes c row d) where
    abbrev member : MemberHere s₂ t₂ row a.ahead.ahead.rest
    member = name_here a.ahead.ahead.ahead p

    pub wide_found : FindsUnder s₁ t₁ r₁ (name_of s₂ (word t₂ row 1) (word t₂ row 2)) required (found_at vs i)
    wide_found = answers_here a.matched p member

    pub wide_next : FieldDecided s₁ s₂ t₁ t₂ r₁ row required true → InWide room s₁ s₂ t₁ t₂ r₁ r₂ required vs (i + 1) d
    unfolding field_next
    wide_next h = record {
      few = omega (arith, a.few, p.some, p.left);
      ahead = field_next a.ahead p h;
      matched = answers_next a.matched p member;
    }

-- ---- one field: v was found for its name in the new definition

-- what the new definition has under the name
abbrev has : {s₁ s₂ t₁ t₂ : List ℕ} {r₁ r₂ : ℕ} → Bool → FieldPairing s₁ s₂ t₁ t₂ r₁ r₂ → Option Def
has {s₂ = s₂} {t₂ = t₂} {r₂ = r₂} required p = definition_under required (bare p.new.definition) (name_of s₂ (word t₂ r₂ 1) (word t₂ r₂ 2))

module _ {s₁ s₂ t₁ t₂ : List ℕ} {r₁ r₂ v : ℕ} {required : Bool}
    (f : FindsUnder s₁ t₁ r₁ (name_of s₂ (word t₂ r₂ 1) (word t₂ r₂ 2)) required (Some v)) where
  pub found_pair : FieldPairing s₁ s₂ t₁ t₂ r₁ r₂ → Pairing s₁ s₂ t₁ t₂ v (r₂ + 1)
  found_pair p = record { new = go (has required p) (f.tells p.new); old = p.old }
    where
      go : (o : Option Def) → Gives s₁ t₁ (Some v) o → DefinedRow s₁ t₁ v
      go None g = absurd g
      go (Some d) g = g.1

  pub field_carried : {b : Bool} → Decided s₁ s₂ t₁ t₂ v (r₂ + 1) b → FieldDecided s₁ s₂ t₁ t₂ r₁ r₂ required b
  field_carried {b} h = record { tells = λ p. go p (has required p) (f.tells p.new) }
    where
      go : (p : FieldPairing s₁ s₂ t₁ t₂ r₁ r₂) (o : Option Def) → Gives s₁ t₁ (Some v) o → b ≡ field_subtype required o (bare p.old.definition)
      go p None g = absurd g
      go p (Some d) g = h.tells (record { new = g.1; old = p.old }) ∙ ap (λ (d : Def). subtype d (bare p.old.definition)) g.2
