-- The definition that one has under a name, by rows: a law for each way out of the look-ups of fields.rt.
use Prim.Native.Nat.{ℕ, ◌+◌, ◌≤◌, ◌<◌}
use mathlib.Core.Path.{◌≡◌, refl}
use mathlib.Core.Bool.{Bool, true, false, not, cond}
use mathlib.Core.List.{List}
use native.Mathlib.Omega.{arith}
use lib.ListN.{length, replicate, length-replicate, get_or-replicate}
use Rattle.std.specs.Prelude.{Option, Some, None, is_some}
use Rattle.std.specs.Bool.{then_some}
use Rattle.model.proofs.Basics.{never}
use Rattle.model.specs.Text.{text, same}
use Rattle.model.specs.Definition.{Def}
use Rattle.syntax.specs.Tree.{Members, no_member, member}
use Rattle.syntax.specs.Grammar.{name_of}
use Rattle.syntax.specs.Rows.{count_members}
use Rattle.syntax.specs.Holding.{word, PlacedMembers}
use Rattle.definitions.specs.Definitions.{LocatedFields, no_field, fine, definition_at, fields_at, bare, bare_fields}
use Rattle.rows.specs.Finding.{lookup, Agrees, Finds}
use Rattle.rows.specs.Records.{InTable, ObjectRow}
use Rattle.rows.specs.Matching.{member_name, found_at, Matches}
use Rattle.definitions.specs.Shapes.{DefinedRow, GenericRow}
use Rattle.comparison.specs.Fields.{field_named, or_field, Gives, FindsField, FindsUnder, MatchesFields, MatchesUnder}
use Rattle.definitions.specs.declared.types.Generic.TheVariants.{Array, Map, Object}
use Rattle.definitions.proofs.Facts.{Added, added_fine, in_name, in_array, in_map, object_fields, required_fields, optional_fields}
use Rattle.rows.proofs.Facts.{in_table, part_object, members_start}

-- ---- the definition under a name

module _ (s t key : List ℕ) where
  none_agrees : (v : Option ℕ) → Agrees t v None → Gives s t v None
  none_agrees None a = a
  none_agrees (Some v) a = absurd a

  -- the value that was looked up is the field's definition
  field_agrees : (v : Option ℕ) (ms : Members) (fs : LocatedFields) → fields_at s ms ≡ fine fs → PlacedMembers s ms
      → Agrees t v (lookup s key ms) → Gives s t v (field_named key (bare_fields fs))
  field_agrees v no_member fs q p a = let x : fs ≡ no_field = cc in rw x (none_agrees v a)
  field_agrees v (member f e n ms) fs q p a =
      let k = added_fine f (name_of s f e) (definition_at s n) (fields_at s ms) fs q in
      rw k.adds (choose v k (same key (name_of s f e)) (field_agrees v ms k.others k.define p.2) a)
    where
      choose : (v : Option ℕ) (k : Added f (name_of s f e) (definition_at s n) (fields_at s ms) fs) (b : Bool)
          → (Agrees t v (lookup s key ms) → Gives s t v (field_named key (bare_fields k.others)))
          → Agrees t v (cond b (Some n) (lookup s key ms)) → Gives s t v (cond b (Some (bare k.definition)) (field_named key (bare_fields k.others)))
      choose None k true g a = a
      choose (Some v) k true g a = (a.0, record { row = record { tree = n; holds = a.1; placed = p.1 }; definition = k.definition; defines = k.defines }, refl)
      choose v k false g a = g a

module _ {s t key : List ℕ} {r : Option ℕ} where
  -- `find_field`
  pub field_found : {o : ℕ} → r ≡ Some o → {v : Option ℕ} → Finds s t o key v → FindsField s t r key v
  field_found e {v} h = record {
    tells = λ f. (let o = part_object f.part e in field_agrees s t key v f.part.members f.fields f.defines o.placed.2 (h.tells o));
  }

-- v was found for the first of two, and w else for the second
gives_either : (s t : List ℕ) (x y : Option Def) (v w : Option ℕ) → Gives s t v x → (v ≡ None → Gives s t w y) → ((u : ℕ) → v ≡ Some u → w ≡ v)
    → Gives s t w (or_field x y)
gives_either s t None y None w g h k = h refl
gives_either s t None y (Some v) w g h k = absurd g
gives_either s t (Some d) y None w g h k = absurd g
gives_either s t (Some d) y (Some v) w g h k = rw (k v refl) g

gives_first : (s t : List ℕ) (x y : Option Def) (v : Option ℕ) (required : Bool) → Gives s t v x → true ≡ is_some v → Gives s t v (cond required x (or_field x y))
gives_first s t x y None required g e = never (cc)
gives_first s t None y (Some v) required g e = absurd g
gives_first s t (Some d) y (Some v) true g e = g
gives_first s t (Some d) y (Some v) false g e = g

-- `find_in_object`: the fields under "required" are at row v₁, where there are any, and v was found there
module _ {s t : List ℕ} {r : ℕ} (o : GenericRow s t r (Some Object)) {key : List ℕ} {required : Bool} {v₁ v : Option ℕ}
    (f : Finds s t (r + 2) (text "required") v₁) (h : FindsField s t v₁ key v) where
  pub in_required : required ≡ true → FindsUnder s t r key required v
  in_required e = record { tells = λ d. rw ((object_fields o d).is, e) (h.tells (required_fields o f d)) }

  pub in_first : true ≡ is_some v → FindsUnder s t r key required v
  in_first e = record { tells = λ d. rw (object_fields o d).is (gives_first s t _ _ v required (h.tells (required_fields o f d)) e) }

  -- a required name goes before an optional one
  pub in_either : required ≡ false → {v₂ w : Option ℕ} → Finds s t (r + 2) (text "optional") v₂
      → (v ≡ None → FindsField s t v₂ key w) → ((u : ℕ) → v ≡ Some u → w ≡ v) → FindsUnder s t r key required w
  in_either e {w = w} g k z = record {
    tells = λ d.
        rw ((object_fields o d).is, e)
        (gives_either s t _ _ v w (h.tells (required_fields o f d)) (λ n. (k n).tells (optional_fields o g d)) z);
  }

-- `match_fields`
module _ {s₁ t₁ : List ℕ} {r₁ : Option ℕ} {s₂ t₂ : List ℕ} {r₂ : ℕ} {vs : List (Option ℕ)} where
  pub match_some : {r : ℕ} → r₁ ≡ Some r → {vs₂ : List (Option ℕ)} → Matches s₁ t₁ r s₂ t₂ r₂ vs vs₂ → MatchesFields s₁ t₁ r₁ s₂ t₂ r₂ vs vs₂
  match_some e m = record { long = m.long; fresh = λ o j k z. field_found e ((m.tells o j k).fresh z); kept = λ o j k z. (m.tells o j k).kept z }

-- nothing is found in room for k
pub none_length : {k : ℕ} {vs : List (Option ℕ)} → vs ≡ replicate k None → length vs ≡ k
none_length {k} e = rw e (length-replicate {A = Option ℕ} k None)

-- `match_under`: vs was found in "required"
module _ {k : ℕ} {s₁ t₁ : List ℕ} {r₁ : ℕ} {s₂ t₂ : List ℕ} {r₂ : ℕ} (o : GenericRow s₁ t₁ r₁ (Some Object)) (few : word t₂ r₂ 3 ≤ k)
    {v₁ : Option ℕ} (f : Finds s₁ t₁ (r₁ + 2) (text "required") v₁)
    {vs : List (Option ℕ)} (h : MatchesFields s₁ t₁ v₁ s₂ t₂ r₂ (replicate k None) vs) where
  first_found : (p : ObjectRow s₂ t₂ r₂) (j : ℕ) → j < count_members p.members → FindsField s₁ t₁ v₁ (member_name s₂ p.members j) (found_at vs j)
  first_found p j l = h.fresh p j l (get_or-replicate k j None None (omega (arith, few, (members_start {left = word t₂ r₂ 3} p refl).counts)))

  pub under_required : {required : Bool} → required ≡ true → MatchesUnder s₁ t₁ r₁ s₂ t₂ r₂ required vs
  under_required e = record { tells = λ p j l. in_required o f (first_found p j l) e }

  pub under_any : {required : Bool} → required ≡ false → {v₂ : Option ℕ} → Finds s₁ t₁ (r₁ + 2) (text "optional") v₂
      → {vs₂ : List (Option ℕ)} → MatchesFields s₁ t₁ v₂ s₂ t₂ r₂ vs vs₂ → MatchesUnder s₁ t₁ r₁ s₂ t₂ r₂ required vs₂
  under_any e g m = record { tells = λ p j l. in_either o f (first_found p j l) e g (m.fresh p j l) (λ u z. m.kept p j l z) }

-- `find_under`
module _ {s t : List ℕ} {r : ℕ} where
  -- the row of a Map's definition
  pub map_inside : GenericRow s t r (Some Map) → DefinedRow s t r → InTable t (r + 2)
  map_inside h d = in_table (in_map d (h.tells d)).inner.row

  module _ {key : List ℕ} {required : Bool} where
    pub under_array : GenericRow s t r (Some Array) → FindsUnder s t r key required None
    under_array h = record { tells = λ d. rw (in_array d (h.tells d)).is tt }

    pub under_name : GenericRow s t r None → FindsUnder s t r key required None
    under_name h = record { tells = λ d. rw (in_name d (h.tells d)).1 tt }

    pub under_map : GenericRow s t r (Some Map) → {v : Option ℕ} → v ≡ then_some (not required) (r + 2) → FindsUnder s t r key required v
    under_map h e = record { tells = λ d. (let m = in_map d (h.tells d) in rw (e, m.is) (go required m.inner)) }
      where
        go : (b : Bool) (d : DefinedRow s t (r + 2)) → Gives s t (then_some (not b) (r + 2)) (cond b None (Some (bare d.definition)))
        go true d = tt
        go false d = (omega arith, d, refl)
