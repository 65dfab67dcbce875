-- The mismatch that is named is one, and the first in the order of judging: a value that is judged fails its definition, and all that is judged
-- before it meets.
use Prim.Native.Nat.{ℕ}
use mathlib.Core.Path.{◌≡◌, refl, sym, ap, ◌∙◌}
use mathlib.Core.Logic.{◌⊎◌, inl, inr}
use mathlib.Core.Bool.{Bool, true, false, cond}
use mathlib.Core.List.{List, [], ◌++◌}
use Rattle.std.specs.Prelude.{Option, Some, None, Ok, Err}
use Rattle.model.specs.Value.{IsJson, AreJson, AreMembers}
use Rattle.model.specs.Definition.{Named, JSON, Schema, Float, Integer, String, Boolean, DateTime, definition_of}
use Rattle.model.specs.Date.{is_date}
use Rattle.model.specs.Meeting.{is_some}
use Rattle.model.proofs.Basics.{never}
use Rattle.tokens.specs.declared.tokens.Kind.{Kind}
use Rattle.tokens.specs.declared.tokens.Kind.TheVariants.{Null, False, True, Whole, Fractional, Quoted}
use Rattle.syntax.specs.Tree.{Node, scalar, array, object, Nodes, none as no_Node, more, Members, no_member, member, place_of}
use Rattle.syntax.specs.Grammar.{name_of}
use Rattle.syntax.specs.Spelling.{value_of, values_of, members_of}
use Rattle.syntax.specs.Holding.{Placed, PlacedAll, PlacedMembers}
use Rattle.definitions.specs.Definitions.{Located, named-at, array_at, map_at, object-at, LocatedFields, no_field, field}
use Rattle.schema.specs.Judging.{Judgement, mismatch, mismatched, nothing, or_else, unless, is_whole, is_number, is_string, is_boolean, if_scalar, date_of, date_at}
use Rattle.schema.specs.Judging.{named_at, Visit, each_element, each_member, at_name, missing, skipped, visits, field_visits}
use Rattle.schema.specs.Judging.{first_mismatch, mismatch_at}
use Rattle.rows.specs.Finding.{lookup}
use Rattle.schema.specs.declared.judging.Mismatch.{Mismatch}
use Rattle.schema.specs.declared.judging.MismatchCode.TheVariants.{WrongKind, NoDate}
use Rattle.schema.proofs.judging.Looking.{lookup_found, lookup_none}
use Rattle.schema.proofs.judging.Visits.{first_append, append_none}
use Rattle.schema.proofs.judging.Meeting.{nothing_meets, all_required, all_optional}
use Rattle.schema.proofs.judging.Order.{join_nodes, join_members, join_fields, EachNode, EachMember, MeetsAt, FieldsFound, Judges, itself}
use Rattle.schema.proofs.judging.Order.{element, value, required, optional, Fails, wrong_kind, name_missing, no_date, fails_meets}
use Rattle.schema.proofs.judging.Order.{fails_place}

-- ---- the first of several

-- the first of two: it is one, or it is none and the second is
or_ways : (a b : Judgement) {m : Mismatch} → or_else a b ≡ Err m → (a ≡ Err m) ⊎ ((a ≡ nothing) × (b ≡ Err m))
or_ways (Ok u) b e = inr (refl, e)
or_ways (Err x) b e = inl e

module _ (s : List ℕ) where
  append_ways : (xs ys : List Visit) {m : Mismatch} → first_mismatch s (xs ++ ys) ≡ Err m
      → (first_mismatch s xs ≡ Err m) ⊎ ((first_mismatch s xs ≡ nothing) × (first_mismatch s ys ≡ Err m))
  append_ways xs ys e = or_ways (first_mismatch s xs) (first_mismatch s ys) (sym (first_append s xs ys) ∙ e)

  -- an element that has the mismatch; those before it have none
  pub record FirstElement (v : Node → List Visit) (ns : Nodes) (m : Mismatch) : Type 0 where
    pub before : Nodes
    pub it : Node
    pub after : Nodes
    pub splits : ns ≡ join_nodes before (more it after)
    pub passed : EachNode (λ n. first_mismatch s (v n) ≡ nothing) before
    pub fails : first_mismatch s (v it) ≡ Err m

  first_element : (v : Node → List Visit) (ns : Nodes) {m : Mismatch} → first_mismatch s (each_element v ns) ≡ Err m → FirstElement v ns m
  first_element v no_Node h = never (cc)
  first_element v (more n ns) h = elim (append_ways (v n) (each_element v ns) h) [
    | inl w ↦ record { before = no_Node; it = n; after = ns; splits = refl; passed = tt; fails = w }
    | inr w ↦ (let x = first_element v ns w.1 in
        record {
          before = more n x.before;
          it = x.it;
          after = x.after;
          splits = ap (more n) x.splits;
          passed = (w.0, x.passed);
          fails = x.fails;
        })
  ]

  -- a member whose value has it; the values of those before it have none
  pub record FirstMember (v : Node → List Visit) (ms : Members) (m : Mismatch) : Type 0 where
    pub before : Members
    pub first : ℕ
    pub last : ℕ
    pub it : Node
    pub after : Members
    pub splits : ms ≡ join_members before (member first last it after)
    pub passed : EachMember (λ n. first_mismatch s (v n) ≡ nothing) before
    pub fails : first_mismatch s (v it) ≡ Err m

  first_member : (v : Node → List Visit) (ms : Members) {m : Mismatch} → first_mismatch s (each_member v ms) ≡ Err m → FirstMember v ms m
  first_member v no_member h = never (cc)
  first_member v (member f e n ms) h = elim (append_ways (v n) (each_member v ms) h) [
    | inl w ↦ record { before = no_member; first = f; last = e; it = n; after = ms; splits = refl; passed = tt; fails = w }
    | inr w ↦ (let x = first_member v ms w.1 in
        record {
          before = member f e n x.before;
          first = x.first;
          last = x.last;
          it = x.it;
          after = x.after;
          splits = ap (member f e n) x.splits;
          passed = (w.0, x.passed);
          fails = x.fails;
        })
  ]

  -- what is judged by a field
  abbrev by_field : (ℕ → List Visit) → ℕ → List ℕ → Located → Members → List Visit
  by_field absent q k d ms = at_name (lookup s k ms) (absent q) (λ n. visits s d n)

  -- a field under whose name it is, be it that the name is missing; before it there is none
  pub record FirstField (absent : ℕ → List Visit) (fs : LocatedFields) (ms : Members) (m : Mismatch) : Type 0 where
    pub before : LocatedFields
    pub quote : ℕ
    pub name : List ℕ
    pub definition : Located
    pub after : LocatedFields
    pub splits : fs ≡ join_fields before (field quote name definition after)
    pub passed : first_mismatch s (field_visits s absent before ms) ≡ nothing
    pub fails : first_mismatch s (by_field absent quote name definition ms) ≡ Err m

  first_field : (absent : ℕ → List Visit) (fs : LocatedFields) (ms : Members) {m : Mismatch} → first_mismatch s (field_visits s absent fs ms) ≡ Err m
      → FirstField absent fs ms m
  first_field absent no_field ms h = never (cc)
  first_field absent (field q k d fs) ms h = elim (append_ways (by_field absent q k d ms) (field_visits s absent fs ms) h) [
    | inl w ↦ record { before = no_field; quote = q; name = k; definition = d; after = fs; splits = refl; passed = refl; fails = w }
    | inr w ↦ (let x = first_field absent fs ms w.1 in
        record {
          before = field q k d x.before;
          quote = x.quote;
          name = x.name;
          definition = x.definition;
          after = x.after;
          splits = ap (field q k d) x.splits;
          passed = (append_none s (by_field absent q k d ms) (field_visits s absent x.before ms)).1 (w.0, x.passed);
          fails = x.fails;
        })
  ]

-- ---- what is named is real

-- a mismatch of a value that is judged by a definition: it lies there, and the value does not meet the definition
pub record Real (s : List ℕ) (d : Located) (n : Node) (m : Mismatch) : Type 0 where
  pub definition : Located
  pub judged_value : Node
  pub judges : Judges s d n definition judged_value
  pub placed : Placed s judged_value
  pub place : m.place ≡ place_of judged_value
  pub unmet : MeetsAt s definition judged_value → ⊥
  pub fails : Fails s definition judged_value m

module _ (s : List ℕ) where
  here : (d : Located) (n : Node) (m : Mismatch) → Placed s n → Fails s d n m → Real s d n m
  here d n m l h =
      record { definition = d; judged_value = n; judges = itself; placed = l; place = fails_place s d n m h; unmet = fails_meets s d n m l h; fails = h }

  onward : {d₁ d₂ : Located} {n₁ n₂ : Node} {m : Mismatch} → Real s d₂ n₂ m
      → ((d : Located) (n : Node) → Judges s d₂ n₂ d n → Judges s d₁ n₁ d n) → Real s d₁ n₁ m
  onward r f = record {
    definition = r.definition;
    judged_value = r.judged_value;
    judges = f r.definition r.judged_value r.judges;
    placed = r.placed;
    place = r.place;
    unmet = r.unmet;
    fails = r.fails;
  }

  same_mismatch : {x m : Mismatch} → ◌≡◌ {A = Judgement} (Err x) (Err m) → m ≡ x
  same_mismatch e = cc

  -- ---- type names

  unless_fails : (ok : Bool) (f p : ℕ) {m : Mismatch} → unless ok f p ≡ Err m → (ok ≡ false) × (m ≡ mismatch WrongKind f p)
  unless_fails true f p h = never (cc)
  unless_fails false f p h = (refl, same_mismatch h)

  date_fails : (p : ℕ) (n : Node) {m : Mismatch} → date_at s p n ≡ Err m → Fails s (named-at p DateTime) n m
  date_fails p (scalar k f e) {m} = of-kind k
    where
      of_date : (b : Bool) → is_date (name_of s f e) ≡ b → cond b nothing (mismatched NoDate f p) ≡ Err m → Fails s (named-at p DateTime) (scalar Quoted f e) m
      of_date true t h = never (cc)
      of_date false t h = no_date (record { place = p; first = f; last = e; is-date = refl; is-string = refl; fails = t }) (same_mismatch h)

      of-kind : (k : Kind) → date_of s p k f e ≡ Err m → Fails s (named-at p DateTime) (scalar k f e) m
      of-kind Null h = wrong_kind refl (same_mismatch h)
      of-kind False h = wrong_kind refl (same_mismatch h)
      of-kind True h = wrong_kind refl (same_mismatch h)
      of-kind Whole h = wrong_kind refl (same_mismatch h)
      of-kind Fractional h = wrong_kind refl (same_mismatch h)
      of-kind Quoted h = of_date (is_date (name_of s f e)) refl h
  date_fails p (array f e ns) {m} = λ h. wrong_kind refl (same_mismatch h)
  date_fails p (object f e ms) {m} = λ h. wrong_kind refl (same_mismatch h)

  named_fails : (p : ℕ) (t : Named) (n : Node) {m : Mismatch} → named_at s p t n ≡ Err m → Fails s (named-at p t) n m
  named_fails p JSON n h = never (cc)
  named_fails p Schema n h = let x = unless_fails (is_some (definition_of (value_of s n))) (place_of n) p h in wrong_kind x.0 x.1
  named_fails p Float n h = let x = unless_fails (if_scalar is_number n) (place_of n) p h in wrong_kind x.0 x.1
  named_fails p Integer n h = let x = unless_fails (if_scalar is_whole n) (place_of n) p h in wrong_kind x.0 x.1
  named_fails p String n h = let x = unless_fails (if_scalar is_string n) (place_of n) p h in wrong_kind x.0 x.1
  named_fails p Boolean n h = let x = unless_fails (if_scalar is_boolean n) (place_of n) p h in wrong_kind x.0 x.1
  named_fails p DateTime n h = date_fails p n h

  -- ---- those before, and what is left

  nodes_meet : (d : Located) (before rest : Nodes) → PlacedAll s (join_nodes before rest) → AreJson (values_of s (join_nodes before rest))
      → EachNode (λ n. mismatch_at s d n ≡ nothing) before → EachNode (MeetsAt s d) before × PlacedAll s rest × AreJson (values_of s rest)
  nodes_meet d no_Node rest l i z = (tt, l, i)
  nodes_meet d (more n ns) rest l i z =
      let x = nodes_meet d ns rest l.1 i.1 z.1 in
      ((nothing_meets s d n l.0 i.0 z.0, x.0), x.1, x.2)

  members_meet : (d : Located) (before rest : Members) → PlacedMembers s (join_members before rest) → AreMembers (members_of s (join_members before rest))
      → EachMember (λ n. mismatch_at s d n ≡ nothing) before → EachMember (MeetsAt s d) before × PlacedMembers s rest × AreMembers (members_of s rest)
  members_meet d no_member rest l i z = (tt, l, i)
  members_meet d (member f e n ms) rest l i z =
      let x = members_meet d ms rest l.2 i.3 z.1 in
      ((nothing_meets s d n l.1 i.2 z.0, x.0), x.1, x.2)

  -- ---- values

  -- what is to be shown of a definition
  abbrev Reals : Located → Type 0
  Reals d = (n : Node) → Placed s n → IsJson (value_of s n) → (m : Mismatch) → mismatch_at s d n ≡ Err m → Real s d n m

  -- and of those of fields
  abbrev AllReals : LocatedFields → Type 0
  AllReals no_field = Unit
  AllReals (field q k d fs) = Reals d × AllReals fs

  reals_at : (before : LocatedFields) (q : ℕ) (k : List ℕ) (d : Located) (after : LocatedFields) → AllReals (join_fields before (field q k d after)) → Reals d
  reals_at no_field q k d after h = h.0
  reals_at (field p m x fs) q k d after h = reals_at fs q k d after h.1

  array_real : (p : ℕ) (d : Located) → Reals d → Reals (array_at p d)
  array_real p d h (scalar k f e) l i m z = here (array_at p d) (scalar k f e) m l (wrong_kind refl (same_mismatch z))
  array_real p d h (object f e ms) l i m z = here (array_at p d) (object f e ms) m l (wrong_kind refl (same_mismatch z))
  array_real p d h (array f e ns) l i m z =
      let x = first_element s (λ n. visits s d n) ns z in
      let y = nodes_meet d x.before (more x.it x.after) (rw x.splits at l.2) (rw x.splits at i) x.passed in
      onward (h x.it y.1.0 y.2.0 m x.fails) (λ d₂ n₂ j. element x.before x.after x.splits y.0 j)

  map_real : (p : ℕ) (d : Located) → Reals d → Reals (map_at p d)
  map_real p d h (scalar k f e) l i m z = here (map_at p d) (scalar k f e) m l (wrong_kind refl (same_mismatch z))
  map_real p d h (array f e ns) l i m z = here (map_at p d) (array f e ns) m l (wrong_kind refl (same_mismatch z))
  map_real p d h (object f e ms) l i m z =
      let x = first_member s (λ n. visits s d n) ms z in
      let y = members_meet d x.before (member x.first x.last x.it x.after) (rw x.splits at l.2) (rw x.splits at i) x.passed in
      onward (h x.it y.1.1 y.2.2 m x.fails) (λ d₂ n₂ j. value x.before x.first x.last x.after x.splits y.0 j)

  module _ (p f e : ℕ) (r o : LocatedFields) (ms : Members) (l : Placed s (object f e ms)) (i : AreMembers (members_of s ms)) (m : Mismatch) where
    required_real : AllReals r → first_mismatch s (field_visits s (missing f) r ms) ≡ Err m → Real s (object-at p r o) (object f e ms) m
    required_real h z = by_value (lookup s x.name ms) refl x.fails
      where
        x : FirstField s (missing f) r ms m
        x = first_field s (missing f) r ms z

        found : FieldsFound s x.before ms
        found = (all_required s f x.before ms l.2 i).0 x.passed

        by_value : (v : Option Node) → lookup s x.name ms ≡ v → first_mismatch s (at_name v (missing f x.quote) (λ n. visits s x.definition n)) ≡ Err m
            → Real s (object-at p r o) (object f e ms) m
        by_value None w u =
            here (object-at p r o) (object f e ms) m l (name_missing x.quote (record {
              place = p;
              required_fields = r;
              optional_fields = o;
              first = f;
              last = e;
              members = ms;
              is-object = refl;
              has_members = refl;
              before = x.before;
              name = x.name;
              definition = x.definition;
              after = x.after;
              splits = x.splits;
              found = found;
              lacks = lookup_none s x.name ms w;
            }) (same_mismatch u))
        by_value (Some n) w u =
            let y = lookup_found s x.name ms n w in
            onward (reals_at x.before x.quote x.name x.definition x.after (rw x.splits at h) n (y.placed l.2) (y.json i) m u)
            (λ d₂ n₂ j. required x.before x.quote x.name x.after x.splits found w j)

    optional_real : AllReals o → first_mismatch s (field_visits s (missing f) r ms) ≡ nothing → first_mismatch s (field_visits s skipped o ms) ≡ Err m
        → Real s (object-at p r o) (object f e ms) m
    optional_real h b z = by_value (lookup s x.name ms) refl x.fails
      where
        x : FirstField s skipped o ms m
        x = first_field s skipped o ms z

        by_value : (v : Option Node) → lookup s x.name ms ≡ v → first_mismatch s (at_name v [] (λ n. visits s x.definition n)) ≡ Err m
            → Real s (object-at p r o) (object f e ms) m
        by_value None w u = never (cc)
        by_value (Some n) w u =
            let y = lookup_found s x.name ms n w in
            onward (reals_at x.before x.quote x.name x.definition x.after (rw x.splits at h) n (y.placed l.2) (y.json i) m u)
            (λ d₂ n₂ j. optional x.before x.quote x.name x.after ((all_required s f r ms l.2 i).0 b) x.splits
            ((all_optional s x.before ms l.2 i).0 x.passed) w j)

  object_real : (p : ℕ) (r o : LocatedFields) → AllReals r → AllReals o → Reals (object-at p r o)
  object_real p r o h k (scalar j f e) l i m z = here (object-at p r o) (scalar j f e) m l (wrong_kind refl (same_mismatch z))
  object_real p r o h k (array f e ns) l i m z = here (object-at p r o) (array f e ns) m l (wrong_kind refl (same_mismatch z))
  object_real p r o h k (object f e ms) l i m z =
      elim (append_ways s (field_visits s (missing f) r ms) (field_visits s skipped o ms) z) [
        | inl w ↦ required_real p f e r o ms l i m h w
        | inr w ↦ optional_real p f e r o ms l i m k w.0 w.1
      ]

  mutual
    reals : (d : Located) → Reals d
    reals (named-at p t) n l i m z =
        elim (or_ways (named_at s p t n) nothing z) [ inl w ↦ here (named-at p t) n m l (named_fails p t n w) | inr w ↦ never (cc w.1) ]
    reals (array_at p d) n l i m z = array_real p d (λ n l i m z. reals d n l i m z) n l i m z
    reals (map_at p d) n l i m z = map_real p d (λ n l i m z. reals d n l i m z) n l i m z
    reals (object-at p r o) n l i m z = object_real p r o (all_reals r) (all_reals o) n l i m z

    all_reals : (fs : LocatedFields) → AllReals fs
    all_reals no_field = tt
    all_reals (field q k d fs) = (λ n l i m z. reals d n l i m z, all_reals fs)

  pub mismatch_real : (d : Located) (n : Node) → Placed s n → IsJson (value_of s n) → {m : Mismatch} → mismatch_at s d n ≡ Err m → Real s d n m
  mismatch_real d n l i {m} z = reals d n l i m z
