-- A value has no mismatch with a definition exactly where it meets it (01, "Meeting").
use Prim.Native.Nat.{ℕ}
use mathlib.Core.Path.{◌≡◌, refl, sym, ◌∙◌}
use mathlib.Core.Logic.{inl, inr, ◌↔◌}
use mathlib.Core.Bool.{Bool, true, false, cond, false≢true}
use mathlib.Core.List.{List, [], ◌∷◌}
use Rattle.std.specs.Prelude.{Option, Some, None}
use Rattle.model.specs.Value.{Value, Values, Among, Under, has_name, is_integer, IsJson, AreJson, AreMembers, Members as ValueMembers}
use Rattle.model.specs.Definition.{Named, JSON, Schema, Float, Integer, String, Boolean, DateTime, definition_of}
use Rattle.model.specs.Date.{is_date}
use Rattle.model.specs.Meeting.{is_some, if_number, if_string, if_boolean, IfArray, IfObject, meets_named, HasNames, Meets, FieldsMeet}
use Rattle.model.proofs.Basics.{never, clash}
use Rattle.tokens.specs.declared.tokens.Kind.{Kind}
use Rattle.tokens.specs.declared.tokens.Kind.TheVariants.{Null, False, True, Whole, Fractional, Quoted}
use Rattle.syntax.specs.Tree.{Node, scalar, array, object, Nodes, none as no_Node, more, Members, no_member, member, place_of}
use Rattle.syntax.specs.Grammar.{name_of}
use Rattle.syntax.specs.Spelling.{scalar_of, value_of, values_of, members_of}
use Rattle.syntax.specs.Holding.{Placed, PlacedAll, PlacedMembers}
use Rattle.definitions.specs.Definitions.{Located, named-at, array_at, map_at, object-at, LocatedFields, no_field, field, bare, bare_fields}
use Rattle.schema.specs.Judging.{mismatched, nothing, or_else, unless, is_whole, is_number, is_string, is_boolean, if_scalar, date_of, date_at}
use Rattle.schema.specs.Judging.{named_at, is_object, Visit, value-by, in_array, in_object, each_element, each_member, at_name}
use Rattle.schema.specs.Judging.{missing, skipped, visits, field_visits, first_mismatch, mismatch_at}
use Rattle.rows.specs.Finding.{lookup}
use Rattle.schema.proofs.judging.Visits.{append_none, one_none}
use Rattle.schema.proofs.judging.Looking.{not_under, Looked, looked}
use Rattle.schema.specs.declared.judging.MismatchCode.{MismatchCode}
use Rattle.schema.specs.declared.judging.MismatchCode.TheVariants.{WrongKind, NoDate}

-- ---- tests

unless_none : (ok test : Bool) → ok ≡ test → (f p : ℕ) → (unless ok f p ≡ nothing) ↔ (test ≡ true)
unless_none true test e f p = (λ _. sym e, λ _. refl)
unless_none false test e f p = (λ z. never (cc), λ t. absurd (false≢true (e ∙ t)))

-- ---- type names

module _ (s : List ℕ) where
  -- the kind of a number says whether it is an integer
  pub whole_integer : (n : Node) → Placed s n → if_scalar is_whole n ≡ if_number is_integer (value_of s n)
  whole_integer (scalar k f e) h = of-kind k h
    where
      of-kind : (k : Kind) → Placed s (scalar k f e) → is_whole k ≡ if_number is_integer (scalar_of s k f e)
      of-kind Null h = refl
      of-kind False h = refl
      of-kind True h = refl
      of-kind Whole h = sym h.2.1
      of-kind Fractional h = sym h.2.1
      of-kind Quoted h = refl
  whole_integer (array f e ns) h = refl
  whole_integer (object f e ms) h = refl

  pub number_number : (n : Node) → if_scalar is_number n ≡ if_number (λ _. true) (value_of s n)
  number_number (scalar k f e) = of-kind k
    where
      of-kind : (k : Kind) → is_number k ≡ if_number (λ _. true) (scalar_of s k f e)
      of-kind Null = refl
      of-kind False = refl
      of-kind True = refl
      of-kind Whole = refl
      of-kind Fractional = refl
      of-kind Quoted = refl
  number_number (array f e ns) = refl
  number_number (object f e ms) = refl

  pub string_string : (n : Node) → if_scalar is_string n ≡ if_string (λ _. true) (value_of s n)
  string_string (scalar k f e) = of-kind k
    where
      of-kind : (k : Kind) → is_string k ≡ if_string (λ _. true) (scalar_of s k f e)
      of-kind Null = refl
      of-kind False = refl
      of-kind True = refl
      of-kind Whole = refl
      of-kind Fractional = refl
      of-kind Quoted = refl
  string_string (array f e ns) = refl
  string_string (object f e ms) = refl

  pub boolean_boolean : (n : Node) → if_scalar is_boolean n ≡ if_boolean (value_of s n)
  boolean_boolean (scalar k f e) = of-kind k
    where
      of-kind : (k : Kind) → is_boolean k ≡ if_boolean (scalar_of s k f e)
      of-kind Null = refl
      of-kind False = refl
      of-kind True = refl
      of-kind Whole = refl
      of-kind Fractional = refl
      of-kind Quoted = refl
  boolean_boolean (array f e ns) = refl
  boolean_boolean (object f e ms) = refl

  -- a mismatch, where the test fails
  failing : (c : MismatchCode) (f p : ℕ) → (mismatched c f p ≡ nothing) ↔ (false ≡ true)
  failing c f p = (λ z. never (cc), λ t. absurd (false≢true t))

  date_none : (p : ℕ) (n : Node) → (date_at s p n ≡ nothing) ↔ (if_string is_date (value_of s n) ≡ true)
  date_none p (scalar k f e) = of-kind k
    where
      of_date : (b : Bool) → (cond b nothing (mismatched NoDate f p) ≡ nothing) ↔ (b ≡ true)
      of_date true = (λ _. refl, λ _. refl)
      of_date false = failing NoDate f p

      of-kind : (k : Kind) → (date_of s p k f e ≡ nothing) ↔ (if_string is_date (scalar_of s k f e) ≡ true)
      of-kind Null = failing WrongKind f p
      of-kind False = failing WrongKind f p
      of-kind True = failing WrongKind f p
      of-kind Whole = failing WrongKind f p
      of-kind Fractional = failing WrongKind f p
      of-kind Quoted = of_date (is_date (name_of s f e))
  date_none p (array f e ns) = failing WrongKind f p
  date_none p (object f e ms) = failing WrongKind f p

  named_none : (p : ℕ) (t : Named) (n : Node) → Placed s n → (named_at s p t n ≡ nothing) ↔ (meets_named t (value_of s n) ≡ true)
  named_none p JSON n h = (λ _. refl, λ _. refl)
  named_none p Schema n h = unless_none _ (is_some (definition_of (value_of s n))) refl (place_of n) p
  named_none p Float n h = unless_none _ _ (number_number n) (place_of n) p
  named_none p Integer n h = unless_none _ _ (whole_integer n h) (place_of n) p
  named_none p String n h = unless_none _ _ (string_string n) (place_of n) p
  named_none p Boolean n h = unless_none _ _ (boolean_boolean n) (place_of n) p
  named_none p DateTime n h = date_none p n

  -- ---- arrays and objects

  -- a value that holds no other is no array and no object
  pub scalar_array : (P : Values → Type 0) (k : Kind) (f e : ℕ) → IfArray P (scalar_of s k f e) → ⊥
  scalar_array P Null f e h = h
  scalar_array P False f e h = h
  scalar_array P True f e h = h
  scalar_array P Whole f e h = h
  scalar_array P Fractional f e h = h
  scalar_array P Quoted f e h = h

  pub scalar_object : (P : ValueMembers → Type 0) (k : Kind) (f e : ℕ) → IfObject P (scalar_of s k f e) → ⊥
  scalar_object P Null f e h = h
  scalar_object P False f e h = h
  scalar_object P True f e h = h
  scalar_object P Whole f e h = h
  scalar_object P Fractional f e h = h
  scalar_object P Quoted f e h = h

  -- the value's kind is judged, and what is in it
  array_none : (P : Values → Type 0) (p : ℕ) (d : Located) (v : Nodes → List Visit)
      → ((ns : Nodes) → PlacedAll s ns → AreJson (values_of s ns) → (first_mismatch s (v ns) ≡ nothing) ↔ P (values_of s ns))
      → (n : Node) → Placed s n → IsJson (value_of s n) → (first_mismatch s (value-by (array_at p d) n ∷ in_array n v) ≡ nothing) ↔ IfArray P (value_of s n)
  array_none P p d v h (scalar k f e) l i = (λ z. never (cc), λ x. absurd (scalar_array P k f e x))
  array_none P p d v h (array f e ns) l i = h ns l.2 i
  array_none P p d v h (object f e ms) l i = (λ z. never (cc), λ x. absurd x)

  object_none : (P : ValueMembers → Type 0) (p : ℕ) (v : Members → List Visit)
      → ((ms : Members) → PlacedMembers s ms → AreMembers (members_of s ms) → (first_mismatch s (v ms) ≡ nothing) ↔ P (members_of s ms))
      → (n : Node) → Placed s n → IsJson (value_of s n)
      → (or_else (unless (is_object n) (place_of n) p) (first_mismatch s (in_object n v)) ≡ nothing) ↔ IfObject P (value_of s n)
  object_none P p v h (scalar k f e) l i = (λ z. never (cc), λ x. absurd (scalar_object P k f e x))
  object_none P p v h (array f e ns) l i = (λ z. never (cc), λ x. absurd x)
  object_none P p v h (object f e ms) l i = h ms l.2 i

  -- none of what v judges fails exactly where the value has the property
  abbrev Judge : (Node → List Visit) → (Value → Type 0) → Type 0
  Judge v P = (n : Node) → Placed s n → IsJson (value_of s n) → (first_mismatch s (v n) ≡ nothing) ↔ P (value_of s n)

  elements_none : (P : Value → Type 0) (v : Node → List Visit) → Judge v P → (ns : Nodes) → PlacedAll s ns → AreJson (values_of s ns)
      → (first_mismatch s (each_element v ns) ≡ nothing) ↔ ((w : Value) → Among w (values_of s ns) → P w)
  elements_none P v h no_Node l i = (λ _ w x. absurd x, λ _. refl)
  elements_none P v h (more n ns) l i =
      let o = append_none s (v n) (each_element v ns) in
      let a = h n l.0 i.0 in
      let b = elements_none P v h ns l.1 i.1 in (
        λ z w x. elim x [ inl q ↦ rw q (a.0 (o.0 z).0) | inr y ↦ b.0 (o.0 z).1 w y ],
        λ f. o.1 (a.1 (f (value_of s n) (inl refl)), b.1 (λ w x. f w (inr x))),
      )

  members_none : (P : Value → Type 0) (v : Node → List Visit) → Judge v P → (ms : Members) → PlacedMembers s ms → AreMembers (members_of s ms)
      → (first_mismatch s (each_member v ms) ≡ nothing) ↔ ((k : List ℕ) (w : Value) → Under k w (members_of s ms) → P w)
  members_none P v h no_member l i = (λ _ k w x. absurd x, λ _. refl)
  members_none P v h (member f e n ms) l i =
      let o = append_none s (v n) (each_member v ms) in
      let a = h n l.1 i.2 in
      let b = members_none P v h ms l.2 i.3 in (
        λ z k w x. elim x [ inl q ↦ rw q.1 (a.0 (o.0 z).0) | inr y ↦ b.0 (o.0 z).1 k w y ],
        λ g. o.1 (a.1 (g (name_of s f e) (value_of s n) (inl (refl, refl))), b.1 (λ k w x. g k w (inr x))),
      )

  -- ---- fields

  -- what stands under the name of an optional field, if anything does
  optional_none : (P : Value → Type 0) (v : Node → List Visit) → Judge v P → (k : List ℕ) (ms : Members) → PlacedMembers s ms → AreMembers (members_of s ms)
      → (o : Option Node) → Looked s k ms o → (first_mismatch s (at_name o [] v) ≡ nothing) ↔ ((w : Value) → Under k w (members_of s ms) → P w)
  optional_none P v h k ms l i None x = (λ _ w u. absurd (not_under k w (members_of s ms) x u), λ _. refl)
  optional_none P v h k ms l i (Some m) x =
      let a = h m (x.placed l) (x.json i) in
      (λ z w u. rw (x.only i w u) (a.0 z), λ f. a.1 (f (value_of s m) x.under))

  -- of a required one something must
  required_none : (P : Value → Type 0) (v : Node → List Visit) → Judge v P → (k : List ℕ) (ms : Members) → PlacedMembers s ms → AreMembers (members_of s ms)
      → (b q : ℕ) (o : Option Node) → Looked s k ms o
      → (first_mismatch s (at_name o (missing b q) v) ≡ nothing) ↔ ((has_name k (members_of s ms) ≡ true) × ((w : Value) → Under k w (members_of s ms) → P w))
  required_none P v h k ms l i b q None x = (λ z. never (cc), λ f. clash _ f.0 x)
  required_none P v h k ms l i b q (Some m) x =
      let a = optional_none P v h k ms l i (Some m) x in
      (λ z. (x.has, a.0 z), λ f. a.1 f.1)

  mutual
    meets_none : (d : Located) → Judge (λ n. visits s d n) (Meets (bare d))
    meets_none (named-at p t) n l i = one_none s (value-by (named-at p t) n) (named_none p t n l)
    meets_none (array_at p d) n l i = array_none _ p d _ (elements_none (Meets (bare d)) (λ m. visits s d m) (λ m l i. meets_none d m l i)) n l i
    meets_none (map_at p d) n l i = object_none _ p _ (members_none (Meets (bare d)) (λ m. visits s d m) (λ m l i. meets_none d m l i)) n l i
    meets_none (object-at p r o) n l i =
        object_none (λ ms. HasNames (bare_fields r) ms × FieldsMeet (bare_fields r) ms × FieldsMeet (bare_fields o) ms) p _
        (λ ms l i.
        let b = append_none s (field_visits s (missing (place_of n)) r ms) (field_visits s skipped o ms) in
        let x = all_required (place_of n) r ms l i in
        let y = all_optional o ms l i in
        (λ z. ((x.0 (b.0 z).0).0, (x.0 (b.0 z).0).1, y.0 (b.0 z).1), λ h. b.1 (x.1 (h.0, h.1), y.1 h.2)))
        n l i

    pub all_required : (b : ℕ) (fs : LocatedFields) (ms : Members) → PlacedMembers s ms → AreMembers (members_of s ms)
        → (first_mismatch s (field_visits s (missing b) fs ms) ≡ nothing)
        ↔ (HasNames (bare_fields fs) (members_of s ms) × FieldsMeet (bare_fields fs) (members_of s ms))
    all_required b no_field ms l i = (λ _. (tt, tt), λ _. refl)
    all_required b (field q k d fs) ms l i =
        let o = append_none s (at_name (lookup s k ms) (missing b q) (λ m. visits s d m)) (field_visits s (missing b) fs ms) in
        let x = required_none (Meets (bare d)) (λ m. visits s d m) (λ m l i. meets_none d m l i) k ms l i b q (lookup s k ms) (looked s k ms) in
        let y = all_required b fs ms l i in (
          λ z. let u = x.0 (o.0 z).0 in let v = y.0 (o.0 z).1 in ((u.0, v.0), (u.1, v.1)),
          λ h. o.1 (x.1 (h.0.0, h.1.0), y.1 (h.0.1, h.1.1)),
        )

    pub all_optional : (fs : LocatedFields) (ms : Members) → PlacedMembers s ms → AreMembers (members_of s ms)
        → (first_mismatch s (field_visits s skipped fs ms) ≡ nothing) ↔ FieldsMeet (bare_fields fs) (members_of s ms)
    all_optional no_field ms l i = (λ _. tt, λ _. refl)
    all_optional (field q k d fs) ms l i =
        let o = append_none s (at_name (lookup s k ms) (skipped q) (λ m. visits s d m)) (field_visits s skipped fs ms) in
        let x = optional_none (Meets (bare d)) (λ m. visits s d m) (λ m l i. meets_none d m l i) k ms l i (lookup s k ms) (looked s k ms) in
        let y = all_optional fs ms l i in
        (λ z. (x.0 (o.0 z).0, y.0 (o.0 z).1), λ h. o.1 (x.1 h.0, y.1 h.1))

  -- ---- no mismatch, and meeting

  module _ (d : Located) (n : Node) (l : Placed s n) (i : IsJson (value_of s n)) where
    pub meets_nothing : Meets (bare d) (value_of s n) → mismatch_at s d n ≡ nothing
    meets_nothing h = (meets_none d n l i).1 h

    pub nothing_meets : mismatch_at s d n ≡ nothing → Meets (bare d) (value_of s n)
    nothing_meets z = (meets_none d n l i).0 z
