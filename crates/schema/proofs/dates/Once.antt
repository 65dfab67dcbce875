-- Each value is judged once: of the strings that begin at a place, no more are judged as DateTime than the document has there (02, L3).
use Prim.Native.Nat.{ℕ, ◌+◌, ◌≤◌}
use mathlib.Core.Path.{◌≡◌, refl, subst}
use mathlib.Core.Bool.{Bool, true, false, cond, ◌&&◌, ◌||◌}
use mathlib.Core.List.{List, [], ◌∷◌, ◌++◌}
use native.Mathlib.Omega.{arith}
use Rattle.std.specs.Prelude.{Option, Some, None}
use lib.ListN.{length, length-append}
use Rattle.model.specs.Text.{same}
use Rattle.model.specs.Definition.{Named, JSON, Schema, Float, Integer, String, Boolean, DateTime, has_field, disjoint}
use Rattle.model.proofs.Basics.{both, by_test, same_eq, same_refl}
use Rattle.model.proofs.Formed.{WellFormed, AreFields}
use Rattle.model.proofs.Samples.{disjoint_at}
use Rattle.tokens.specs.declared.tokens.Kind.TheVariants.{Null, False, True, Whole, Fractional, Quoted}
use Rattle.syntax.specs.Tree.{Node, scalar, array, object, Nodes, none as no_Node, more, Members, no_member, member}
use Rattle.syntax.specs.Rows.{size, sizes, sizes_members}
use Rattle.syntax.specs.Grammar.{name_of}
use Rattle.rows.specs.Finding.{lookup}
use Rattle.definitions.specs.Definitions.{Located, named-at, array_at, map_at, object-at, LocatedFields, no_field, field, bare, bare_fields}
use Rattle.schema.specs.Judging.{is_string, Visit, value-by, missing_name, each_element, each_member, at_name, missing, skipped, visits, field_visits}
use Rattle.schema.specs.Dates.{visit_moment, moments}

module _ (P : ℕ → Bool) where
  -- how many strings of a value begin at a place that passes
  abbrev mutual
    pub strings : Node → ℕ
    strings (scalar k f e) = cond (is_string k && P f) 1 0
    strings (array f e ns) = strings_all ns
    strings (object f e ms) = strings_members ms

    strings_all : Nodes → ℕ
    strings_all no_Node = 0
    strings_all (more n ns) = strings n + strings_all ns

    strings_members : Members → ℕ
    strings_members no_member = 0
    strings_members (member f e n ms) = strings n + strings_members ms

  abbrev string_here : Node → ℕ
  string_here (scalar k f e) = cond (is_string k && P f) 1 0
  string_here (array f e ns) = 0
  string_here (object f e ms) = 0

  -- how many of them are judged as DateTime
  abbrev as_named : Named → Node → ℕ
  as_named JSON n = 0
  as_named Schema n = 0
  as_named Float n = 0
  as_named Integer n = 0
  as_named String n = 0
  as_named Boolean n = 0
  as_named DateTime n = string_here n

  abbrev as_date : Visit → ℕ
  as_date (value-by (named-at p t) n) = as_named t n
  as_date (value-by (array_at p d) n) = 0
  as_date (value-by (map_at p d) n) = 0
  as_date (value-by (object-at p r o) n) = 0
  as_date (missing_name brace q) = 0

  abbrev pub as_dates : List Visit → ℕ
  as_dates [] = 0
  as_dates (v ∷ vs) = as_date v + as_dates vs

  dates_append : (xs ys : List Visit) → as_dates (xs ++ ys) ≡ as_dates xs + as_dates ys
  dates_append [] ys = omega arith
  dates_append (v ∷ xs) ys = omega (arith, dates_append xs ys)

  named_once : (t : Named) (n : Node) → as_named t n ≤ strings n
  named_once JSON n = omega arith
  named_once Schema n = omega arith
  named_once Float n = omega arith
  named_once Integer n = omega arith
  named_once String n = omega arith
  named_once Boolean n = omega arith
  named_once DateTime n = here n
    where
      here : (n : Node) → string_here n ≤ strings n
      here (scalar k f e) = omega arith
      here (array f e ns) = omega arith
      here (object f e ms) = omega arith

  -- ---- members, by the names of fields

  module _ (s : List ℕ) where
    abbrev under : Option Node → ℕ
    under None = 0
    under (Some n) = strings n

    -- how many strings stand under the names of fields
    abbrev taken : LocatedFields → Members → ℕ
    taken no_field ms = 0
    taken (field q k d fs) ms = under (lookup s k ms) + taken fs ms

    taken_none : (fs : LocatedFields) → taken fs no_member ≡ 0
    taken_none no_field = refl
    taken_none (field q k d fs) = omega (arith, taken_none fs)

    if_most : (b : Bool) (x : ℕ) → cond b x 0 ≤ x
    if_most true x = omega arith
    if_most false x = omega arith

    either : (a b : Bool) (x : ℕ) → cond b x 0 ≤ cond (a || b) x 0
    either true b x = if_most b x
    either false b x = omega arith

    -- names differ, so that a member stands under one at most
    taken_more : (f e : ℕ) (n : Node) (ms : Members) (fs : LocatedFields) → AreFields (bare_fields fs)
        → taken fs (member f e n ms) ≤ cond (has_field (name_of s f e) (bare_fields fs)) (strings n) 0 + taken fs ms
    taken_more f e n ms no_field a = omega arith
    taken_more f e n ms (field q k d fs) a =
        let name = name_of s f e in
        let others = has_field name (bare_fields fs) in
        let h = taken_more f e n ms fs a.3 in
        by_test (same k name)
        (λ t.
        let p : k ≡ name = same_eq k name t in
        let z : others ≡ false = subst (λ (m : List ℕ). has_field m (bare_fields fs) ≡ false) p a.1 in
        let x : same name k ≡ true = rw p (same_refl name) in
        rw (t, x) (omega (arith, rw z at h)))
        (λ t. rw t (omega (arith, h, either (same name k) others (strings n))))

    -- required and optional names differ
    both_taken : (r o : LocatedFields) → AreFields (bare_fields r) → AreFields (bare_fields o) → disjoint (bare_fields r) (bare_fields o) ≡ true → (ms : Members)
        → taken r ms + taken o ms ≤ strings_members ms
    both_taken r o a b j no_member = omega (arith, taken_none r, taken_none o)
    both_taken r o a b j (member f e n ms) =
        let name = name_of s f e in
        let h = both_taken r o a b j ms in
        let x = taken_more f e n ms r a in
        let y = taken_more f e n ms o b in
        by_test (has_field name (bare_fields r))
        (λ t. omega (arith, h, rw t at x, rw (disjoint_at (bare_fields r) (bare_fields o) j name t) at y))
        (λ t. omega (arith, h, rw t at x, y, if_most (has_field name (bare_fields o)) (strings n)))

    -- ---- what is judged

    elements_once : (v : Node → List Visit) → ((n : Node) → as_dates (v n) ≤ strings n) → (ns : Nodes) → as_dates (each_element v ns) ≤ strings_all ns
    elements_once v h no_Node = omega arith
    elements_once v h (more n ns) = omega (arith, dates_append (v n) (each_element v ns), h n, elements_once v h ns)

    members_once : (v : Node → List Visit) → ((n : Node) → as_dates (v n) ≤ strings n) → (ms : Members) → as_dates (each_member v ms) ≤ strings_members ms
    members_once v h no_member = omega arith
    members_once v h (member f e n ms) = omega (arith, dates_append (v n) (each_member v ms), h n, members_once v h ms)

    name_once : (o : Option Node) (absent : List Visit) (v : Node → List Visit) → as_dates absent ≡ 0 → ((n : Node) → as_dates (v n) ≤ strings n)
        → as_dates (at_name o absent v) ≤ under o
    name_once None absent v z h = omega (arith, z)
    name_once (Some n) absent v z h = h n

    array_once : (p : ℕ) (d : Located) → ((n : Node) → as_dates (visits s d n) ≤ strings n) → (n : Node) → as_dates (visits s (array_at p d) n) ≤ strings n
    array_once p d h (scalar k f e) = omega arith
    array_once p d h (array f e ns) = omega (arith, elements_once (λ m. visits s d m) h ns)
    array_once p d h (object f e ms) = omega arith

    map_once : (p : ℕ) (d : Located) → ((n : Node) → as_dates (visits s d n) ≤ strings n) → (n : Node) → as_dates (visits s (map_at p d) n) ≤ strings n
    map_once p d h (scalar k f e) = omega arith
    map_once p d h (array f e ns) = omega arith
    map_once p d h (object f e ms) = omega (arith, members_once (λ m. visits s d m) h ms)

    object_once : (p : ℕ) (r o : LocatedFields) → WellFormed (bare (object-at p r o))
        → ((absent : ℕ → List Visit) → ((q : ℕ) → as_dates (absent q) ≡ 0) → (ms : Members) → as_dates (field_visits s absent r ms) ≤ taken r ms)
        → ((absent : ℕ → List Visit) → ((q : ℕ) → as_dates (absent q) ≡ 0) → (ms : Members) → as_dates (field_visits s absent o ms) ≤ taken o ms)
        → (n : Node) → as_dates (visits s (object-at p r o) n) ≤ strings n
    object_once p r o w h k (scalar j f e) = omega arith
    object_once p r o w h k (array f e ns) = omega arith
    object_once p r o w h k (object f e ms) =
        omega (
          arith,
          dates_append (field_visits s (missing f) r ms) (field_visits s skipped o ms),
          h (missing f) (λ q. refl) ms,
          k skipped (λ q. refl) ms,
          both_taken r o w.0 w.1 w.2 ms,
        )

    mutual
      pub each_once : (d : Located) → WellFormed (bare d) → (n : Node) → as_dates (visits s d n) ≤ strings n
      each_once (named-at p t) w n = omega (arith, named_once t n)
      each_once (array_at p d) w n = array_once p d (λ m. each_once d w m) n
      each_once (map_at p d) w n = map_once p d (λ m. each_once d w m) n
      each_once (object-at p r o) w n =
          object_once p r o w (λ absent z ms. fields_once absent z r w.0 ms) (λ absent z ms. fields_once absent z o w.1 ms) n

      fields_once : (absent : ℕ → List Visit) → ((q : ℕ) → as_dates (absent q) ≡ 0) → (fs : LocatedFields) → AreFields (bare_fields fs) → (ms : Members)
          → as_dates (field_visits s absent fs ms) ≤ taken fs ms
      fields_once absent z no_field a ms = omega arith
      fields_once absent z (field q k d fs) a ms =
          omega (
            arith,
            dates_append (at_name (lookup s k ms) (absent q) (λ m. visits s d m)) (field_visits s absent fs ms),
            name_once (lookup s k ms) (absent q) (λ m. visits s d m) (z q) (λ m. each_once d a.2 m),
            fields_once absent z fs a.3 ms,
          )

  -- ---- a document has no more strings than rows

  mutual
    strings_few : (n : Node) → strings n ≤ size n
    strings_few (scalar k f e) = both (λ (m : ℕ). m ≤ 1) (is_string k && P f) (λ _. omega arith) (λ _. omega arith)
    strings_few (array f e ns) = omega (arith, strings-all ns)
    strings_few (object f e ms) = omega (arith, strings-members ms)

    strings-all : (ns : Nodes) → strings_all ns ≤ sizes ns
    strings-all no_Node = omega arith
    strings-all (more n ns) = omega (arith, strings_few n, strings-all ns)

    strings-members : (ms : Members) → strings_members ms ≤ sizes_members ms
    strings-members no_member = omega arith
    strings-members (member f e n ms) = omega (arith, strings_few n, strings-members ms)

-- ---- so there are no more moments than rows

one_moment : (s : List ℕ) (v : Visit) → length (visit_moment s v) ≡ as_date (λ _. true) v
one_moment s (value-by (named-at p JSON) n) = refl
one_moment s (value-by (named-at p Schema) n) = refl
one_moment s (value-by (named-at p Float) n) = refl
one_moment s (value-by (named-at p Integer) n) = refl
one_moment s (value-by (named-at p String) n) = refl
one_moment s (value-by (named-at p Boolean) n) = refl
one_moment s (value-by (named-at p DateTime) (scalar Null f e)) = refl
one_moment s (value-by (named-at p DateTime) (scalar False f e)) = refl
one_moment s (value-by (named-at p DateTime) (scalar True f e)) = refl
one_moment s (value-by (named-at p DateTime) (scalar Whole f e)) = refl
one_moment s (value-by (named-at p DateTime) (scalar Fractional f e)) = refl
one_moment s (value-by (named-at p DateTime) (scalar Quoted f e)) = refl
one_moment s (value-by (named-at p DateTime) (array f e ns)) = refl
one_moment s (value-by (named-at p DateTime) (object f e ms)) = refl
one_moment s (value-by (array_at p d) n) = refl
one_moment s (value-by (map_at p d) n) = refl
one_moment s (value-by (object-at p r o) n) = refl
one_moment s (missing_name brace q) = refl

moments_counted : (s : List ℕ) (vs : List Visit) → length (moments s vs) ≡ as_dates (λ _. true) vs
moments_counted s [] = refl
moments_counted s (v ∷ vs) = omega (arith, length-append (visit_moment s v) (moments s vs), one_moment s v, moments_counted s vs)

pub moments_few : (s : List ℕ) (d : Located) → WellFormed (bare d) → (n : Node) → length (moments s (visits s d n)) ≤ size n
moments_few s d w n = omega (arith, moments_counted s (visits s d n), each_once (λ _. true) s d w n, strings_few (λ _. true) n)
