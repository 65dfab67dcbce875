-- What a definition at a row is made of: a type name, or one member with the generic type as its name (01, "Definitions").
use Prim.Native.Nat.{ℕ, ◌+◌, ◌-◌, ◌<◌}
use mathlib.Core.Path.{◌≡◌, refl, sym, ap, subst, ◌∙◌}
use mathlib.Core.Bool.{Bool, true, false, cond}
use mathlib.Core.Logic.{◌⊎◌, inl, inr}
use Rattle.std.specs.Prelude.{Option, Some, None}
use Rattle.std.proofs.Math.Option.{Option as MathOption, none, some}
use mathlib.Core.List.{List}
use native.Mathlib.Omega.{arith}
use native.Mathlib.Decide.{ℕ_discrete}
use Rattle.model.proofs.Basics.{never}
use Rattle.model.specs.Text.{text, same}
use Rattle.model.specs.Definition.{Named, named_by, Def, named, array_of, map_of, object-of}
use Rattle.syntax.specs.Tree.{Node, scalar, array, object, Members, no_member, member, place_of}
use Rattle.syntax.specs.Grammar.{name_of}
use Rattle.syntax.specs.Rows.{count_members}
use Rattle.syntax.specs.Holding.{word}
use Rattle.definitions.specs.Definitions.{Located, named-at, array_at, map_at, object-at, LocatedFields, bare, bare_fields, Defined}
use Rattle.definitions.specs.Definitions.{faulty, fine, if_fine, type_at, unshared, Part, wrong, members_with, both_fields, joined_at}
use Rattle.definitions.specs.Definitions.{shared_at, constructed_at, definition_at, single_at, body_at, part_at, part_of, fields_at}
use Rattle.definitions.specs.Types.{type_name, generic_of}
use Rattle.rows.specs.Records.{Reads, Rowed, ObjectRow, PartRow}
use Rattle.rows.specs.Finding.{Finds}
use Rattle.definitions.specs.Shapes.{DefinedRow, type_in, TypeRow, generic_in, GenericRow, FieldsRow, OfObjectsRow}
use Rattle.rows.specs.declared.records.Record.{Record}
use Rattle.definitions.specs.declared.types.TypeName.{TypeName}
use Rattle.definitions.specs.declared.definitions.FaultCode.TheVariants.{NoDefinition, UnknownType}
use Rattle.definitions.specs.declared.types.Generic.{Generic}
use Rattle.definitions.specs.declared.types.Generic.TheVariants.{Array, Map, Object}
use Rattle.chars.specs.Strings.{characters, part}
use Rattle.definitions.proofs.definitions.Laws.{Single, single}
use Rattle.definitions.proofs.definitions.Body.{part_found, found_less, has_part, part_rows}
use Rattle.rows.proofs.Facts.{kind_of, members_in, row, string_row, string_read, object_row, as_object, found}
use Rattle.definitions.proofs.definitions.OtherKinds.{no_definition}
use Rattle.model.specs.Subtype.{of_objects}

-- ---- type names

pub type_fine : (p : ℕ) (x : MathOption Named) (d : Located) → type_at p x ≡ fine d → (t : Named) × (x ≡ some t) × (d ≡ named-at p t)
type_fine p none d q = never (cc)
type_fine p (some t) d q = (t, refl, cc)

-- ---- definitions that are objects

fine_kind : (s : List ℕ) (n : Node) (d : Located) → definition_at s n ≡ fine d → (kind_of n ≡ 6 → ⊥) → kind_of n ≡ 8
fine_kind s n d q h = go (ℕ_discrete (kind_of n) 8)
  where
    go : Dec (kind_of n ≡ 8) → kind_of n ≡ 8
    go (yes e) = e
    go (no e) = let z : faulty NoDefinition (place_of n) ≡ fine d = sym (no_definition s n h e) ∙ q in never (cc)

fine_count : (s : List ℕ) (p : ℕ) (ms : Members) (d : Located) → single_at s p ms ≡ fine d → count_members ms ≡ 1
fine_count s p no_member d q = cc
fine_count s p (member f e n no_member) d q = refl
fine_count s p (member f e n (member g i m ms)) d q = cc

-- the one member of the definition d: its name at row r + 1, its value at row r + 2
abbrev pub Under : List ℕ → List ℕ → ℕ → Located → Type 0
Under s t r d = Single s t r (fine d)

-- a definition that is no string has one member
module _ {s t : List ℕ} {r : ℕ} (w : Rowed s t r) {d : Located} (q : definition_at s w.tree ≡ fine d) where
  fine_single : word t r 0 ≡ 8 → Under s t r d
  fine_single k =
      let o = as_object w k in
      let g : single_at s (word t r 1) o.members ≡ fine d = sym (ap (definition_at s) (object_row w k)) ∙ q in
      subst (Single s t r) q (single w k (o.holds.0.direct ∙ fine_count s (word t r 1) o.members d g))

  pub generic_member : (word t r 0 ≡ 6 → ⊥) → Under s t r d
  generic_member h = fine_single ((row w).kind ∙ fine_kind s w.tree d q (λ e. h ((row w).kind ∙ e)))

-- what the definition is, by the generic type that the name is
abbrev pub Shaped : List ℕ → ℕ → Node → Option Generic → Located → Type 0
Shaped s p n (Some Array) d = (e : Located) × (definition_at s n ≡ fine e) × (d ≡ array_at p e)
Shaped s p n (Some Map) d = (e : Located) × (definition_at s n ≡ fine e) × (d ≡ map_at p e)
Shaped s p n (Some Object) d = body_at s p n ≡ fine d
Shaped s p n None d = ⊥

mapped_fine : (f : Located → Located) (x : Defined Located) (d : Located) → if_fine f x ≡ fine d → (e : Located) × (x ≡ fine e) × (d ≡ f e)
mapped_fine f (faulty c p) d q = never (cc)
mapped_fine f (fine e) d q = (e, refl, cc)

pub shaped : (s : List ℕ) (p i : ℕ) (k : List ℕ) (n : Node) (d : Located)
    → constructed_at p i k (definition_at s n) (body_at s p n) ≡ fine d → Shaped s p n (generic_of k) d
unfolding generic_of
shaped s p i k n d = go (same k (text "Array")) (same k (text "Map")) (same k (text "Object"))
  where
    go : (a m b : Bool)
        → cond a (if_fine (array_at p) (definition_at s n)) (cond m (if_fine (map_at p) (definition_at s n)) (cond b (body_at s p n) (faulty UnknownType i))) ≡ fine d
        → Shaped s p n (cond a (Some Array) (cond m (Some Map) (cond b (Some Object) None))) d
    go true m b q = mapped_fine (array_at p) (definition_at s n) d q
    go false true b q = mapped_fine (map_at p) (definition_at s n) d q
    go false false true q = q
    go false false false q = never (cc)

-- the body of an Object, whose parts are these fields
pub record BodyAt (s : List ℕ) (n : Node) (required optional : LocatedFields) : Type 0 where
  pub object : kind_of n ≡ 8
  pub firsts : Members
  pub seconds : Members
  pub first : part_at s (text "required") (members_in n) ≡ members_with firsts (fine required)
  pub second : part_at s (text "optional") (members_in n) ≡ members_with seconds (fine optional)

both_fine : (o : Option ℕ) (p : ℕ) (x y : Defined LocatedFields) (d : Located) → unshared o (both_fields p x y) ≡ fine d
    → (r : LocatedFields) × (q : LocatedFields) × (x ≡ fine r) × (y ≡ fine q) × (d ≡ object-at p r q)
both_fine None p (faulty c i) y d q = never (cc)
both_fine None p (fine r) (faulty c i) d q = never (cc)
both_fine None p (fine r) (fine o) d q = (r, o, refl, refl, cc)
both_fine (Some i) p x y d q = never (cc)

pub body_fine : (s : List ℕ) (p : ℕ) (n : Node) (d : Located) → body_at s p n ≡ fine d
    → (r : LocatedFields) × (o : LocatedFields) × BodyAt s n r o × (d ≡ object-at p r o)
body_fine s p (scalar k f e) d q = never (cc)
body_fine s p (array f e ns) d q = never (cc)
body_fine s p (object f e ms) d q = go (part_at s (text "required") ms) (part_at s (text "optional") ms) refl refl q
  where
    go : (x y : Part) → part_at s (text "required") ms ≡ x → part_at s (text "optional") ms ≡ y → joined_at s p x y ≡ fine d
        → (r : LocatedFields) × (o : LocatedFields) × BodyAt s (object f e ms) r o × (d ≡ object-at p r o)
    go (wrong i) y g h q = never (cc)
    go (members_with ns x) (wrong i) g h q = never (cc)
    go (members_with ns x) (members_with os y) g h q =
        let b = both_fine (shared_at s ns os) p x y d q in
        let i = ap (members_with ns) b.2 in
        let j = ap (members_with os) b.3 in
        (b.0, b.1, record { object = refl; firsts = ns; seconds = os; first = g ∙ i; second = h ∙ j }, b.4)

-- ---- by the row that was read

-- the generic type of such a definition is its name's, and it names no type
shape_names : (s : List ℕ) (p : ℕ) (n : Node) (g : Option Generic) (d : Located) → Shaped s p n g d → (g ≡ generic_in d) × (None ≡ type_in d)
shape_names s p n (Some Array) d x = (sym (ap generic_in x.2), sym (ap type_in x.2))
shape_names s p n (Some Map) d x = (sym (ap generic_in x.2), sym (ap type_in x.2))
shape_names s p n (Some Object) d x = let e = (body_fine s p n d x).3 in (sym (ap generic_in e), sym (ap type_in e))
shape_names s p n None d x = absurd x

module _ {s t : List ℕ} {r : ℕ} (d : DefinedRow s t r) where
  -- its one member, where it is no string
  pub one_member : (word t r 0 ≡ 6 → ⊥) → Under s t r d.definition
  one_member h = generic_member d.row d.defines h

  abbrev name_under : List ℕ
  name_under = name_of s (word t (r + 1) 1) (word t (r + 1) 2)

  shape : (h : word t r 0 ≡ 6 → ⊥) → Shaped s (word t r 1) (one_member h).value.tree (generic_of name_under) d.definition
  shape h = let u = one_member h in shaped s (word t r 1) (word t (r + 1) 1) name_under u.value.tree d.definition u.is

  names : (word t r 0 ≡ 6 → ⊥) → (generic_of name_under ≡ generic_in d.definition) × (None ≡ type_in d.definition)
  names h = shape_names s (word t r 1) (one_member h).value.tree (generic_of name_under) d.definition (shape h)

  -- so it has a generic type
  pub has_generic : (word t r 0 ≡ 6 → ⊥) → None ≡ generic_in d.definition → ⊥
  has_generic h q = rw ((names h).0 ∙ sym q) at (shape h)

  -- the type that it names, where it is a string
  pub string_type : {x : Record} → Reads t r x → x.kind ≡ 6
      → (k : Named) × (named_by (name_of s x.first x.end) ≡ some k) × (d.definition ≡ named-at x.first k)
  string_type {x} p h = type_fine x.first _ d.definition (sym (ap (definition_at s) (string_read d.row p h)) ∙ d.defines)

no_string : {t : List ℕ} {r : ℕ} {x : Record} → Reads t r x → (x.kind ≡ 6 → ⊥) → word t r 0 ≡ 6 → ⊥
no_string p h e = h (p.kind ∙ e)

module _ {s t : List ℕ} {r : ℕ} {x : Record} (p : Reads t r x) where
  -- `type_at`
  pub type_none : (x.kind ≡ 6 → ⊥) → TypeRow s t r None
  type_none h = record { tells = λ d. (names d (no_string p h)).1 }

  -- k are the bytes between its quotes
  pub type_named : x.kind ≡ 6 → {k : List ℕ} → k ≡ part s (x.first + 1) (x.end - 1)
      → {g : Option TypeName} → g ≡ type_name (named_by (characters k)) → TypeRow s t r g
  type_named h b e = record {
    tells = λ d.
        (let n = string_type d p h in
        e ∙ ap (λ (k : List ℕ). type_name (named_by (characters k))) b ∙ ap type_name n.1 ∙ sym (ap type_in n.2));
  }

  -- `generic_at`
  pub generic_none : x.kind ≡ 6 → GenericRow s t r None
  generic_none h = record { tells = λ d. sym (ap generic_in (string_type d p h).2) }

  -- k are the bytes between the quotes of its name
  pub generic_named : (x.kind ≡ 6 → ⊥) → {y : Record} → Reads t (r + 1) y → {k : List ℕ} → k ≡ part s (y.first + 1) (y.end - 1)
      → {g : Option Generic} → g ≡ generic_of (characters k) → GenericRow s t r g
  generic_named h {y} q b {g} e = record {
    tells = λ d.
        (let z : g ≡ generic_of (name_under d) = e ∙ ap (λ (k : List ℕ). generic_of (characters k)) b ∙ rw (q.first, q.last) in
        z ∙ (names d (no_string p h)).0);
  }

-- ---- what stands inside, by what the definition is

-- the definition under Array or Map, at row r + 2
pub record Element (s t : List ℕ) (r : ℕ) (e : Located) : Type 0 where
  pub value : Rowed s t (r + 2)
  pub defines : definition_at s value.tree ≡ fine e
  pub less : word t (r + 2) 4 < word t r 4

-- the body under Object, at row r + 2, whose parts are these fields
pub record ObjectBody (s t : List ℕ) (r : ℕ) (required optional : LocatedFields) : Type 0 where
  pub object : ObjectRow s t (r + 2)
  pub less : word t (r + 2) 4 < word t r 4
  pub firsts : Members
  pub seconds : Members
  pub first : part_at s (text "required") object.members ≡ members_with firsts (fine required)
  pub second : part_at s (text "optional") object.members ≡ members_with seconds (fine optional)

-- what stands inside a definition
abbrev pub Inside : List ℕ → List ℕ → ℕ → Located → Type 0
Inside s t r (named-at p k) = Unit
Inside s t r (array_at p e) = Element s t r e
Inside s t r (map_at p e) = Element s t r e
Inside s t r (object-at p q o) = ObjectBody s t r q o

shape_inside : {s t : List ℕ} {r : ℕ} (d : Located) (u : Under s t r d) (p : ℕ) (g : Option Generic) → Shaped s p u.value.tree g d → Inside s t r d
shape_inside {s} {t} {r} d u p (Some Array) x = subst (Inside s t r) (sym x.2) (record { value = u.value; defines = x.1; less = u.less })
shape_inside {s} {t} {r} d u p (Some Map) x = subst (Inside s t r) (sym x.2) (record { value = u.value; defines = x.1; less = u.less })
shape_inside {s} {t} {r} d u p (Some Object) x =
    let b = body_fine s p u.value.tree d x in
    subst (Inside s t r) (sym b.3) (record {
      object = as_object u.value ((row u.value).kind ∙ b.2.object);
      less = u.less;
      firsts = b.2.firsts;
      seconds = b.2.seconds;
      first = b.2.first;
      second = b.2.second;
    })
shape_inside d u p None x = absurd x

pub inside : {s t : List ℕ} {r : ℕ} (d : DefinedRow s t r) → Inside s t r d.definition
inside {s} {t} {r} d = go (ℕ_discrete (word t r 0) 6)
  where
    go : Dec (word t r 0 ≡ 6) → Inside s t r d.definition
    go (yes e) =
        let q = sym (ap (definition_at s) (string_row d.row e)) ∙ d.defines in
        let x = type_fine (word t r 1) (named_by (name_of s (word t r 1) (word t r 2))) d.definition q in
        subst (Inside s t r) (sym x.2) tt
    go (no h) = shape_inside d.definition (one_member d h) (word t r 1) (generic_of (name_under d)) (shape d h)

-- the definition inside one that is made by c
pub record Within (s t : List ℕ) (r : ℕ) (c : Def → Def) (a : Def) : Type 0 where
  pub inner : DefinedRow s t (r + 2)
  pub less : word t (r + 2) 4 < word t r 4
  pub is : a ≡ c (bare inner.definition)

-- the fields inside an Object
pub record Fielded (s t : List ℕ) (r : ℕ) (a : Def) : Type 0 where
  pub required : LocatedFields
  pub optional : LocatedFields
  pub body : ObjectBody s t r required optional
  pub is : a ≡ object-of (bare_fields required) (bare_fields optional)

-- by the generic type of the definition a
abbrev Made : List ℕ → List ℕ → ℕ → Def → Option Generic → Type 0
Made s t r a (Some Array) = Within s t r array_of a
Made s t r a (Some Map) = Within s t r map_of a
Made s t r a (Some Object) = Fielded s t r a
Made s t r a None = (k : Named) × (a ≡ named k)

module _ {s t : List ℕ} {r : ℕ} (d : DefinedRow s t r) where
  made : Made s t r (bare d.definition) (generic_in d.definition)
  made = go d.definition (inside d)
    where
      go : (x : Located) → Inside s t r x → Made s t r (bare x) (generic_in x)
      go (named-at p k) i = (k, refl)
      go (array_at p e) i = record { inner = record { row = i.value; definition = e; defines = i.defines }; less = i.less; is = refl }
      go (map_at p e) i = record { inner = record { row = i.value; definition = e; defines = i.defines }; less = i.less; is = refl }
      go (object-at p f o) i = record { required = f; optional = o; body = i; is = refl }

  made_by : (g : Option Generic) → g ≡ generic_in d.definition → Made s t r (bare d.definition) g
  made_by g q = subst (Made s t r (bare d.definition)) (sym q) made

  pub in_name : None ≡ generic_in d.definition → (k : Named) × (bare d.definition ≡ named k)
  in_name q = made_by None q

  pub in_array : Some Array ≡ generic_in d.definition → Within s t r array_of (bare d.definition)
  in_array q = made_by (Some Array) q

  pub in_map : Some Map ≡ generic_in d.definition → Within s t r map_of (bare d.definition)
  in_map q = made_by (Some Map) q

  pub in-object : Some Object ≡ generic_in d.definition → Fielded s t r (bare d.definition)
  in-object q = made_by (Some Object) q

-- ---- its fields

-- a part that is members is an object
part_kind : (s : List ℕ) (n : Node) {ms : Members} {d : Defined LocatedFields} → part_of s n ≡ members_with ms d → kind_of n ≡ 8
part_kind s (scalar k f e) q = never (cc)
part_kind s (array f e ns) q = never (cc)
part_kind s (object f e ns) q = refl

-- the fields at the row that was found for a part
pub part_fields : {s t key : List ℕ} {r : ℕ} (o : ObjectRow s t r) (v : Option ℕ) {ms : Members} {fs : LocatedFields}
    → Finds s t r key v → part_at s key o.members ≡ members_with ms (fine fs) → (w : PartRow s t v) × (fields_at s w.members ≡ fine fs)
part_fields {s} {t} o v {ms} {fs} f q =
    let p = has_part o v f (λ w e.
    (let g = rw e at f in
    let n = (found o g).value in
    (row n).kind ∙ part_kind s n.tree (sym (part_found o g) ∙ q))) in
    let z : fields_at s p.at.members ≡ fine fs = cc p.is in
    (p.at, z)

module _ {s t : List ℕ} {r : ℕ} {required optional : LocatedFields} (b : ObjectBody s t r required optional) where
  abbrev pub fields_found : {key : List ℕ} {v : Option ℕ} {ms : Members} {fs : LocatedFields}
      → Finds s t (r + 2) key v → part_at s key b.object.members ≡ members_with ms (fine fs) → FieldsRow s t v
  fields_found {v = v} {fs = fs} f q = let x = part_fields b.object v f q in record { part = x.0; fields = fs; defines = x.1 }

  pub part_less : {key : List ℕ} {v : Option ℕ} → Finds s t (r + 2) key v → part_rows t v < word t r 4
  part_less {v = v} f = omega (arith, found_less b.object v f, b.less)

-- ---- definitions that only objects meet

abbrev pub objects_by : Option Generic → Bool
objects_by (Some Array) = false
objects_by (Some Map) = true
objects_by (Some Object) = true
objects_by None = false

pub objects_in : (d : Located) → objects_by (generic_in d) ≡ of_objects (bare d)
objects_in (named-at p t) = refl
objects_in (array_at p d) = refl
objects_in (map_at p d) = refl
objects_in (object-at p r o) = refl

module _ {s t : List ℕ} {r : ℕ} {g : Option Generic} (h : GenericRow s t r g) where
  objects_row : (k : Option Generic) → g ≡ k → OfObjectsRow s t r (objects_by k)
  objects_row k e = record { tells = λ d. ap objects_by (sym e ∙ h.tells d) ∙ objects_in d.definition }

  pub no_generic : g ≡ None → OfObjectsRow s t r false
  no_generic e = objects_row None e

  pub no_objects : {k : Generic} → g ≡ Some k → k ≡ Array → OfObjectsRow s t r false
  no_objects e i = objects_row (Some Array) (e ∙ ap (λ (k : Generic). Some k) i)

  pub objects : {k : Generic} → g ≡ Some k → (k ≡ Map) ⊎ (k ≡ Object) → OfObjectsRow s t r true
  objects e (inl i) = objects_row (Some Map) (e ∙ ap (λ (k : Generic). Some k) i)
  objects e (inr i) = objects_row (Some Object) (e ∙ ap (λ (k : Generic). Some k) i)
