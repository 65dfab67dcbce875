-- A value has no fault exactly where it is a definition, and then the definition is that one, with places (01, "Definitions").
use Prim.Native.Nat.{ℕ}
use mathlib.Core.Path.{◌≡◌, refl, sym, ap, ◌∙◌}
use mathlib.Core.Bool.{Bool, true, false, not, cond, ◌&&◌, ◌||◌}
use Rattle.std.specs.Prelude.{Option, Some, None}
use Rattle.std.proofs.Math.Option.{Option as MathOption, none, some}
use mathlib.Core.List.{List}
use Rattle.model.specs.Text.{text, same}
use Rattle.model.specs.Definition.{Named, named_by, Def, named, array_of, map_of, Fields, has_field, disjoint, is_empty, definition_of, single}
use Rattle.model.specs.Definition.{object_of, fields_of, fields_in, mapped as map-option, added as added-option, joined as joined-option}
use Rattle.model.specs.Definition.{constructed as constructed-option, fields_under as part-option}
use Rattle.model.proofs.Basics.{never, both}
use Rattle.tokens.specs.declared.tokens.Kind.{Kind}
use Rattle.tokens.specs.declared.tokens.Kind.TheVariants.{Null, False, True, Whole, Fractional, Quoted}
use Rattle.syntax.specs.Tree.{Node, scalar, array, object, Members, no_member, member}
use Rattle.syntax.specs.Grammar.{name_of}
use Rattle.syntax.specs.Spelling.{scalar_of, value_of, members_of}
use Rattle.definitions.specs.Definitions.{Located, array_at, map_at, object-at, LocatedFields, no_field, field, bare, bare_fields}
use Rattle.definitions.specs.Definitions.{Defined, faulty, fine, if_fine, type_at, scalar_definition, is_last, added_at, has_named, shared_at, Part}
use Rattle.definitions.specs.Definitions.{wrong, members_with, both_fields, unshared, joined_at, constructed_at, definition_at, single_at}
use Rattle.definitions.specs.declared.definitions.FaultCode.{FaultCode}
use Rattle.definitions.specs.declared.definitions.FaultCode.TheVariants.{NoDefinition}
use Rattle.definitions.specs.Definitions.{body_at, part_at, part_of, fields_at}

-- ---- without places, and without what a fault says

abbrev pub forget : Defined Located → MathOption Def
forget (faulty c p) = none
forget (fine d) = some (bare d)

abbrev pub forget_fields : Defined LocatedFields → MathOption Fields
forget_fields (faulty c p) = none
forget_fields (fine fs) = some (bare_fields fs)

abbrev forget_part : Part → MathOption Fields
forget_part (wrong q) = none
forget_part (members_with ms r) = forget_fields r

mapped_forgets : (f : Located → Located) (g : Def → Def) → ((d : Located) → g (bare d) ≡ bare (f d))
    → (d : Defined Located) → map-option g (forget d) ≡ forget (if_fine f d)
mapped_forgets f g h (faulty c p) = refl
mapped_forgets f g h (fine d) = ap some (h d)

type_forgets : (p : ℕ) (t : MathOption Named) → map-option named t ≡ forget (type_at p t)
type_forgets p none = refl
type_forgets p (some t) = refl

added_forgets : (p : ℕ) (n : List ℕ) (d : Defined Located) (fs : Defined LocatedFields)
    → added-option n (forget d) (forget_fields fs) ≡ forget_fields (added_at p n d fs)
added_forgets p n (faulty c q) fs = refl
added_forgets p n (fine d) (faulty c q) = refl
added_forgets p n (fine d) (fine fs) = refl

-- a choice between two, by one test
choice_forgets : {A B : Type 0} (f : A → MathOption B) (b : Bool) (x y : MathOption B) (d e : A)
    → x ≡ f d → y ≡ f e → cond b x y ≡ f (cond b d e)
choice_forgets f true x y d e h k = h
choice_forgets f false x y d e h k = k

constructed_forgets : (p q : ℕ) (n : List ℕ) (x y : MathOption Def) (d o : Defined Located)
    → x ≡ forget d → y ≡ forget o → constructed-option n x y ≡ forget (constructed_at p q n d o)
constructed_forgets p q n x y d o h k =
    choice_forgets forget (same n (text "Array")) _ _ _ _ (rw h (mapped_forgets (array_at p) array_of (λ e. refl) d))
    (choice_forgets forget (same n (text "Map")) _ _ _ _ (rw h (mapped_forgets (map_at p) map_of (λ e. refl) d))
    (choice_forgets forget (same n (text "Object")) _ _ _ _ k refl))

-- ---- names

-- a field that was added, and those behind it
pub record Added (p : ℕ) (n : List ℕ) (d : Defined Located) (fs : Defined LocatedFields) (all : LocatedFields) : Type 0 where
  pub definition : Located
  pub others : LocatedFields
  pub defines : d ≡ fine definition
  pub define : fs ≡ fine others
  pub adds : all ≡ field p n definition others

pub added_fine : (p : ℕ) (n : List ℕ) (d : Defined Located) (fs : Defined LocatedFields) (all : LocatedFields)
    → added_at p n d fs ≡ fine all → Added p n d fs all
added_fine p n (faulty c q) fs all e = never (cc)
added_fine p n (fine d) (faulty c q) all e = never (cc)
added_fine p n (fine d) (fine fs) all e = record { definition = d; others = fs; defines = refl; define = refl; adds = cc }

abbrev is_none : Option ℕ → Bool
is_none None = true
is_none (Some q) = false

module _ (s : List ℕ) where
  -- the fields have the members' names
  names_in : (ms : Members) (fs : LocatedFields) → fields_at s ms ≡ fine fs → (n : List ℕ) → has_field n (bare_fields fs) ≡ has_named s n ms
  names_in no_member fs e n = let x : fs ≡ no_field = cc in rw x
  names_in (member f e v ms) fs q n =
      let a = added_fine f (name_of s f e) (definition_at s v) (fields_at s ms) fs q in
      rw a.adds (ap (λ b. same n (name_of s f e) || b) (names_in ms a.others a.define n))

  -- no name is shared
  shared_none : (b : Bool) (f : ℕ) (o : Option ℕ) → not b && is_none o ≡ is_none (cond b (Some f) o)
  shared_none true f o = refl
  shared_none false f o = refl

  disjoint_shared : (ms : Members) (r : LocatedFields) → fields_at s ms ≡ fine r
      → (ns : Members) (o : LocatedFields) → fields_at s ns ≡ fine o → disjoint (bare_fields r) (bare_fields o) ≡ is_none (shared_at s ms ns)
  disjoint_shared ms r h no_member o q = let x : o ≡ no_field = cc in rw x
  disjoint_shared ms r h (member f e v ns) o q =
      let a = added_fine f (name_of s f e) (definition_at s v) (fields_at s ns) o q in
      rw (a.adds, disjoint_shared ms r h ns a.others a.define, names_in ms r h (name_of s f e))
      (shared_none (has_named s (name_of s f e) ms) f (shared_at s ms ns))

  -- ---- the body of an Object

  -- the fields of a part are those that its members give
  abbrev Honest : Part → Type 0
  Honest (wrong q) = Unit
  Honest (members_with ms r) = r ≡ fields_at s ms

  of_honest : (n : Node) → Honest (part_of s n)
  of_honest (scalar k f e) = tt
  of_honest (array f e ns) = tt
  of_honest (object f e ms) = refl

  part_honest : (k : List ℕ) (ms : Members) → Honest (part_at s k ms)
  part_honest k no_member = refl
  part_honest k (member f e n ms) = both Honest (same k (name_of s f e)) (λ _. of_honest n) (λ _. part_honest k ms)

  -- a fault of the fields, whatever the names are
  unshared_forgets : (o : Option ℕ) (c : FaultCode) (q : ℕ) → none ≡ forget (unshared o (faulty c q))
  unshared_forgets None c q = refl
  unshared_forgets (Some p) c q = refl

  -- an Object without places, where no name is shared
  object_forgets : (o : Option ℕ) (d : Located) → cond (is_none o) (some (bare d)) none ≡ forget (unshared o (fine d))
  object_forgets None d = refl
  object_forgets (Some q) d = refl

  fields_forgets : (p : ℕ) (ms ns : Members) (r o : Defined LocatedFields) → r ≡ fields_at s ms → o ≡ fields_at s ns
      → joined-option (forget_fields r) (forget_fields o) ≡ forget (unshared (shared_at s ms ns) (both_fields p r o))
  fields_forgets p ms ns (faulty c q) o h k = unshared_forgets (shared_at s ms ns) c q
  fields_forgets p ms ns (fine r) (faulty c q) h k = unshared_forgets (shared_at s ms ns) c q
  fields_forgets p ms ns (fine r) (fine o) h k = rw (disjoint_shared ms r (sym h) ns o (sym k)) (object_forgets (shared_at s ms ns) (object-at p r o))

  no_second : (r : MathOption Fields) → joined-option r none ≡ none
  no_second none = refl
  no_second (some r) = refl

  joined_forgets : (p : ℕ) (r o : Part) → Honest r → Honest o → joined-option (forget_part r) (forget_part o) ≡ forget (joined_at s p r o)
  joined_forgets p (wrong q) o h k = refl
  joined_forgets p (members_with ms r) (wrong q) h k = no_second (forget_fields r)
  joined_forgets p (members_with ms r) (members_with ns o) h k = fields_forgets p ms ns r o h k

  -- ---- values

  scalar_forgets : (k : Kind) (f e : ℕ) → definition_of (scalar_of s k f e) ≡ forget (scalar_definition s k f e)
  scalar_forgets Null f e = refl
  scalar_forgets False f e = refl
  scalar_forgets True f e = refl
  scalar_forgets Whole f e = refl
  scalar_forgets Fractional f e = refl
  scalar_forgets Quoted f e = type_forgets f (named_by (name_of s f e))

  -- a value that holds no other is no body and no part
  scalar_body : (k : Kind) (f e : ℕ) → object_of (scalar_of s k f e) ≡ none
  scalar_body Null f e = refl
  scalar_body False f e = refl
  scalar_body True f e = refl
  scalar_body Whole f e = refl
  scalar_body Fractional f e = refl
  scalar_body Quoted f e = refl

  scalar_part : (k : Kind) (f e : ℕ) → fields_of (scalar_of s k f e) ≡ none
  scalar_part Null f e = refl
  scalar_part False f e = refl
  scalar_part True f e = refl
  scalar_part Whole f e = refl
  scalar_part Fractional f e = refl
  scalar_part Quoted f e = refl

  last_forgets : (ms : Members) (p : ℕ) (x : MathOption Def) (d : Defined Located) → x ≡ forget d
      → cond (is_empty (members_of s ms)) x none ≡ forget (cond (is_last ms) d (faulty NoDefinition p))
  last_forgets no_member p x d h = h
  last_forgets (member f e n ms) p x d h = refl

  mutual
    pub definition_forgets : (n : Node) → definition_of (value_of s n) ≡ forget (definition_at s n)
    definition_forgets (scalar k f e) = scalar_forgets k f e
    definition_forgets (array f e ns) = refl
    definition_forgets (object f e ms) = single_forgets f ms

    single_forgets : (p : ℕ) (ms : Members) → single (members_of s ms) ≡ forget (single_at s p ms)
    single_forgets p no_member = refl
    single_forgets p (member f e n ms) =
        last_forgets ms p _ _ (constructed_forgets p f (name_of s f e) _ _ (definition_at s n) (body_at s p n) (definition_forgets n) (body_forgets p n))

    body_forgets : (p : ℕ) (n : Node) → object_of (value_of s n) ≡ forget (body_at s p n)
    body_forgets p (scalar k f e) = scalar_body k f e
    body_forgets p (array f e ns) = refl
    body_forgets p (object f e ms) =
        rw (part_forgets (text "required") ms, part_forgets (text "optional") ms)
        (joined_forgets p (part_at s (text "required") ms) (part_at s (text "optional") ms) (part_honest (text "required") ms) (part_honest (text "optional") ms))

    part_forgets : (k : List ℕ) (ms : Members) → part-option k (members_of s ms) ≡ forget_part (part_at s k ms)
    part_forgets k no_member = refl
    part_forgets k (member f e n ms) =
        choice_forgets forget_part (same k (name_of s f e)) _ _ (part_of s n) (part_at s k ms) (of_forgets n) (part_forgets k ms)

    of_forgets : (n : Node) → fields_of (value_of s n) ≡ forget_part (part_of s n)
    of_forgets (scalar k f e) = scalar_part k f e
    of_forgets (array f e ns) = refl
    of_forgets (object f e ms) = in_forgets ms

    in_forgets : (ms : Members) → fields_in (members_of s ms) ≡ forget_fields (fields_at s ms)
    in_forgets no_member = refl
    in_forgets (member f e n ms) =
        rw (definition_forgets n, in_forgets ms) (added_forgets f (name_of s f e) (definition_at s n) (fields_at s ms))

  -- ---- what is defined, and what is not

  pub defined_plain : (n : Node) (d : Located) → definition_at s n ≡ fine d → definition_of (value_of s n) ≡ some (bare d)
  defined_plain n d q = definition_forgets n ∙ ap forget q

  pub faulty_none : (n : Node) (c : FaultCode) (p : ℕ) → definition_at s n ≡ faulty c p → definition_of (value_of s n) ≡ none
  faulty_none n c p q = definition_forgets n ∙ ap forget q

  forget_some : (x : Defined Located) (y : Def) → forget x ≡ some y → (d : Located) × (x ≡ fine d) × (bare d ≡ y)
  forget_some (faulty c p) y q = never (cc)
  forget_some (fine d) y q = (d, refl, cc)

  pub some_defined : (n : Node) (x : Def) → definition_of (value_of s n) ≡ some x → (d : Located) × (definition_at s n ≡ fine d) × (bare d ≡ x)
  some_defined n x q = forget_some (definition_at s n) x (sym (definition_forgets n) ∙ q)
