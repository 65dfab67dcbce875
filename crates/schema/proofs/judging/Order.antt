-- The order of judging, and why a value does not meet a definition (01, "First misfit").
use Prim.Native.Nat.{ℕ}
use mathlib.Core.Path.{◌≡◌, refl, ◌∙◌}
use mathlib.Core.Logic.{inl, inr}
use mathlib.Core.Bool.{Bool, true, false}
use mathlib.Core.List.{List}
use Rattle.std.specs.Prelude.{Some}
use Rattle.model.specs.Value.{Value, Values, Members as ValueMembers, Among, Under, has_name}
use Rattle.model.specs.Definition.{Named, JSON, Schema, Float, Integer, String, Boolean, DateTime, definition_of}
use Rattle.model.specs.Date.{is_date}
use Rattle.model.specs.Meeting.{is_some, if_string, IfArray, IfObject, meets_named, HasNames, Meets, FieldsMeet}
use Rattle.model.proofs.Basics.{never, clash}
use Rattle.tokens.specs.declared.tokens.Kind.{Kind}
use Rattle.tokens.specs.declared.tokens.Kind.TheVariants.{Null, False, True, Whole, Fractional, Quoted}
use Rattle.syntax.specs.Tree.{Node, scalar, array, object, Nodes, none as no_Node, more, Members, no_member, member, place_of}
use Rattle.syntax.specs.Grammar.{name_of}
use Rattle.syntax.specs.Spelling.{scalar_of, value_of, values_of, members_of}
use Rattle.syntax.specs.Holding.{Placed}
use Rattle.definitions.specs.Definitions.{Located, named-at, array_at, map_at, object-at, LocatedFields, no_field, field, bare, bare_fields}
use Rattle.schema.specs.Judging.{mismatch, is_whole, is_number, is_string, is_boolean, if_scalar, is_array, is_object}
use Rattle.rows.specs.Finding.{lookup}
use Rattle.schema.specs.declared.judging.Mismatch.{Mismatch}
use Rattle.schema.specs.declared.judging.MismatchCode.TheVariants.{WrongKind, MissingName, NoDate}
use Rattle.definitions.proofs.Facts.{first_byte}
use Rattle.schema.proofs.judging.Looking.{lookup_found}
use Rattle.schema.proofs.judging.Meeting.{whole_integer, number_number, string_string, boolean_boolean, scalar_array, scalar_object}

-- ---- elements, members and fields, one list behind the other

abbrev pub join_nodes : Nodes → Nodes → Nodes
join_nodes no_Node rest = rest
join_nodes (more n ns) rest = more n (join_nodes ns rest)

abbrev pub join_members : Members → Members → Members
join_members no_member rest = rest
join_members (member f e n ms) rest = member f e n (join_members ms rest)

abbrev pub join_fields : LocatedFields → LocatedFields → LocatedFields
join_fields no_field rest = rest
join_fields (field q k d fs) rest = field q k d (join_fields fs rest)

-- all elements have the property; the values of all members do
abbrev pub EachNode : (Node → Type 0) → Nodes → Type 0
EachNode P no_Node = Unit
EachNode P (more n ns) = P n × EachNode P ns

abbrev pub EachMember : (Node → Type 0) → Members → Type 0
EachMember P no_member = Unit
EachMember P (member f e n ms) = P n × EachMember P ms

-- ---- meeting, with places

abbrev pub MeetsAt : List ℕ → Located → Node → Type 0
MeetsAt s d n = Meets (bare d) (value_of s n)

-- under each name of the fields that the members have stands a value that meets
abbrev pub FieldsMeetAt : List ℕ → LocatedFields → Members → Type 0
FieldsMeetAt s fs ms = FieldsMeet (bare_fields fs) (members_of s ms)

-- and they have all the names
abbrev pub FieldsFound : List ℕ → LocatedFields → Members → Type 0
FieldsFound s fs ms = HasNames (bare_fields fs) (members_of s ms) × FieldsMeetAt s fs ms

-- ---- the order of judging: Judges s d n d₂ n₂ where judging n by d comes to judging n₂ by d₂, since all that is judged before meets
pub data Judges (s : List ℕ) : Located → Node → Located → Node → Type 0 where
  itself : {d : Located} {n : Node} → Judges s d n d n
  -- "Array by element [..], in document order"
  element : {p f e : ℕ} {d d₂ : Located} {ns : Nodes} {x n₂ : Node} (before after : Nodes)
      → ns ≡ join_nodes before (more x after) → EachNode (MeetsAt s d) before
      → Judges s d x d₂ n₂ → Judges s (array_at p d) (array f e ns) d₂ n₂
  -- "Map by member"
  value : {p f e : ℕ} {d d₂ : Located} {ms : Members} {x n₂ : Node} (before : Members) (g h : ℕ) (after : Members)
      → ms ≡ join_members before (member g h x after) → EachMember (MeetsAt s d) before
      → Judges s d x d₂ n₂ → Judges s (map_at p d) (object f e ms) d₂ n₂
  -- "names of "required" in schema order"
  required : {p f e : ℕ} {r o : LocatedFields} {d d₂ : Located} {ms : Members} {x n₂ : Node}
      (before : LocatedFields) (q : ℕ) (k : List ℕ) (after : LocatedFields)
      → r ≡ join_fields before (field q k d after) → FieldsFound s before ms → lookup s k ms ≡ Some x
      → Judges s d x d₂ n₂ → Judges s (object-at p r o) (object f e ms) d₂ n₂
  -- "then those of "optional" that are present, in schema order"
  optional : {p f e : ℕ} {r o : LocatedFields} {d d₂ : Located} {ms : Members} {x n₂ : Node}
      (before : LocatedFields) (q : ℕ) (k : List ℕ) (after : LocatedFields)
      → FieldsFound s r ms → o ≡ join_fields before (field q k d after) → FieldsMeetAt s before ms → lookup s k ms ≡ Some x
      → Judges s d x d₂ n₂ → Judges s (object-at p r o) (object f e ms) d₂ n₂

-- ---- why a value does not meet a definition

-- the value is of the kind that the type takes
abbrev pub takes : List ℕ → Named → Node → Bool
takes s JSON n = true
takes s Schema n = is_some (definition_of (value_of s n))
takes s Float n = if_scalar is_number n
takes s Integer n = if_scalar is_whole n
takes s String n = if_scalar is_string n
takes s Boolean n = if_scalar is_boolean n
takes s DateTime n = if_scalar is_string n

-- the value is of the kind that the definition takes, whatever it holds
abbrev pub of_kind : List ℕ → Located → Node → Bool
of_kind s (named-at p t) n = takes s t n
of_kind s (array_at p d) n = is_array n
of_kind s (map_at p d) n = is_object n
of_kind s (object-at p r o) n = is_object n

-- a required name, with its opening quote at q, that the value lacks; those before it are found and meet
pub record Lacks (s : List ℕ) (d : Located) (n : Node) (q : ℕ) : Type 0 where
  pub place : ℕ
  pub required_fields : LocatedFields
  pub optional_fields : LocatedFields
  pub first : ℕ
  pub last : ℕ
  pub members : Members
  pub is-object : d ≡ object-at place required_fields optional_fields
  pub has_members : n ≡ object first last members
  pub before : LocatedFields
  pub name : List ℕ
  pub definition : Located
  pub after : LocatedFields
  pub splits : required_fields ≡ join_fields before (field q name definition after)
  pub found : FieldsFound s before members
  pub lacks : has_name name (members_of s members) ≡ false

-- a string that is no date
pub record Undated (s : List ℕ) (d : Located) (n : Node) : Type 0 where
  pub place : ℕ
  pub first : ℕ
  pub last : ℕ
  pub is-date : d ≡ named-at place DateTime
  pub is-string : n ≡ scalar Quoted first last
  pub fails : is_date (name_of s first last) ≡ false

-- "20 wrong kind of value: first byte, document; definition's first byte, schema"; "21 required name missing: the object's brace; opening
-- quote of the name in the schema"; "22 string is no date: its opening quote; definition's first byte"
pub data Fails (s : List ℕ) (d : Located) (n : Node) (m : Mismatch) : Type 0 where
  wrong_kind : of_kind s d n ≡ false → m ≡ mismatch WrongKind (place_of n) (first_byte d) → Fails s d n m
  name_missing : (q : ℕ) → Lacks s d n q → m ≡ mismatch MissingName (place_of n) q → Fails s d n m
  no_date : Undated s d n → m ≡ mismatch NoDate (place_of n) (first_byte d) → Fails s d n m

module _ (s : List ℕ) where
  -- ---- a value that fails a definition does not meet it

  date_string : (n : Node) → if_string is_date (value_of s n) ≡ true → if_scalar is_string n ≡ true
  date_string (scalar k f e) = of-kind k
    where
      of-kind : (k : Kind) → if_string is_date (scalar_of s k f e) ≡ true → is_string k ≡ true
      of-kind Null h = h
      of-kind False h = h
      of-kind True h = h
      of-kind Whole h = h
      of-kind Fractional h = h
      of-kind Quoted h = refl
  date_string (array f e ns) = λ h. h
  date_string (object f e ms) = λ h. h

  named_kind : (t : Named) (n : Node) → Placed s n → meets_named t (value_of s n) ≡ true → takes s t n ≡ true
  named_kind JSON n l h = refl
  named_kind Schema n l h = h
  named_kind Float n l h = number_number s n ∙ h
  named_kind Integer n l h = whole_integer s n l ∙ h
  named_kind String n l h = string_string s n ∙ h
  named_kind Boolean n l h = boolean_boolean s n ∙ h
  named_kind DateTime n l h = date_string n h

  array_kind : (P : Values → Type 0) (n : Node) → IfArray P (value_of s n) → is_array n ≡ true
  array_kind P (scalar k f e) h = absurd (scalar_array s P k f e h)
  array_kind P (array f e ns) h = refl
  array_kind P (object f e ms) h = absurd h

  object_kind : (P : ValueMembers → Type 0) (n : Node) → IfObject P (value_of s n) → is_object n ≡ true
  object_kind P (scalar k f e) h = absurd (scalar_object s P k f e h)
  object_kind P (array f e ns) h = absurd h
  object_kind P (object f e ms) h = refl

  -- what meets a definition is of the kind that it takes
  meets_kind : (d : Located) (n : Node) → Placed s n → MeetsAt s d n → of_kind s d n ≡ true
  meets_kind (named-at p t) n l h = named_kind t n l h
  meets_kind (array_at p d) n l h = array_kind _ n h
  meets_kind (map_at p d) n l h = object_kind _ n h
  meets_kind (object-at p r o) n l h = object_kind _ n h

  -- a name that is asked for
  asked : (before : LocatedFields) (q : ℕ) (k : List ℕ) (d : Located) (after : LocatedFields) (ms : ValueMembers)
      → HasNames (bare_fields (join_fields before (field q k d after))) ms → has_name k ms ≡ true
  asked no_field q k d after ms h = h.0
  asked (field p m x fs) q k d after ms h = asked fs q k d after ms h.1

  pub fails_meets : (d : Located) (n : Node) (m : Mismatch) → Placed s n → Fails s d n m → MeetsAt s d n → ⊥
  fails_meets d n m l (wrong_kind k e) h = clash (of_kind s d n) (meets_kind d n l h) k
  fails_meets d n m l (name_missing q w e) h =
      let x = rw (w.is-object, w.has_members, w.splits) at h in
      clash (has_name w.name (members_of s w.members))
      (asked w.before q w.name w.definition w.after (members_of s w.members) x.0) w.lacks
  fails_meets d n m l (no_date w e) h =
      let x = rw (w.is-date, w.is-string) at h in
      clash (is_date (name_of s w.first w.last)) x w.fails

  -- ---- what the mismatch says

  pub fails_place : (d : Located) (n : Node) (m : Mismatch) → Fails s d n m → m.place ≡ place_of n
  fails_place d n m (wrong_kind k e) = rw e
  fails_place d n m (name_missing q w e) = rw e
  fails_place d n m (no_date w e) = rw e

  -- a wrong kind and no date: the definition's first byte
  pub fails_other : (d : Located) (n : Node) (m : Mismatch) → Fails s d n m → (m.code ≡ MissingName → ⊥) → m.other ≡ first_byte d
  fails_other d n m (wrong_kind k e) h = rw e
  fails_other d n m (name_missing q w e) h = absurd (h (rw e))
  fails_other d n m (no_date w e) h = rw e

  -- a missing name: the opening quote of a required name that the value lacks
  pub fails_lacks : (d : Located) (n : Node) (m : Mismatch) → Fails s d n m → m.code ≡ MissingName → Lacks s d n m.other
  fails_lacks d n m (wrong_kind k e) h = let z : WrongKind ≡ MissingName = rw e at h in never (cc)
  fails_lacks d n m (name_missing q w e) h = rw e w
  fails_lacks d n m (no_date w e) h = let z : NoDate ≡ MissingName = rw e at h in never (cc)

  -- ---- what is judged on the way

  in_among : (before : Nodes) (x : Node) (after : Nodes) → Among (value_of s x) (values_of s (join_nodes before (more x after)))
  in_among no_Node x after = inl refl
  in_among (more n ns) x after = inr (in_among ns x after)

  in_under : (before : Members) (f e : ℕ) (x : Node) (after : Members)
      → Under (name_of s f e) (value_of s x) (members_of s (join_members before (member f e x after)))
  in_under no_member f e x after = inl (refl, refl)
  in_under (member g h n ms) f e x after = inr (in_under ms f e x after)

  in_fields : (before : LocatedFields) (q : ℕ) (k : List ℕ) (d : Located) (after : LocatedFields) (ms : ValueMembers)
      → FieldsMeet (bare_fields (join_fields before (field q k d after))) ms → (w : Value) → Under k w ms → Meets (bare d) w
  in_fields no_field q k d after ms h = h.0
  in_fields (field p m x fs) q k d after ms h = in_fields fs q k d after ms h.1

  -- what meets a definition holds nothing on the way that does not
  pub judges_meets : {d : Located} {n : Node} {d₂ : Located} {n₂ : Node} → Judges s d n d₂ n₂ → MeetsAt s d n → MeetsAt s d₂ n₂
  judges_meets itself h = h
  judges_meets (element {x = x} before after e b j) h = judges_meets j (h (value_of s x) (rw e (in_among before x after)))
  judges_meets (value {x = x} before f e after q b j) h = judges_meets j (h (name_of s f e) (value_of s x) (rw q (in_under before f e x after)))
  judges_meets (required {d = d} {ms = ms} {x = x} before q k after e b l j) h =
      judges_meets j (in_fields before q k d after (members_of s ms) (rw e at h.1) (value_of s x) (lookup_found s k ms x l).under)
  judges_meets (optional {d = d} {ms = ms} {x = x} before q k after r e b l j) h =
      judges_meets j (in_fields before q k d after (members_of s ms) (rw e at h.2) (value_of s x) (lookup_found s k ms x l).under)
