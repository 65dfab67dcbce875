-- Definitions with their places, and the faults of a value that is none (01, "Definitions"); at the end what private contracts cite.
use Rattle.std.specs.Prelude.{ℕ, ◌≡◌, Bool, true, false, cond, ◌||◌, eqb, List, Option, Some, None, Result, Ok, Err}
use Rattle.std.proofs.Math.Option.{Option as MathOption, none, some}
use Rattle.model.specs.Text.{text, same}
use Rattle.model.specs.Definition.{Named, named_by, Def, named, array_of, map_of, object-of, Fields, fnil, fcons}
use Rattle.tokens.specs.declared.tokens.Kind.{Kind}
use Rattle.tokens.specs.declared.tokens.Kind.TheVariants.{Null, False, True, Whole, Fractional, Quoted}
use Rattle.syntax.specs.Tree.{Node, scalar, array, object, Members, no_member, member}
use Rattle.syntax.specs.Grammar.{name_of}
use Rattle.syntax.specs.Holding.{word}
use Rattle.rows.specs.Records.{Rowed, ObjectRow, PartRow}
use Rattle.rows.specs.Finding.{Finds}
use Rattle.definitions.specs.declared.definitions.FaultCode.{FaultCode}
use Rattle.definitions.specs.declared.definitions.FaultCode.TheVariants.{NoDefinition, UnknownType, SharedName}
use Rattle.definitions.specs.declared.definitions.Fault.{Fault}

-- a definition, with its first byte; of a field, the opening quote of its name
mutual
  pub data Located : Type 0 where
    named-at : ℕ → Named → Located
    array_at : ℕ → Located → Located
    map_at : ℕ → Located → Located
    object-at : ℕ → LocatedFields → LocatedFields → Located  -- the required and the optional fields

  pub data LocatedFields : Type 0 where
    no_field : LocatedFields
    field : ℕ → List ℕ → Located → LocatedFields → LocatedFields

-- the definition without places
abbrev mutual
  pub bare : Located → Def
  bare (named-at p t) = named t
  bare (array_at p d) = array_of (bare d)
  bare (map_at p d) = map_of (bare d)
  bare (object-at p r o) = object-of (bare_fields r) (bare_fields o)

  pub bare_fields : LocatedFields → Fields
  bare_fields no_field = fnil
  bare_fields (field p n d fs) = fcons n (bare d) (bare_fields fs)

-- a fault, with its code and place; or what is defined
pub data Defined (A : Type 0) : Type 0 where
  faulty : FaultCode → ℕ → Defined A
  fine : A → Defined A

abbrev pub if_fine : {A B : Type 0} → (A → B) → Defined A → Defined B
if_fine f (faulty c p) = faulty c p
if_fine f (fine a) = fine (f a)

-- "Another string [..]: 11."
abbrev pub type_at : ℕ → MathOption Named → Defined Located
type_at p none = faulty UnknownType p
type_at p (some t) = fine (named-at p t)

-- a string that is a type name; "Other kinds: 10."
abbrev pub scalar_definition : List ℕ → Kind → ℕ → ℕ → Defined Located
scalar_definition s Null f e = faulty NoDefinition f
scalar_definition s False f e = faulty NoDefinition f
scalar_definition s True f e = faulty NoDefinition f
scalar_definition s Whole f e = faulty NoDefinition f
scalar_definition s Fractional f e = faulty NoDefinition f
scalar_definition s Quoted f e = type_at f (named_by (name_of s f e))

abbrev pub is_last : Members → Bool
is_last no_member = true
is_last (member f e n ms) = false

-- a further field, where it and the others are defined: a fault of it comes first
abbrev pub added_at : ℕ → List ℕ → Defined Located → Defined LocatedFields → Defined LocatedFields
added_at p n (faulty c q) fs = faulty c q
added_at p n (fine d) fs = if_fine (field p n d) fs

-- some member has the name n
abbrev pub has_named : List ℕ → List ℕ → Members → Bool
has_named s n no_member = false
has_named s n (member f e m ms) = same n (name_of s f e) || has_named s n ms

-- "shared names, in the order of "optional"": the opening quote of the first that the required members have too
abbrev pub shared_at : List ℕ → Members → Members → Option ℕ
shared_at s r no_member = None
shared_at s r (member f e n ms) = cond (has_named s (name_of s f e) r) (Some f) (shared_at s r ms)

-- what stands under "required" or "optional": a value of another kind; or members, perhaps none, with what their fields are
pub data Part : Type 0 where
  wrong : ℕ → Part
  members_with : Members → Defined LocatedFields → Part

-- "then the definitions of "required" in order, then of "optional""
abbrev pub both_fields : ℕ → Defined LocatedFields → Defined LocatedFields → Defined Located
both_fields p (faulty c q) o = faulty c q
both_fields p (fine r) o = if_fine (object-at p r) o

-- code 12, for a name both required and optional, at its opening quote under "optional"
abbrev pub unshared : Option ℕ → Defined Located → Defined Located
unshared None d = d
unshared (Some q) d = faulty SharedName q

-- "kind of "required"; kind of "optional"; shared names; [..]"
abbrev pub joined_at : List ℕ → ℕ → Part → Part → Defined Located
joined_at s p (wrong q) o = faulty NoDefinition q
joined_at s p (members_with ms r) (wrong q) = faulty NoDefinition q
joined_at s p (members_with ms r) (members_with ns o) = unshared (shared_at s ms ns) (both_fields p r o)

-- the definition at p with the one member of the name n, whose opening quote is at q: d is the member's value as a definition, o as the body of an Object
abbrev pub constructed_at : ℕ → ℕ → List ℕ → Defined Located → Defined Located → Defined Located
constructed_at p q n d o =
    cond (same n (text "Array")) (if_fine (array_at p) d)
    (cond (same n (text "Map")) (if_fine (map_at p) d)
    (cond (same n (text "Object")) o (faulty UnknownType q)))

-- the definition that the value at a place is, or its first fault
abbrev mutual
  pub definition_at : List ℕ → Node → Defined Located
  definition_at s (scalar k f e) = scalar_definition s k f e
  definition_at s (array f e ns) = faulty NoDefinition f
  definition_at s (object f e ms) = single_at s f ms

  -- "An object with no member, or with more than one: 10."
  pub single_at : List ℕ → ℕ → Members → Defined Located
  single_at s p no_member = faulty NoDefinition p
  single_at s p (member f e n ms) = cond (is_last ms) (constructed_at p f (name_of s f e) (definition_at s n) (body_at s p n)) (faulty NoDefinition p)

  -- "Under Object stands an object"; its other members are ignored
  pub body_at : List ℕ → ℕ → Node → Defined Located
  body_at s p (scalar k f e) = faulty NoDefinition f
  body_at s p (array f e ns) = faulty NoDefinition f
  body_at s p (object f e ms) = joined_at s p (part_at s (text "required") ms) (part_at s (text "optional") ms)

  -- "its "required" and "optional", where present"
  pub part_at : List ℕ → List ℕ → Members → Part
  part_at s k no_member = members_with no_member (fine no_field)
  part_at s k (member f e n ms) = cond (same k (name_of s f e)) (part_of s n) (part_at s k ms)

  -- "are objects"
  pub part_of : List ℕ → Node → Part
  part_of s (scalar k f e) = wrong f
  part_of s (array f e ns) = wrong f
  part_of s (object f e ms) = members_with ms (fields_at s ms)

  -- "with a definition under each name"
  pub fields_at : List ℕ → Members → Defined LocatedFields
  fields_at s no_member = fine no_field
  fields_at s (member f e n ms) = added_at f (name_of s f e) (definition_at s n) (fields_at s ms)

-- the numbers of the codes in an answer
abbrev pub fault_number : FaultCode → ℕ
fault_number NoDefinition = 10
fault_number UnknownType = 11
fault_number SharedName = 12

-- ---- for private contracts: the first fault, as the code has it

abbrev pub fault : FaultCode → ℕ → Fault
fault code place = record { code = code; place = place }

abbrev pub fault_of : {A : Type 0} → Defined A → Result (Unit {0}) Fault
fault_of (faulty c p) = Err (fault c p)
fault_of (fine a) = Ok tt

abbrev pub shared_fault : Option ℕ → Result (Unit {0}) Fault
shared_fault None = Ok tt
shared_fault (Some p) = Err (fault SharedName p)

-- of the value at row r as an object, by its kind
abbrev pub kind_fault : List ℕ → ℕ → Result (Unit {0}) Fault
kind_fault t r = cond (eqb (word t r 0) 8) (Ok tt) (Err (fault NoDefinition (word t r 1)))

-- of the value at row r, as a definition
pub record Defines (s t : List ℕ) (r : ℕ) (f : Result (Unit {0}) Fault) : Type 0 where
  pub tells : (w : Rowed s t r) → f ≡ fault_of (definition_at s w.tree)

-- as the body of an Object, whose definition begins at some p
pub record DefinesBody (s t : List ℕ) (r : ℕ) (f : Result (Unit {0}) Fault) : Type 0 where
  pub tells : (w : Rowed s t r) (p : ℕ) → f ≡ fault_of (body_at s p w.tree)

-- of what stands under the name k in the object at row r, which is no object; or the row of the object, where anything stands there
pub record PartUnder (s t : List ℕ) (r : ℕ) (k : List ℕ) (x : Result (Option ℕ) Fault) : Type 0 where
  pub finds : {v : Option ℕ} → x ≡ Ok v → Finds s t r k v
  pub object : {v : ℕ} → x ≡ Ok (Some v) → word t v 0 ≡ 8
  pub other : {f : Fault} → x ≡ Err f → (o : ObjectRow s t r) → (f ≡ fault NoDefinition f.place) × (part_at s k o.members ≡ wrong f.place)

-- of the names that two parts share, by their rows
pub record Shares (s t : List ℕ) (required optional : Option ℕ) (f : Result (Unit {0}) Fault) : Type 0 where
  pub tells : (r : PartRow s t required) (o : PartRow s t optional) → f ≡ shared_fault (shared_at s r.members o.members)

-- of the definitions under the names of a part
pub record DefinesFields (s t : List ℕ) (r : Option ℕ) (f : Result (Unit {0}) Fault) : Type 0 where
  pub tells : (w : PartRow s t r) → f ≡ fault_of (fields_at s w.members)
