-- Of every fault: its code is 10, 11 or 12, and its place lies within the text. Of every definition: its first byte is that of its value.
use Prim.Native.Nat.{ℕ, ◌≤◌, ◌<◌}
use mathlib.Core.Path.{◌≡◌, refl, subst}
use Rattle.std.specs.Prelude.{Option, Some, None}
use Rattle.std.proofs.Math.Option.{Option as MathOption, none, some}
use mathlib.Core.List.{List}
use native.Mathlib.Omega.{arith}
use lib.ListN.{length}
use Rattle.model.specs.Text.{text, same}
use Rattle.model.specs.Definition.{Named, named_by}
use Rattle.model.proofs.Basics.{both}
use Rattle.tokens.specs.Spelling.{IsQuoted}
use Rattle.tokens.specs.declared.tokens.Kind.{Kind}
use Rattle.tokens.specs.declared.tokens.Kind.TheVariants.{Null, False, True, Whole, Fractional, Quoted}
use Rattle.chars.proofs.Facts.{in_text}
use Rattle.syntax.specs.Tree.{Node, scalar, array, object, Members, no_member, member, place_of}
use Rattle.syntax.specs.Grammar.{name_of}
use Rattle.syntax.specs.Holding.{Placed, PlacedMembers}
use Rattle.definitions.specs.Definitions.{Located, named-at, array_at, map_at, object-at, LocatedFields, field, Defined, faulty, fine}
use Rattle.definitions.specs.Definitions.{if_fine, type_at, scalar_definition, is_last, added_at, has_named, shared_at, Part, wrong, members_with}
use Rattle.definitions.specs.Definitions.{both_fields, unshared, joined_at, constructed_at, definition_at, single_at, body_at, part_at, part_of}
use Rattle.definitions.specs.Definitions.{fields_at, fault_number}
use Rattle.definitions.specs.declared.definitions.FaultCode.{FaultCode}
use Rattle.definitions.specs.declared.definitions.FaultCode.TheVariants.{NoDefinition, UnknownType, SharedName}

-- ---- the first byte

-- "definition's first byte"
abbrev pub first_byte : Located → ℕ
first_byte (named-at p t) = p
first_byte (array_at p d) = p
first_byte (map_at p d) = p
first_byte (object-at p r o) = p

-- what is defined has its first byte at p
abbrev Starts : ℕ → Defined Located → Type 0
Starts p (faulty c q) = Unit
Starts p (fine d) = first_byte d ≡ p

mapped_starts : {A : Type 0} (p : ℕ) (f : A → Located) → ((a : A) → first_byte (f a) ≡ p) → (d : Defined A) → Starts p (if_fine f d)
mapped_starts p f h (faulty c q) = tt
mapped_starts p f h (fine a) = h a

scalar_starts : (s : List ℕ) (k : Kind) (f e : ℕ) → Starts f (scalar_definition s k f e)
scalar_starts s Null f e = tt
scalar_starts s False f e = tt
scalar_starts s True f e = tt
scalar_starts s Whole f e = tt
scalar_starts s Fractional f e = tt
scalar_starts s Quoted f e = type_starts (named_by (name_of s f e))
  where
    type_starts : (t : MathOption Named) → Starts f (type_at f t)
    type_starts none = tt
    type_starts (some t) = refl

both_starts : (p : ℕ) (x : Option ℕ) (r o : Defined LocatedFields) → Starts p (unshared x (both_fields p r o))
both_starts p (Some q) r o = tt
both_starts p None (faulty c q) o = tt
both_starts p None (fine r) o = mapped_starts p (object-at p r) (λ _. refl) o

joined_starts : (s : List ℕ) (p : ℕ) (r o : Part) → Starts p (joined_at s p r o)
joined_starts s p (wrong q) o = tt
joined_starts s p (members_with ms r) (wrong q) = tt
joined_starts s p (members_with ms r) (members_with ns o) = both_starts p (shared_at s ms ns) r o

body_starts : (s : List ℕ) (p : ℕ) (n : Node) → Starts p (body_at s p n)
body_starts s p (scalar k f e) = tt
body_starts s p (array f e ns) = tt
body_starts s p (object f e ms) = joined_starts s p (part_at s (text "required") ms) (part_at s (text "optional") ms)

constructed_starts : (p q : ℕ) (n : List ℕ) (d o : Defined Located) → Starts p o → Starts p (constructed_at p q n d o)
constructed_starts p q n d o h =
    both (Starts p) (same n (text "Array")) (λ _. mapped_starts p (array_at p) (λ _. refl) d)
    (λ _. both (Starts p) (same n (text "Map")) (λ _. mapped_starts p (map_at p) (λ _. refl) d)
    (λ _. both (Starts p) (same n (text "Object")) (λ _. h) (λ _. tt)))

single_starts : (s : List ℕ) (p : ℕ) (ms : Members) → Starts p (single_at s p ms)
single_starts s p no_member = tt
single_starts s p (member f e n ms) =
    both (Starts p) (is_last ms) (λ _. constructed_starts p f (name_of s f e) (definition_at s n) (body_at s p n) (body_starts s p n)) (λ _. tt)

definition_starts : (s : List ℕ) (n : Node) → Starts (place_of n) (definition_at s n)
definition_starts s (scalar k f e) = scalar_starts s k f e
definition_starts s (array f e ns) = tt
definition_starts s (object f e ms) = single_starts s f ms

pub located_first : (s : List ℕ) (n : Node) (d : Located) → definition_at s n ≡ fine d → first_byte d ≡ place_of n
located_first s n d q = subst (Starts (place_of n)) q (definition_starts s n)

-- ---- codes and places

-- the number of every code
pub fault_code : (c : FaultCode) → (10 ≤ fault_number c) × (fault_number c ≤ 12)
fault_code NoDefinition = omega arith
fault_code UnknownType = omega arith
fault_code SharedName = omega arith

module _ (s : List ℕ) where
  -- the place of the fault, if there is one, lies within the text; X is what puts it there
  abbrev AnyFault : {A : Type 0} → Type 0 → Defined A → Type 0
  AnyFault X (faulty c p) = X → p < length s
  AnyFault X (fine a) = Unit

  -- that may follow from something else
  weaken : {A : Type 0} (X Y : Type 0) → (Y → X) → (d : Defined A) → AnyFault X d → AnyFault Y d
  weaken X Y f (faulty c p) h = λ y. h (f y)
  weaken X Y f (fine a) h = tt

  mapped_fault : {A B : Type 0} (X : Type 0) (f : A → B) (d : Defined A) → AnyFault X d → AnyFault X (if_fine f d)
  mapped_fault X f (faulty c p) h = h
  mapped_fault X f (fine a) h = tt

  added_fault : (X : Type 0) (p : ℕ) (n : List ℕ) (d : Defined Located) (fs : Defined LocatedFields)
      → AnyFault X d → AnyFault X fs → AnyFault X (added_at p n d fs)
  added_fault X p n (faulty c q) fs h k = h
  added_fault X p n (fine d) fs h k = mapped_fault X (field p n d) fs k

  fields_fault : (X : Type 0) (p : ℕ) (r o : Defined LocatedFields) → AnyFault X r → AnyFault X o → AnyFault X (both_fields p r o)
  fields_fault X p (faulty c q) o h k = h
  fields_fault X p (fine r) o h k = mapped_fault X (object-at p r) o k

  -- an opening quote lies within the text
  quote_within : (f e : ℕ) → IsQuoted s f e → f < length s
  quote_within f e q = in_text s f (omega (arith, q.opens))

  -- the first name that is shared, if there is one
  abbrev NameWithin : Option ℕ → Type 0
  NameWithin None = Unit
  NameWithin (Some q) = q < length s

  shared_within : (ms ns : Members) → PlacedMembers s ns → NameWithin (shared_at s ms ns)
  shared_within ms no_member h = tt
  shared_within ms (member f e n ns) h =
      both NameWithin (has_named s (name_of s f e) ms) (λ _. quote_within f e h.0) (λ _. shared_within ms ns h.2)

  unshared_fault : (X : Type 0) (x : Option ℕ) (d : Defined Located) → (X → NameWithin x) → AnyFault X d → AnyFault X (unshared x d)
  unshared_fault X None d h k = k
  unshared_fault X (Some q) d h k = h

  -- a part's members lie within the text too
  abbrev PartFault : Type 0 → Part → Type 0
  PartFault X (wrong q) = X → q < length s
  PartFault X (members_with ms r) = (X → PlacedMembers s ms) × AnyFault X r

  weaken_part : (X Y : Type 0) → (Y → X) → (p : Part) → PartFault X p → PartFault Y p
  weaken_part X Y f (wrong q) h = λ y. h (f y)
  weaken_part X Y f (members_with ms r) h = (λ y. h.0 (f y), weaken X Y f r h.1)

  joined_fault : (X : Type 0) (p : ℕ) (r o : Part) → PartFault X r → PartFault X o → AnyFault X (joined_at s p r o)
  joined_fault X p (wrong q) o h k = h
  joined_fault X p (members_with ms r) (wrong q) h k = k
  joined_fault X p (members_with ms r) (members_with ns o) h k =
      unshared_fault X (shared_at s ms ns) (both_fields p r o) (λ x. shared_within ms ns (k.0 x)) (fields_fault X p r o h.1 k.1)

  constructed_fault : (X : Type 0) (p q : ℕ) (n : List ℕ) (d o : Defined Located)
      → (X → q < length s) → AnyFault X d → AnyFault X o → AnyFault X (constructed_at p q n d o)
  constructed_fault X p q n d o l h k =
      both (AnyFault X) (same n (text "Array")) (λ _. mapped_fault X (array_at p) d h)
      (λ _. both (AnyFault X) (same n (text "Map")) (λ _. mapped_fault X (map_at p) d h)
      (λ _. both (AnyFault X) (same n (text "Object")) (λ _. k) (λ _. l)))

  -- the first byte of a value lies within the text
  pub place_within : (n : Node) → Placed s n → place_of n < length s
  place_within (scalar k f e) h = omega (arith, h.0, h.1)
  place_within (array f e ns) h = omega (arith, h.0, h.1)
  place_within (object f e ms) h = omega (arith, h.0, h.1)

  scalar_fault : (k : Kind) (f e : ℕ) → AnyFault (Placed s (scalar k f e)) (scalar_definition s k f e)
  scalar_fault Null f e = place_within (scalar Null f e)
  scalar_fault False f e = place_within (scalar False f e)
  scalar_fault True f e = place_within (scalar True f e)
  scalar_fault Whole f e = place_within (scalar Whole f e)
  scalar_fault Fractional f e = place_within (scalar Fractional f e)
  scalar_fault Quoted f e = type_fault (named_by (name_of s f e))
    where
      type_fault : (t : MathOption Named) → AnyFault (Placed s (scalar Quoted f e)) (type_at f t)
      type_fault none = place_within (scalar Quoted f e)
      type_fault (some t) = tt

  mutual
    definition_fault : (n : Node) → AnyFault (Placed s n) (definition_at s n)
    definition_fault (scalar k f e) = scalar_fault k f e
    definition_fault (array f e ns) = place_within (array f e ns)
    definition_fault (object f e ms) =
        let X = Placed s (object f e ms) in
        weaken ((f < length s) × PlacedMembers s ms) X (λ h. (place_within (object f e ms) h, h.2)) (single_at s f ms) (single_fault f ms)

    single_fault : (p : ℕ) (ms : Members) → AnyFault ((p < length s) × PlacedMembers s ms) (single_at s p ms)
    single_fault p no_member = λ h. h.0
    single_fault p (member f e n ms) =
        let X = (p < length s) × PlacedMembers s (member f e n ms) in
        both (AnyFault X) (is_last ms)
        (λ _. constructed_fault X p f (name_of s f e) (definition_at s n) (body_at s p n) (λ h. quote_within f e h.1.0)
        (weaken (Placed s n) X (λ h. h.1.1) (definition_at s n) (definition_fault n))
        (weaken (Placed s n) X (λ h. h.1.1) (body_at s p n) (body_fault p n)))
        (λ _ h. h.0)

    body_fault : (p : ℕ) (n : Node) → AnyFault (Placed s n) (body_at s p n)
    body_fault p (scalar k f e) = place_within (scalar k f e)
    body_fault p (array f e ns) = place_within (array f e ns)
    body_fault p (object f e ms) =
        let X = Placed s (object f e ms) in
        let found : (k : List ℕ) → PartFault X (part_at s k ms) =
        λ k. weaken_part (PlacedMembers s ms) X (λ h. h.2) (part_at s k ms) (part_fault k ms) in
        joined_fault X p (part_at s (text "required") ms) (part_at s (text "optional") ms) (found (text "required")) (found (text "optional"))

    part_fault : (k : List ℕ) (ms : Members) → PartFault (PlacedMembers s ms) (part_at s k ms)
    part_fault k no_member = (λ h. h, tt)
    part_fault k (member f e n ms) =
        let X = PlacedMembers s (member f e n ms) in
        both (PartFault X) (same k (name_of s f e))
        (λ _. weaken_part (Placed s n) X (λ h. h.1) (part_of s n) (of_fault n))
        (λ _. weaken_part (PlacedMembers s ms) X (λ h. h.2) (part_at s k ms) (part_fault k ms))

    of_fault : (n : Node) → PartFault (Placed s n) (part_of s n)
    of_fault (scalar k f e) = place_within (scalar k f e)
    of_fault (array f e ns) = place_within (array f e ns)
    of_fault (object f e ms) = (λ h. h.2, weaken (PlacedMembers s ms) (Placed s (object f e ms)) (λ h. h.2) (fields_at s ms) (in_fault ms))

    in_fault : (ms : Members) → AnyFault (PlacedMembers s ms) (fields_at s ms)
    in_fault no_member = tt
    in_fault (member f e n ms) =
        let X = PlacedMembers s (member f e n ms) in
        added_fault X f (name_of s f e) (definition_at s n) (fields_at s ms)
        (weaken (Placed s n) X (λ h. h.1) (definition_at s n) (definition_fault n))
        (weaken (PlacedMembers s ms) X (λ h. h.2) (fields_at s ms) (in_fault ms))

  pub fault_placed : (n : Node) (c : FaultCode) (p : ℕ) → Placed s n → definition_at s n ≡ faulty c p → p < length s
  fault_placed n c p h q = subst (AnyFault (Placed s n)) q (definition_fault n) h
