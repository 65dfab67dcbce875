-- The first fault of a value as a definition: one law for each way out of `define` (01, "Definitions"). First faults, names, and an object with one member.
use Prim.Native.Nat.{ℕ, ◌+◌, ◌-◌, ◌≤◌, ◌<◌}
use mathlib.Core.Path.{◌≡◌, refl, sym, ap, ap₂, subst, ◌∙◌}
use mathlib.Core.Bool.{Bool, true, false, cond}
use mathlib.Core.Logic.{◌⊎◌, inl, inr}
use Rattle.std.proofs.Math.Option.{Option as MathOption, none, some}
use mathlib.Core.List.{List}
use Rattle.std.specs.Prelude.{Option, Some, None, Result, Ok, Err}
use native.Mathlib.Omega.{arith}
use lib.ListN.{length}
use Rattle.model.proofs.Basics.{never}
use Rattle.model.specs.Text.{text, same}
use Rattle.model.specs.Definition.{Named, named_by}
use Rattle.tokens.specs.Spelling.{IsQuoted}
use Rattle.syntax.specs.Tree.{Node, Members, no_member, member}
use Rattle.syntax.specs.Grammar.{name_of}
use Rattle.syntax.specs.Rows.{size, sizes_members, count_members}
use Rattle.syntax.specs.Holding.{word, Holds}
use Rattle.definitions.specs.Definitions.{Located, array_at, map_at, object-at, LocatedFields, field, Defined, faulty, fine, if_fine, type_at, added_at}
use Rattle.definitions.specs.Definitions.{both_fields, unshared, constructed_at, definition_at, single_at, body_at, fault, fault_of, shared_fault}
use Rattle.definitions.specs.Definitions.{Defines, DefinesBody}
use Rattle.definitions.specs.Types.{type_name, generic_of}
use Rattle.rows.specs.Records.{InTable, Reads, Rowed}
use Rattle.rows.specs.declared.records.Record.{Record}
use Rattle.definitions.specs.declared.definitions.FaultCode.TheVariants.{NoDefinition, UnknownType}
use Rattle.definitions.specs.declared.definitions.Fault.{Fault}
use Rattle.definitions.specs.declared.types.TypeName.{TypeName}
use Rattle.definitions.specs.declared.types.Generic.{Generic}
use Rattle.definitions.specs.declared.types.Generic.TheVariants.{Array, Map, Object}
use Rattle.chars.specs.Strings.{characters, part}
use Rattle.rows.proofs.Facts.{kind_of, row, string_read, string_quoted, object_row, quotes_read, same_tree, as_row, as_object, members_start}
use Rattle.rows.proofs.Facts.{member_here, members_next, members_end}
use Rattle.definitions.proofs.definitions.OtherKinds.{no_definition}

-- ---- faults

-- the first of two faults
abbrev pub first_fault : Result (Unit {0}) Fault → Result (Unit {0}) Fault → Result (Unit {0}) Fault
first_fault (Ok u) y = y
first_fault (Err f) y = Err f

fault_mapped : {A B : Type 0} (g : A → B) (d : Defined A) → fault_of (if_fine g d) ≡ fault_of d
fault_mapped g (faulty c p) = refl
fault_mapped g (fine a) = refl

pub fault_added : (p : ℕ) (n : List ℕ) (d : Defined Located) (fs : Defined LocatedFields) → fault_of (added_at p n d fs) ≡ first_fault (fault_of d) (fault_of fs)
fault_added p n (faulty c q) fs = refl
fault_added p n (fine d) fs = fault_mapped (field p n d) fs

pub fault_both : (p : ℕ) (r o : Defined LocatedFields) → fault_of (both_fields p r o) ≡ first_fault (fault_of r) (fault_of o)
fault_both p (faulty c q) o = refl
fault_both p (fine r) o = fault_mapped (object-at p r) o

pub fault_unshared : (x : Option ℕ) (d : Defined Located) → fault_of (unshared x d) ≡ first_fault (shared_fault x) (fault_of d)
fault_unshared None d = refl
fault_unshared (Some q) d = refl

-- ---- names

unknown_fault : (p : ℕ) (x : MathOption Named) → type_name x ≡ None → fault_of (type_at p x) ≡ Err (fault UnknownType p)
unknown_fault p none h = refl
unknown_fault p (some t) h = never (cc)

known_fault : (p : ℕ) (x : MathOption Named) {g : TypeName} → type_name x ≡ Some g → fault_of (type_at p x) ≡ Ok tt
known_fault p none h = never (cc)
known_fault p (some t) h = refl

-- the fault of a definition with one member, by the generic type that its name is
abbrev generic_fault : Option Generic → Result (Unit {0}) Fault → Result (Unit {0}) Fault → ℕ → Result (Unit {0}) Fault
generic_fault (Some Array) d o q = d
generic_fault (Some Map) d o q = d
generic_fault (Some Object) d o q = o
generic_fault None d o q = Err (fault UnknownType q)

fault_constructed : (p q : ℕ) (n : List ℕ) (d o : Defined Located) → fault_of (constructed_at p q n d o) ≡ generic_fault (generic_of n) (fault_of d) (fault_of o) q
unfolding generic_of
fault_constructed p q n d o = go (same n (text "Array")) (same n (text "Map")) (same n (text "Object"))
  where
    go : (a m b : Bool) → fault_of (cond a (if_fine (array_at p) d) (cond m (if_fine (map_at p) d) (cond b o (faulty UnknownType q))))
        ≡ generic_fault (cond a (Some Array) (cond m (Some Map) (cond b (Some Object) None))) (fault_of d) (fault_of o) q
    go true m b = fault_mapped (array_at p) d
    go false true b = fault_mapped (map_at p) d
    go false false true = refl
    go false false false = refl

-- ---- one member

-- an object with one member, which as a definition is x: the member's name is at row r + 1, its value at row r + 2
pub record Single (s t : List ℕ) (r : ℕ) (x : Defined Located) : Type 0 where
  pub value : Rowed s t (r + 2)
  pub in_table : InTable t (r + 1)
  pub quoted : IsQuoted s (word t (r + 1) 1) (word t (r + 1) 2)
  pub less : word t (r + 2) 4 < word t r 4
  pub is : constructed_at (word t r 1) (word t (r + 1) 1) (name_of s (word t (r + 1) 1) (word t (r + 1) 2))
      (definition_at s value.tree) (body_at s (word t r 1) value.tree) ≡ x

pub single : {s t : List ℕ} {r : ℕ} (w : Rowed s t r) → word t r 0 ≡ 8 → word t r 3 ≡ 1 → Single s t r (definition_at s w.tree)
single {s} {t} {r} w k c =
    let o = as_object w k in
    let a = members_start o refl in
    let m = member_here a (omega arith) in
    let e : r + 1 + 1 ≡ r + 2 = omega arith in
    let n = m.value.tree in
    let v : Rowed s t (r + 2) = record { tree = n; holds = subst (λ (x : ℕ). Holds t x n) e m.value.holds; placed = m.value.placed } in
    let i = m.is ∙ ap (member (word t (r + 1) 1) (word t (r + 1) 2) n) (members_end (members_next a m refl) (omega arith)) in
    record {
      value = v;
      in_table = m.in_table;
      quoted = m.quoted;
      less = omega (arith, (row v).subtree, (row w).subtree, ap size (object_row w k), ap sizes_members i);
      is = sym (ap (single_at s (word t r 1)) i) ∙ sym (ap (definition_at s) (object_row w k));
    }

-- "An object with no member, or with more than one: 10."
several : (s : List ℕ) (p : ℕ) (ms : Members) → (count_members ms ≡ 1 → ⊥) → single_at s p ms ≡ faulty NoDefinition p
several s p no_member h = refl
several s p (member f e n no_member) h = absurd (h refl)
several s p (member f e n (member g i m ms)) h = refl

-- ---- the ways out

-- any tree there is the one that is given
pub defined : {s t : List ℕ} {r : ℕ} {g : Result (Unit {0}) Fault} (w : Rowed s t r) → g ≡ fault_of (definition_at s w.tree) → Defines s t r g
defined {s} w q = record { tells = λ v. q ∙ ap (λ (n : Node). fault_of (definition_at s n)) (same_tree w v) }

-- a value whose row was read
module _ {s t : List ℕ} {r : ℕ} (w : Rowed s t r) {x : Record} (p : Reads t r x) where
  kind-of : {k : ℕ} → x.kind ≡ k → word t r 0 ≡ k
  kind-of h = sym p.kind ∙ h

  -- the quotes of a string
  pub string_quotes : x.kind ≡ 6 → (x.first + 2 ≤ x.end) × (x.end ≤ length s)
  string_quotes h = quotes_read p (string_quoted w (kind-of h))

  pub single_read : x.kind ≡ 8 → x.children ≡ 1 → Single s t r (definition_at s w.tree)
  single_read h k = single w (kind-of h) (sym p.children ∙ k)

  pub defines_other : (x.kind ≡ 6 → ⊥) → (x.kind ≡ 8 → ⊥) → Defines s t r (Err (fault NoDefinition x.first))
  defines_other h k =
      let e : x.kind ≡ kind_of w.tree = p.kind ∙ (row w).kind in
      let n = no_definition s w.tree (λ z. h (e ∙ z)) (λ z. k (e ∙ z)) in
      defined w (rw (p.first, (row w).first) (sym (ap fault_of n)))

  pub defines_several : x.kind ≡ 8 → (x.children ≡ 1 → ⊥) → Defines s t r (Err (fault NoDefinition x.first))
  defines_several h k =
      let o = as_object w (kind-of h) in
      let n = several s o.first o.members (λ z. k (p.children ∙ o.holds.0.direct ∙ z)) in
      defined (as_row o) (rw p.first (sym (ap fault_of n)))

  -- a string, by the bytes k between its quotes, which name the type g
  module _ (h : x.kind ≡ 6) {k : List ℕ} (b : k ≡ part s (x.first + 1) (x.end - 1)) {g : Option TypeName} (i : g ≡ type_name (named_by (characters k))) where
    abbrev type : MathOption Named
    type = named_by (name_of s x.first x.end)

    names : type_name type ≡ g
    names = sym (i ∙ ap (λ (k : List ℕ). type_name (named_by (characters k))) b)

    string_defined : {f : Result (Unit {0}) Fault} → f ≡ fault_of (type_at x.first type) → Defines s t r f
    string_defined q = defined w (q ∙ sym (ap (λ (n : Node). fault_of (definition_at s n)) (string_read w p h)))

    pub defines_unknown : g ≡ None → Defines s t r (Err (fault UnknownType x.first))
    defines_unknown e = string_defined (sym (unknown_fault x.first type (names ∙ e)))

    pub defines_known : {n : TypeName} → g ≡ Some n → Defines s t r (Ok tt)
    defines_known e = string_defined (sym (known_fault x.first type (names ∙ e)))

-- an object with one member, by the generic type that its name is
module _ {s t : List ℕ} {r : ℕ} {d : Defined Located} (o : Single s t r d) where
  abbrev name : List ℕ
  name = name_of s (word t (r + 1) 1) (word t (r + 1) 2)

  abbrev chosen : Option Generic → Result (Unit {0}) Fault
  chosen g = generic_fault g (fault_of (definition_at s o.value.tree)) (fault_of (body_at s (word t r 1) o.value.tree)) (word t (r + 1) 1)

  single_fault : chosen (generic_of name) ≡ fault_of d
  single_fault = sym (fault_constructed (word t r 1) (word t (r + 1) 1) name (definition_at s o.value.tree) (body_at s (word t r 1) o.value.tree)) ∙ ap fault_of o.is

-- its name was read, the bytes k between its quotes
module _ {s t : List ℕ} {r : ℕ} (w : Rowed s t r) (o : Single s t r (definition_at s w.tree)) {x : Record} (p : Reads t (r + 1) x) {k : List ℕ}
    (b : k ≡ part s (x.first + 1) (x.end - 1)) {g : Option Generic} (i : g ≡ generic_of (characters k)) where
  by_name : {h : Option Generic} {f : Result (Unit {0}) Fault} → g ≡ h → f ≡ chosen o h → Defines s t r f
  by_name e q =
      let z : g ≡ generic_of (name o) = i ∙ ap (λ (k : List ℕ). generic_of (characters k)) b ∙ ap₂ (λ (f e : ℕ). generic_of (name_of s f e)) p.first p.last in
      defined w (q ∙ ap (chosen o) (sym e ∙ z) ∙ single_fault o)

  pub defines_inner : {n : Generic} → g ≡ Some n → (n ≡ Array) ⊎ (n ≡ Map) → {f : Result (Unit {0}) Fault} → Defines s t (r + 2) f → Defines s t r f
  defines_inner e (inl h) d = by_name (e ∙ ap (λ (n : Generic). Some n) h) (d.tells o.value)
  defines_inner e (inr h) d = by_name (e ∙ ap (λ (n : Generic). Some n) h) (d.tells o.value)

  pub defines_object : {n : Generic} → g ≡ Some n → n ≡ Object → {f : Result (Unit {0}) Fault} → DefinesBody s t (r + 2) f → Defines s t r f
  defines_object e h d = by_name (e ∙ ap (λ (n : Generic). Some n) h) (d.tells o.value (word t r 1))

  pub defines_no_name : g ≡ None → Defines s t r (Err (fault UnknownType x.first))
  defines_no_name e = by_name e (ap (λ (p : ℕ). Err (fault UnknownType p)) p.first)
