-- A value against a type name, on plain values: one law for each way out of `judge_named` (01, "Definitions": "First misfit").
use Prim.Native.Nat.{ℕ}
use mathlib.Core.Path.{◌≡◌, refl, sym, ap, subst, ◌∙◌}
use mathlib.Core.Bool.{Bool, false}
use mathlib.Core.Option.{some}
use mathlib.Core.List.{List, [], ◌∷◌}
use Rattle.std.specs.Prelude.{Option, Some, Result, is_ok}
use Rattle.model.specs.Meeting.{is_some}
use Rattle.model.specs.Definition.{Named, JSON, Schema, Float, Integer, String, Boolean, DateTime, definition_of}
use Rattle.tokens.specs.declared.tokens.Kind.{Kind}
use Rattle.tokens.specs.declared.tokens.Kind.TheVariants.{Null, False, True, Whole, Fractional, Quoted}
use Rattle.syntax.specs.Tree.{Node, scalar, array, object, place_of}
use Rattle.syntax.specs.Spelling.{value_of}
use Rattle.definitions.specs.Definitions.{Located, named-at, Defined, faulty, fine}
use Rattle.definitions.specs.Definitions.{definition_at, fault_of, Defines}
use Rattle.definitions.specs.Shapes.{type_in, TypeRow}
use Rattle.definitions.specs.Types.{type_name, takes_kind}
use Rattle.schema.specs.Judging.{Judgement, unless, is_whole, is_number, is_string, is_boolean, if_scalar, named_at}
use Rattle.schema.specs.Judging.{value-by, visits}
use Rattle.schema.specs.Dates.{named_moment}
use Rattle.schema.specs.Walks.{Walks, NameJudgeable, Judged, JudgedDate}
use Rattle.rows.specs.Records.{Reads}
use Rattle.rows.specs.declared.records.Record.{Record}
use Rattle.schema.specs.declared.dates.Dates.{Dates}
use Rattle.definitions.specs.declared.definitions.Fault.{Fault}
use Rattle.definitions.specs.declared.types.TypeName.{TypeName}
use Rattle.definitions.specs.declared.types.TypeName.TheVariants.{Json as JsonName, Float as FloatName, Integer as IntegerName, Text as TextName}
use Rattle.definitions.specs.declared.types.TypeName.TheVariants.{Boolean as BooleanName, Schema as SchemaName, DateTime as DateTimeName}
use Rattle.definitions.proofs.Facts.{first_byte, located_first, forget, definition_forgets}
use Rattle.rows.proofs.Facts.{row, kind_of, kind_read, place_read}
use Rattle.schema.proofs.judging.Laws.{walks_unless, defined, conclude}

-- ---- type names

-- the type by its Rust name
abbrev pub name_in : Named → TypeName
name_in JSON = JsonName
name_in Schema = SchemaName
name_in Float = FloatName
name_in Integer = IntegerName
name_in String = TextName
name_in Boolean = BooleanName
name_in DateTime = DateTimeName

named_in : (t : Named) → type_name (some t) ≡ Some (name_in t)
named_in JSON = refl
named_in Schema = refl
named_in Float = refl
named_in Integer = refl
named_in String = refl
named_in Boolean = refl
named_in DateTime = refl

-- which kinds a type takes, by the tests of a value
module _ (g : TypeName) (test : Kind → Bool) where
  takes_as : test Null ≡ takes_kind g 1 → test False ≡ takes_kind g 2 → test True ≡ takes_kind g 3 → test Whole ≡ takes_kind g 4
      → test Fractional ≡ takes_kind g 5 → test Quoted ≡ takes_kind g 6 → false ≡ takes_kind g 7 → false ≡ takes_kind g 8
      → (n : Node) → if_scalar test n ≡ takes_kind g (kind_of n)
  takes_as a b c d e f h i (scalar Null x y) = a
  takes_as a b c d e f h i (scalar False x y) = b
  takes_as a b c d e f h i (scalar True x y) = c
  takes_as a b c d e f h i (scalar Whole x y) = d
  takes_as a b c d e f h i (scalar Fractional x y) = e
  takes_as a b c d e f h i (scalar Quoted x y) = f
  takes_as a b c d e f h i (array x y ns) = h
  takes_as a b c d e f h i (object x y ms) = i

-- all but Schema and DateTime are judged by the value's kind alone
by_kind : (s : List ℕ) (p : ℕ) (t : Named) (n : Node) → (name_in t ≡ SchemaName → ⊥) → (name_in t ≡ DateTimeName → ⊥)
    → named_at s p t n ≡ unless (takes_kind (name_in t) (kind_of n)) (place_of n) p
unfolding takes_kind
by_kind s p JSON n h g = refl
by_kind s p Schema n h g = absurd (h refl)
by_kind s p Float n h g = ap (λ (b : Bool). unless b (place_of n) p) (takes_as FloatName is_number refl refl refl refl refl refl refl refl n)
by_kind s p Integer n h g = ap (λ (b : Bool). unless b (place_of n) p) (takes_as IntegerName is_whole refl refl refl refl refl refl refl refl n)
by_kind s p String n h g = ap (λ (b : Bool). unless b (place_of n) p) (takes_as TextName is_string refl refl refl refl refl refl refl refl n)
by_kind s p Boolean n h g = ap (λ (b : Bool). unless b (place_of n) p) (takes_as BooleanName is_boolean refl refl refl refl refl refl refl refl n)
by_kind s p DateTime n h g = absurd (g refl)

-- no date is judged by its kind alone
kind_moment : (s : List ℕ) (t : Named) (n : Node) → (name_in t ≡ SchemaName → ⊥) → (name_in t ≡ DateTimeName → ⊥) → named_moment s t n ≡ []
kind_moment s JSON n h g = refl
kind_moment s Schema n h g = refl
kind_moment s Float n h g = refl
kind_moment s Integer n h g = refl
kind_moment s String n h g = refl
kind_moment s Boolean n h g = refl
kind_moment s DateTime n h g = absurd (g refl)

schema_type : (t : Named) → name_in t ≡ SchemaName → t ≡ Schema
schema_type JSON q = cc
schema_type Schema q = refl
schema_type Float q = cc
schema_type Integer q = cc
schema_type String q = cc
schema_type Boolean q = cc
schema_type DateTime q = cc

date_type : (t : Named) → name_in t ≡ DateTimeName → t ≡ DateTime
date_type JSON q = cc
date_type Schema q = cc
date_type Float q = cc
date_type Integer q = cc
date_type String q = cc
date_type Boolean q = cc
date_type DateTime q = refl

-- a value is a definition where it has no fault
is_defined : (s : List ℕ) (n : Node) → is_some (definition_of (value_of s n)) ≡ is_ok (fault_of (definition_at s n))
is_defined s n = ap is_some (definition_forgets s n) ∙ go (definition_at s n)
  where
    go : (x : Defined Located) → is_some (forget x) ≡ is_ok (fault_of x)
    go (faulty c p) = refl
    go (fine d) = refl

-- a type name is read as one
pub name_known : {s₁ s₂ t₁ t₂ : List ℕ} {r₁ r₂ : ℕ} (j : NameJudgeable s₁ s₂ t₁ t₂ r₁ r₂) {g : Option TypeName} → TypeRow s₂ t₂ r₂ g → g ≡ Some (name_in j.type)
name_known j i = i.tells (defined j.given) ∙ ap type_in j.is ∙ named_in j.type

-- a type name, read as k, and both rows
pub record NamedRead (s₁ s₂ t₁ t₂ : List ℕ) (r₁ r₂ : ℕ) (x y : Record) (k : TypeName) : Type 0 where
  pub given : NameJudgeable s₁ s₂ t₁ t₂ r₁ r₂
  pub value : Reads t₁ r₁ x
  pub reads : Reads t₂ r₂ y
  pub is : k ≡ name_in given.type

pub name_read : {s₁ s₂ t₁ t₂ : List ℕ} {r₁ r₂ : ℕ} → NameJudgeable s₁ s₂ t₁ t₂ r₁ r₂ → {x y : Record} → Reads t₁ r₁ x → Reads t₂ r₂ y
    → {g : Option TypeName} → TypeRow s₂ t₂ r₂ g → {k : TypeName} → g ≡ Some k → NamedRead s₁ s₂ t₁ t₂ r₁ r₂ x y k
name_read j p q i {k} e =
    let z : Some k ≡ Some (name_in j.type) = sym e ∙ name_known j i in
    record { given = j; value = p; reads = q; is = cc }

module _ {s₁ s₂ t₁ t₂ : List ℕ} {r₁ r₂ : ℕ} {x y : Record} {k : TypeName} (i : NamedRead s₁ s₂ t₁ t₂ r₁ r₂ x y k) where
  place_is : i.given.place ≡ y.first
  place_is =
      let j = i.given.given in
      sym (ap first_byte i.given.is) ∙ located_first s₂ j.schema.tree j.definition j.defines ∙ sym (row j.schema).first ∙ sym i.reads.first

  module _ {m : Judgement} {d : Dates} where
    judge_type : (t : Named) → i.given.type ≡ t → {d₂ : Dates} → Walks s₁ (value-by (named-at y.first t) i.given.given.document.tree ∷ []) m d d₂
        → Judged s₁ s₂ t₁ t₂ r₁ r₂ m d d₂
    judge_type t q {d₂} w =
        let e : i.given.given.definition ≡ named-at y.first t = i.given.is ∙ rw (place_is, q) in
        conclude i.given.given (subst (λ (d₁ : Located). Walks s₁ (visits s₁ d₁ i.given.given.document.tree) m d d₂) (sym e) w)

    pub named_date : k ≡ DateTimeName → {d₂ : Dates} → JudgedDate s₁ t₁ r₁ y.first m d d₂ → Judged s₁ s₂ t₁ t₂ r₁ r₂ m d d₂
    named_date q h = judge_type DateTime (date_type i.given.type (sym i.is ∙ q)) (h.tells i.given.given.document)

    named_unless : (b : Bool) (t : Named) → i.given.type ≡ t → ((n : Node) → named_moment s₁ t n ≡ [])
        → named_at s₁ y.first t i.given.given.document.tree ≡ unless b (place_of i.given.given.document.tree) y.first
        → m ≡ unless b x.first y.first → Judged s₁ s₂ t₁ t₂ r₁ r₂ m d d
    named_unless b t q c h e =
        let n = i.given.given.document.tree in
        judge_type t q (walks_unless b (place_of n) y.first h (c n) (e ∙ ap (λ (f : ℕ). unless b f y.first) (place_read i.given.given.document i.value)))

    pub named_schema : k ≡ SchemaName → {f : Result (Unit {0}) Fault} → Defines s₁ t₁ r₁ f → m ≡ unless (is_ok f) x.first y.first → Judged s₁ s₂ t₁ t₂ r₁ r₂ m d d
    named_schema q {f} h e =
        let n = i.given.given.document.tree in
        let z : is_some (definition_of (value_of s₁ n)) ≡ is_ok f = rw (h.tells i.given.given.document) (is_defined s₁ n) in
        named_unless (is_ok f) Schema (schema_type i.given.type (sym i.is ∙ q)) (λ n. refl) (ap (λ (b : Bool). unless b (place_of n) y.first) z) e

    pub named_kind : (k ≡ SchemaName → ⊥) → (k ≡ DateTimeName → ⊥) → m ≡ unless (takes_kind k x.kind) x.first y.first → Judged s₁ s₂ t₁ t₂ r₁ r₂ m d d
    named_kind h g e =
        let n = i.given.given.document.tree in
        let z : takes_kind (name_in i.given.type) (kind_of n) ≡ takes_kind k x.kind = rw (i.is, kind_read i.given.given.document i.value) in
        let f : name_in i.given.type ≡ SchemaName → ⊥ = λ q. h (i.is ∙ q) in
        let l : name_in i.given.type ≡ DateTimeName → ⊥ = λ q. g (i.is ∙ q) in
        named_unless (takes_kind k x.kind) i.given.type refl (λ n. kind_moment s₁ i.given.type n f l)
        (by_kind s₁ y.first i.given.type n f l ∙ ap (λ (b : Bool). unless b (place_of n) y.first) z) e
