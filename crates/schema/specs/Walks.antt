-- For private contracts: what the walkers over a value and a definition are given, and what they answer.
use Rattle.std.specs.Prelude.{ℕ, ◌+◌, ◌<◌, ◌≡◌, Bool, true, false, cond, List, [], ◌∷◌, ◌++◌, leb, ℤ, pos, length, Option}
use Rattle.std.specs.Int.Signed.{mag}
use Rattle.model.specs.Definition.{Named, DateTime}
use Rattle.syntax.specs.Grammar.{name_of}
use Rattle.syntax.specs.Holding.{word}
use Rattle.rows.specs.Records.{InTable, Rowed, ObjectRow, PartRow}
use Rattle.rows.specs.Finding.{lookup, Finds}
use Rattle.definitions.specs.Definitions.{Located, named-at, array_at, map_at, object-at, LocatedFields, fine, definition_at, fields_at}
use Rattle.schema.specs.Judging.{Judgement, nothing, Visit, value-by, at_name, missing, skipped, visits, field_visits, first_mismatch}
use Rattle.schema.specs.Dates.{moments, earliest, latest}
use Rattle.schema.specs.declared.dates.Dates.{Dates}

-- ---- the dates so far

-- no document has more values; the count stops there
abbrev pub most_dates : ℕ
most_dates = 65536

abbrev pub capped : ℕ → ℕ
capped n = cond (leb n most_dates) n most_dates

-- the numbers, as they are lent out
abbrev pub numbers_of : Dates → List ℤ
numbers_of d = pos d.count ∷ d.earliest ∷ d.latest ∷ []

-- d are the three numbers of the moments ms, and fit into 64 bits
pub record Tallied (d : Dates) (ms : List ℤ) : Type 0 where
  pub count : d.count ≡ capped (length ms)
  pub first : d.earliest ≡ earliest ms
  pub last : d.latest ≡ latest ms
  pub first_fits : mag d.earliest < 9223372036854775808
  pub last_fits : mag d.latest < 9223372036854775808

-- one moment more
abbrev pub Counted : ℤ → Dates → Dates → Type 0
Counted m d d₂ = (ms : List ℤ) → Tallied d ms → Tallied d₂ (ms ++ (m ∷ []))

-- m is the first mismatch of what is judged, and where there is none its dates are counted
pub record Walks (s : List ℕ) (vs : List Visit) (m : Judgement) (d d₂ : Dates) : Type 0 where
  pub first : m ≡ first_mismatch s vs
  pub counts : m ≡ nothing → (ms : List ℤ) → Tallied d ms → Tallied d₂ (ms ++ moments s vs)

-- ---- a value and a definition

-- a value at row r₁ of the document's table, and a definition at row r₂ of the schema's
pub record Judgeable (s₁ s₂ t₁ t₂ : List ℕ) (r₁ r₂ : ℕ) : Type 0 where
  pub document : Rowed s₁ t₁ r₁
  pub schema : Rowed s₂ t₂ r₂
  pub definition : Located
  pub defines : definition_at s₂ schema.tree ≡ fine definition

-- the definition is a type name, or one under Array, under Map, or under Object
pub record NameJudgeable (s₁ s₂ t₁ t₂ : List ℕ) (r₁ r₂ : ℕ) : Type 0 where
  pub given : Judgeable s₁ s₂ t₁ t₂ r₁ r₂
  pub place : ℕ
  pub type : Named
  pub is : given.definition ≡ named-at place type

pub record ArrayJudgeable (s₁ s₂ t₁ t₂ : List ℕ) (r₁ r₂ : ℕ) : Type 0 where
  pub given : Judgeable s₁ s₂ t₁ t₂ r₁ r₂
  pub place : ℕ
  pub element : Located
  pub is : given.definition ≡ array_at place element

pub record MapJudgeable (s₁ s₂ t₁ t₂ : List ℕ) (r₁ r₂ : ℕ) : Type 0 where
  pub given : Judgeable s₁ s₂ t₁ t₂ r₁ r₂
  pub place : ℕ
  pub element : Located
  pub is : given.definition ≡ map_at place element

pub record BodyJudgeable (s₁ s₂ t₁ t₂ : List ℕ) (r₁ r₂ : ℕ) : Type 0 where
  pub given : Judgeable s₁ s₂ t₁ t₂ r₁ r₂
  pub place : ℕ
  pub required : LocatedFields
  pub optional : LocatedFields
  pub is : given.definition ≡ object-at place required optional

pub record Judged (s₁ s₂ t₁ t₂ : List ℕ) (r₁ r₂ : ℕ) (m : Judgement) (d d₂ : Dates) : Type 0 where
  pub tells : (j : Judgeable s₁ s₂ t₁ t₂ r₁ r₂) → Walks s₁ (visits s₁ j.definition j.document.tree) m d d₂

-- a value against DateTime, whose definition's first byte is p
pub record JudgedDate (s t : List ℕ) (r p : ℕ) (m : Judgement) (d d₂ : Dates) : Type 0 where
  pub tells : (w : Rowed s t r) → Walks s (value-by (named-at p DateTime) w.tree ∷ []) m d d₂

-- an object at row r₁ of the document's table, and the fields at row r₂ of the schema's, where there is one
pub record FieldsJudgeable (s₁ s₂ t₁ t₂ : List ℕ) (r₁ : ℕ) (r₂ : Option ℕ) : Type 0 where
  pub document : ObjectRow s₁ t₁ r₁
  pub schema : PartRow s₂ t₂ r₂
  pub fields : LocatedFields
  pub defines : fields_at s₂ schema.members ≡ fine fields

-- what is judged by a name that is absent
abbrev pub absence : Bool → ℕ → ℕ → List Visit
absence true brace q = missing brace q
absence false brace q = skipped q

pub record FieldsJudged (s₁ s₂ t₁ t₂ : List ℕ) (r₁ : ℕ) (r₂ : Option ℕ) (required : Bool) (m : Judgement) (d d₂ : Dates) : Type 0 where
  pub tells : (j : FieldsJudgeable s₁ s₂ t₁ t₂ r₁ r₂)
      → Walks s₁ (field_visits s₁ (absence required j.document.first) j.fields j.document.members) m d d₂

-- one field, its name at row r₂: v was found for it in the object at row r₁
pub record FieldJudgeable (s₁ s₂ t₁ t₂ : List ℕ) (r₁ : ℕ) (v : Option ℕ) (r₂ : ℕ) : Type 0 where
  pub document : ObjectRow s₁ t₁ r₁
  pub finds : Finds s₁ t₁ r₁ (name_of s₂ (word t₂ r₂ 1) (word t₂ r₂ 2)) v
  pub name : InTable t₂ r₂
  pub schema : Rowed s₂ t₂ (r₂ + 1)
  pub definition : Located
  pub defines : definition_at s₂ schema.tree ≡ fine definition

pub record FieldJudged (s₁ s₂ t₁ t₂ : List ℕ) (r₁ : ℕ) (v : Option ℕ) (r₂ : ℕ) (required : Bool) (m : Judgement) (d d₂ : Dates) : Type 0 where
  pub tells : (j : FieldJudgeable s₁ s₂ t₁ t₂ r₁ v r₂)
      → Walks s₁ (at_name (lookup s₁ (name_of s₂ (word t₂ r₂ 1) (word t₂ r₂ 2)) j.document.members)
      (absence required j.document.first (word t₂ r₂ 1)) (visits s₁ j.definition)) m d d₂
