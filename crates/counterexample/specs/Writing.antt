-- For private contracts: of each writer of a document what it is given, with room for what it writes (`..Ready`), and what it leaves, where it wrote n bytes (`..Written`).
use Rattle.std.specs.Prelude.{ℕ, ◌≤◌, true, false, cond, List, length, Option, Some, None}
use Rattle.model.specs.Value.{Value}
use Rattle.model.specs.Definition.{Def, named, array_of, map_of, object-of}
use Rattle.model.specs.Subtype.{of_objects, requires, under}
use Rattle.model.specs.Witness.{with_member, witness}
use Rattle.syntax.specs.Grammar.{name_of}
use Rattle.syntax.specs.Holding.{word}
use Rattle.writer.specs.Spell.{spell}
use Rattle.definitions.specs.Definitions.{bare}
use Rattle.definitions.specs.Shapes.{GenericRow}
use Rattle.comparison.specs.Fields.{FindsUnder}
use Rattle.comparison.specs.Carrying.{Pairing, FieldPairing, first_failing, Fails}
use Rattle.definitions.specs.declared.types.Generic.{Generic}
use Rattle.samples.specs.Writing.{Writes}

-- ---- the witness of a new definition at row r₁ and an old one at row r₂

-- of the fields that fail, the first that is required and the first that is optional: the one under whose name the witness fails; none where each sample does
abbrev pub failing_of : Def → Option (List ℕ × Def) → Option (List ℕ × Def) → Option (List ℕ × Def)
failing_of a None y = y
failing_of a (Some f) y = cond (requires a f.0) (Some f) None

-- so against the definition b, which is the second
abbrev pub failing : Def → Def → Option (List ℕ × Def)
failing a (named t) = None
failing a (array_of q) = None
failing a (map_of q) = None
failing a (object-of r o) = cond (of_objects a) (failing_of a (first_failing true a r) (first_failing false a o)) None

-- the row v of that name in the old schema, where there is one
pub record FailingName (s₁ s₂ t₁ t₂ : List ℕ) (r₁ r₂ : ℕ) (v : Option ℕ) : Type 0 where
  pub tells : (p : Pairing s₁ s₂ t₁ t₂ r₁ r₂) → Fails s₂ t₂ (Some r₂) v (failing (bare p.new.definition) (bare p.old.definition))

-- the witness itself
pub record WitnessReady (s₁ s₂ t₁ t₂ : List ℕ) (r₁ r₂ room : ℕ) : Type 0 where
  pub pair : Pairing s₁ s₂ t₁ t₂ r₁ r₂
  pub fits : length (spell (witness (bare pair.new.definition) (bare pair.old.definition))) ≤ room

-- the old one is of the generic type g
pub record WitnessTo (s₁ s₂ t₁ t₂ : List ℕ) (r₁ r₂ room : ℕ) (g : Generic) : Type 0 where
  pub given : WitnessReady s₁ s₂ t₁ t₂ r₁ r₂ room
  pub is : GenericRow s₂ t₂ r₂ (Some g)

pub record WitnessWritten (s₁ s₂ t₁ t₂ : List ℕ) (r₁ r₂ n : ℕ) (out out₂ : List ℕ) : Type 0 where
  pub tells : (p : Pairing s₁ s₂ t₁ t₂ r₁ r₂) → Writes (spell (witness (bare p.new.definition) (bare p.old.definition))) n out out₂

-- an object of the definition a that fails under the name n, where the old one has q
abbrev pub failing_value : Def → List ℕ → Def → Value
failing_value a n q = with_member a n (witness (under a n) q)

-- the same where that name is at row r₂ of the old schema
pub record MemberReady (s₁ s₂ t₁ t₂ : List ℕ) (r₁ r₂ room : ℕ) : Type 0 where
  pub pair : FieldPairing s₁ s₂ t₁ t₂ r₁ r₂
  pub fits : length (spell (failing_value (bare pair.new.definition) (name_of s₂ (word t₂ r₂ 1) (word t₂ r₂ 2)) (bare pair.old.definition))) ≤ room

pub record MemberWritten (s₁ s₂ t₁ t₂ : List ℕ) (r₁ r₂ n : ℕ) (out out₂ : List ℕ) : Type 0 where
  pub tells : (p : FieldPairing s₁ s₂ t₁ t₂ r₁ r₂)
      → Writes (spell (failing_value (bare p.new.definition) (name_of s₂ (word t₂ r₂ 1) (word t₂ r₂ 2)) (bare p.old.definition))) n out out₂

-- the value under that name, for which row v of the new schema was found, or none
pub record UnderReady (s₁ s₂ t₁ t₂ : List ℕ) (r₁ : ℕ) (v : Option ℕ) (r₂ room : ℕ) : Type 0 where
  pub pair : FieldPairing s₁ s₂ t₁ t₂ r₁ r₂
  pub finds : FindsUnder s₁ t₁ r₁ (name_of s₂ (word t₂ r₂ 1) (word t₂ r₂ 2)) false v
  pub fits : length (spell (witness (under (bare pair.new.definition) (name_of s₂ (word t₂ r₂ 1) (word t₂ r₂ 2))) (bare pair.old.definition))) ≤ room

pub record UnderWritten (s₁ s₂ t₁ t₂ : List ℕ) (r₁ r₂ n : ℕ) (out out₂ : List ℕ) : Type 0 where
  pub tells : (p : FieldPairing s₁ s₂ t₁ t₂ r₁ r₂)
      → Writes (spell (witness (under (bare p.new.definition) (name_of s₂ (word t₂ r₂ 1) (word t₂ r₂ 2))) (bare p.old.definition))) n out out₂
