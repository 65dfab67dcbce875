-- Compare (01, "Three services" and demand 3): the answer and both tables.
use Rattle.std.specs.Prelude.{ℕ, ◌≡◌, ◌⊎◌, List}
use Rattle.std.proofs.Math.Option.{some}
use Rattle.model.specs.Definition.{Def, definition_of}
use Rattle.model.specs.Carried.{Carried, NotCarried}
use Rattle.syntax.specs.Tree.{Node}
use Rattle.syntax.specs.Spelling.{value_of}
use Rattle.syntax.specs.Answer.{answer, table_of}
use Rattle.syntax.specs.declared.answers.Answer.{Answer}
use Rattle.definitions.specs.Definitions.{bare}
use Rattle.definitions.specs.Accepting.{read_schema, Accepted, not_accepted, accepted, accept, HasRoom}

-- ---- the definition of an accepted schema: "its definition is the value that it spells"
pub record Schema (w : ℕ) (s : List ℕ) (d : Def) : Type 0 where
  pub tree : Node
  pub read : HasRoom (read_schema s) w tree
  pub defines : definition_of (value_of s tree) ≡ some d

-- ---- the answer on two accepted schemas with the definitions a, new, and b, old: 0 where a is carried to b, and 30 where it is not
abbrev pub Compared : Def → Def → Answer → Type 0
Compared a b r = ((r ≡ answer 0 0 0 0) × Carried a b) ⊎ ((r ≡ answer 30 0 0 0) × NotCarried a b)

-- ---- the answer on two texts: "Compare takes the new schema wholly first", so a refusal of it, then a refusal of the old one, then what is said
-- of their definitions
abbrev pub Answers : Accepted → Accepted → Answer → Type 0
Answers (not_accepted a) x r = r ≡ a
Answers (accepted d) (not_accepted a) r = r ≡ a
Answers (accepted d) (accepted e) r = Compared (bare d) (bare e) r

-- the promise of the answer r, for schemas with tables of w₁ and w₂ words: `answers` leaves one for all bytes (`one_answer` of
-- proofs/comparing/Laws.antt); `compares` says it of the values that two accepted texts spell
pub record Compares (w₁ w₂ : ℕ) (new old : List ℕ) (r : Answer) : Type 0 where
  pub answers : Answers (accept 1 w₁ new) (accept 2 w₂ old) r
  pub compares : (a b : Def) → Schema w₁ new a → Schema w₂ old b → Compared a b r

-- ---- the old schema's table: "Any other table, and that of a text not reached, is as found."
abbrev pub old_table : Accepted → List ℕ → List ℕ → List ℕ
old_table (not_accepted a) t s = t
old_table (accepted d) t s = table_of t (read_schema s)

unfoldable pub compare_table : ℕ → List ℕ → List ℕ → List ℕ → List ℕ
compare_table w₁ t new old = old_table (accept 1 w₁ new) t old
