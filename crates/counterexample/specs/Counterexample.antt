-- Compare's sister (02, L1): what it answers, what becomes of the tables and the buffer, and what holds of the document that it writes.
use Rattle.std.specs.Prelude.{ℕ, ◌≤◌, ◌<◌, ◌≡◌, cond, List, length, ltb, eqb}
use Rattle.model.specs.Definition.{Def}
use Rattle.model.specs.Meeting.{Meets}
use Rattle.tokens.specs.Parse.{parsed}
use Rattle.syntax.specs.Tree.{Node}
use Rattle.syntax.specs.Rows.{size}
use Rattle.syntax.specs.Spelling.{value_of}
use Rattle.syntax.specs.Answer.{answer, rows_in}
use Rattle.syntax.specs.declared.answers.Answer.{Answer}
use Rattle.writer.specs.Compact.{over}
use Rattle.schema.specs.Checking.{read_document, check_answer}
use Rattle.comparison.specs.Comparing.{Schema, Compares}

-- "a lent buffer of at least 65,536 bytes"
abbrev pub least_buffer : ℕ
least_buffer = 65536

-- ---- the document

-- d is "a document that meets the new schema and fails the old": it is read within a document's limits, and its value meets the definition of the new schema, and not that of the old
pub record Shows (new old d : List ℕ) : Type 0 where
  pub tree : Node
  pub end : ℕ
  pub reads : read_document d ≡ parsed tree end
  pub meets : (w : ℕ) (a : Def) → Schema w new a → Meets a (value_of d tree)
  pub fails : (w : ℕ) (b : Def) → Schema w old b → ¬ Meets b (value_of d tree)
  -- "Check, lent enough room, must confirm both": with tables of w₁ and w₂ words, in which the document and the schema have room
  pub confirms_new : (w₁ w₂ : ℕ) (a : Def) → size tree ≤ rows_in w₁ → Schema w₂ new a → check_answer w₁ w₂ d new ≡ answer 0 0 0 0
  pub confirms_old : (w₁ w₂ : ℕ) (b : Def) → size tree ≤ rows_in w₁ → Schema w₂ old b → (20 ≤ (check_answer w₁ w₂ d old).code) × ((check_answer w₁ w₂ d old).code ≤ 22)

-- ---- the answer and the buffer

-- c is Compare's answer, and d the document: "On 30 [..] gives its length as "other""
abbrev pub example_answer : Answer → List ℕ → Answer
example_answer c d = cond (eqb c.code 30) (answer c.code c.text c.place (length d)) c

-- "whole from byte 0, [..] and leaves the bytes behind as found"; the buffer is untouched "on any other answer"
abbrev pub example_buffer : Answer → List ℕ → List ℕ → List ℕ
example_buffer c d buffer = cond (eqb c.code 30) (over d buffer) buffer

-- "where the buffer is long enough, demand 3 holds of the sister as of Compare. Which document is chosen, and so its length, is free"
pub record Exhibits (w₁ w₂ : ℕ) (new old : List ℕ) (r : Answer) (buffer buffer₂ : List ℕ) : Type 0 where
  pub comparison : Answer
  pub compares : Compares w₁ w₂ new old comparison
  pub document : List ℕ
  pub shows : comparison.code ≡ 30 → Shows new old document
  pub answers : r ≡ example_answer comparison document
  pub writes : buffer₂ ≡ example_buffer comparison document buffer

-- "A shorter buffer is code 31, judged before everything else, and untouched"
pub record Promises (w₁ w₂ : ℕ) (new old : List ℕ) (r : Answer) (buffer buffer₂ : List ℕ) : Type 0 where
  pub short : length buffer < least_buffer → (r ≡ answer 31 0 0 0) × (buffer₂ ≡ buffer)
  pub long : least_buffer ≤ length buffer → Exhibits w₁ w₂ new old r buffer buffer₂

-- a table that Compare leaves as u, with a buffer of b bytes
abbrev pub table_unless_short : ℕ → List ℕ → List ℕ → List ℕ
table_unless_short b t u = cond (ltb b least_buffer) t u
