-- Check (01, "Three services"; 02, L3): the answer, both tables, when it is 0, and the dates.
use Rattle.std.specs.Prelude.{ℕ, ◌≡◌, cond, List, [], leb, eqb, ℤ, Result, Ok, Err}
use Rattle.std.proofs.Math.Option.{some}
use Rattle.model.specs.Definition.{Def, definition_of}
use Rattle.model.specs.Meeting.{Meets}
use Rattle.chars.specs.Refusals.{number}
use Rattle.tokens.specs.Parse.{Parse, refused, parsed}
use Rattle.syntax.specs.Tree.{Node}
use Rattle.syntax.specs.Rows.{size}
use Rattle.syntax.specs.Spelling.{value_of}
use Rattle.syntax.specs.Answer.{document_limits, read_within, answer, rows_in, table_of}
use Rattle.syntax.specs.declared.answers.Answer.{Answer}
use Rattle.definitions.specs.Definitions.{Located}
use Rattle.schema.specs.Judging.{Judgement, mismatch_number, visits, mismatch_at}
use Rattle.schema.specs.Dates.{moments}
use Rattle.definitions.specs.Accepting.{read_schema, Accepted, not_accepted, accepted, accept, HasRoom}

abbrev pub read_document : List ℕ → Parse Node
read_document s = read_within document_limits s

-- ---- the answer: "Check takes the schema wholly first, then the document, then the misfits"

abbrev pub mismatch_answer : Judgement → Answer
mismatch_answer (Ok u) = answer 0 0 0 0
mismatch_answer (Err m) = answer (mismatch_number m.code) 1 m.place m.other

abbrev pub judged_as : Located → ℕ → List ℕ → Parse Node → Answer
judged_as d w s (refused c p) = answer (number c) 1 p 0
judged_as d w s (parsed n e) = cond (leb (size n) (rows_in w)) (mismatch_answer (mismatch_at s d n)) (answer 8 1 0 (size n))

abbrev pub checked_as : Accepted → ℕ → List ℕ → Answer
checked_as (not_accepted a) w s = a
checked_as (accepted d) w s = judged_as d w s (read_document s)

-- a document with a table of w₁ words, and a schema with a table of w₂
unfoldable pub check_answer : ℕ → ℕ → List ℕ → List ℕ → Answer
check_answer w₁ w₂ document schema = checked_as (accept 2 w₂ schema) w₁ document

-- ---- the document's table: "Any other table, and that of a text not reached, is as found."

abbrev pub table_after : Accepted → List ℕ → List ℕ → List ℕ
table_after (not_accepted a) t s = t
table_after (accepted d) t s = table_of t (read_document s)

unfoldable pub check_table : List ℕ → ℕ → List ℕ → List ℕ → List ℕ
check_table t w₂ document schema = table_after (accept 2 w₂ schema) t document

-- ---- when it is 0

-- both texts are read with room, the schema is accepted, and the document's value meets its definition
pub record Meeting (w₁ w₂ : ℕ) (document schema : List ℕ) : Type 0 where
  pub tree : Node
  pub read : HasRoom (read_document document) w₁ tree
  pub schema_tree : Node
  pub schema_read : HasRoom (read_schema schema) w₂ schema_tree
  pub definition : Def
  pub defines : definition_of (value_of schema schema_tree) ≡ some definition
  pub meets : Meets definition (value_of document tree)

-- ---- the dates

-- the moments of what is judged, where the schema is accepted and the document read
abbrev pub judged_moments : Accepted → List ℕ → Parse Node → List ℤ
judged_moments (not_accepted a) s o = []
judged_moments (accepted d) s (refused c p) = []
judged_moments (accepted d) s (parsed n e) = moments s (visits s d n)

-- "on 0" those, and none "on every other code"
unfoldable pub check_moments : ℕ → ℕ → List ℕ → List ℕ → List ℤ
check_moments w₁ w₂ document schema =
    cond (eqb (check_answer w₁ w₂ document schema).code 0) (judged_moments (accept 2 w₂ schema) document (read_document document)) []

-- ---- for a private contract: reading both texts

-- of a document with a table of w words, where it is refused or has no room
abbrev pub document_result : ℕ → Parse Node → Result (Unit {0}) Answer
document_result w (refused c p) = Err (answer (number c) 1 p 0)
document_result w (parsed n e) = cond (leb (size n) (rows_in w)) (Ok tt) (Err (answer 8 1 0 (size n)))

abbrev pub both_result : Accepted → ℕ → List ℕ → Result (Unit {0}) Answer
both_result (not_accepted a) w s = Err a
both_result (accepted d) w s = document_result w (read_document s)
