-- What Compact answers, and the buffer afterwards (02, L6). The table afterwards is Read's (reader/specs/Answer, `table_of`).
use Rattle.std.specs.Prelude.{ℕ, cond, List, ◌++◌, length, drop, leb}
use Rattle.tokens.specs.Parse.{Parse, refused, parsed}
use Rattle.syntax.specs.Tree.{Node}
use Rattle.syntax.specs.Rows.{size}
use Rattle.syntax.specs.Spelling.{value_of}
use Rattle.syntax.specs.Answer.{document_limits, read_within, answer, rows_in, answer_of}
use Rattle.syntax.specs.declared.answers.Answer.{Answer}
use Rattle.writer.specs.Spell.{spell}

-- what is written for the text s whose tree is n: the spelling of the value that s stands for
abbrev pub spelled : List ℕ → Node → List ℕ
spelled s n = spell (value_of s n)

-- "From byte 0", and "bytes behind are as found": a buffer with w written to it
abbrev pub over : List ℕ → List ℕ → List ℕ
over w buffer = w ++ drop (length w) buffer

-- w is written where there is room: "The length is "other"", or "A short buffer is 60 with the length needed as "other""
abbrev pub written_answer : ℕ → List ℕ → Answer
written_answer b w = cond (leb (length w) b) (answer 0 0 0 (length w)) (answer 60 0 0 (length w))

abbrev pub written_buffer : List ℕ → List ℕ → List ℕ
written_buffer buffer w = cond (leb (length w) (length buffer)) (over w buffer) buffer

-- "after codes 1 to 8", which are Read's: with a table of t words and a buffer of b bytes
unfoldable pub answer_by : ℕ → ℕ → List ℕ → Parse Node → Answer
answer_by t b s (refused c p) = answer_of 1 t (refused c p)
answer_by t b s (parsed n e) = cond (leb (size n) (rows_in t)) (written_answer b (spelled s n)) (answer_of 1 t (parsed n e))

-- "every refusal leaves the buffer untouched"
unfoldable pub buffer_by : ℕ → List ℕ → List ℕ → Parse Node → List ℕ
buffer_by t buffer s (refused c p) = buffer
buffer_by t buffer s (parsed n e) = cond (leb (size n) (rows_in t)) (written_buffer buffer (spelled s n)) buffer

-- of a text, which is held to a document's limits
abbrev pub compact_answer : ℕ → ℕ → List ℕ → Answer
compact_answer t b s = answer_by t b s (read_within document_limits s)

abbrev pub compact_buffer : ℕ → List ℕ → List ℕ → List ℕ
compact_buffer t buffer s = buffer_by t buffer s (read_within document_limits s)
