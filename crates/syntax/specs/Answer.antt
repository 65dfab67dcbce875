-- The answer of Read and the table afterwards (01, "Three services").
use Rattle.std.specs.Prelude.{ℕ, ◌*◌, ◌/◌, min, cond, List, ◌++◌, length, drop, leb}
use Rattle.chars.specs.Refusals.{number}
use Rattle.tokens.specs.Parse.{Parse, refused, parsed}
use Rattle.syntax.specs.Tree.{Node}
use Rattle.syntax.specs.Rows.{row_words, size, words}
use Rattle.syntax.specs.Grammar.{read_text}
use Rattle.syntax.specs.declared.limits.Limits.{Limits}
use Rattle.syntax.specs.declared.answers.Answer.{Answer}

-- "A document has at most 65,536 bytes and 32 open brackets at once" (and Read uses the document's limits)
abbrev pub document_limits : Limits
document_limits = record { bytes = 65536; depth = 32 }

-- "a schema at most 16,384 bytes and 24"
abbrev pub schema_limits : Limits
schema_limits = record { bytes = 16384; depth = 24 }

-- a text within limits; limits above a document's count as a document's
abbrev pub read_within : Limits → List ℕ → Parse Node
read_within l s = read_text (min l.bytes 65536) (min l.depth 32) s

-- "An answer is four numbers: code, text (0 none, 1, 2), place (a byte offset from 0), other."
abbrev pub answer : ℕ → ℕ → ℕ → ℕ → Answer
answer code which place other = record { code = code; text = which; place = place; other = other }

-- 01: "A table of w words, each of 32 bits, holds w/5 rows, rounded down."; L11: "A table now holds w/6 rows."
abbrev pub rows_in : ℕ → ℕ
rows_in w = w / row_words

-- the answer on text number `which`, with a table of w words: a refusal; 0 with the rows; 8 with the rows needed
unfoldable pub answer_of : ℕ → ℕ → Parse Node → Answer
answer_of which w (refused c p) = answer (number c) which p 0
answer_of which w (parsed n e) = cond (leb (size n) (rows_in w)) (answer 0 0 0 (size n)) (answer 8 which 0 (size n))

-- "A table whose text was well-formed and had room holds its rows, and the words behind the last row are as found";
-- "Any other table, and that of a text not reached, is as found."
unfoldable pub table_of : List ℕ → Parse Node → List ℕ
table_of t (refused c p) = t
table_of t (parsed n e) = cond (leb (size n) (rows_in (length t))) (words n ++ drop (row_words * size n) t) t
