-- When a schema is accepted, and the answer where it is not (01, "Three services").
use Rattle.std.specs.Prelude.{ℕ, ◌≤◌, ◌≡◌, cond, List, leb, Result, Ok, Err}
use Rattle.chars.specs.Refusals.{number}
use Rattle.tokens.specs.Parse.{Parse, refused, parsed}
use Rattle.syntax.specs.Tree.{Node}
use Rattle.syntax.specs.Rows.{size}
use Rattle.syntax.specs.Answer.{schema_limits, read_within, answer, rows_in}
use Rattle.syntax.specs.declared.answers.Answer.{Answer}
use Rattle.definitions.specs.Definitions.{Located, Defined, faulty, fine, definition_at, fault_number}

abbrev pub read_schema : List ℕ → Parse Node
read_schema s = read_within schema_limits s

-- ---- a schema: "accepted when its text, with the table lent, has none of the codes 1 to 12"

pub data Accepted : Type 0 where
  not_accepted : Answer → Accepted
  accepted : Located → Accepted

abbrev pub defined_as : ℕ → Defined Located → Accepted
defined_as which (faulty c p) = not_accepted (answer (fault_number c) which p 0)
defined_as which (fine d) = accepted d

-- "then room (8), only for well-formed text; for a schema then 10 to 12"
abbrev pub accepted_as : ℕ → ℕ → List ℕ → Parse Node → Accepted
accepted_as which w s (refused c p) = not_accepted (answer (number c) which p 0)
accepted_as which w s (parsed n e) = cond (leb (size n) (rows_in w)) (defined_as which (definition_at s n)) (not_accepted (answer 8 which 0 (size n)))

-- text number `which`, s, with a table of w words
unfoldable pub accept : ℕ → ℕ → List ℕ → Accepted
accept which w s = accepted_as which w s (read_schema s)

-- an accepted schema has no answer of its own
abbrev pub accept_result : Accepted → Result (Unit {0}) Answer
accept_result (not_accepted a) = Err a
accept_result (accepted d) = Ok tt

-- a text that was read, with room in a table of w words
pub record HasRoom (o : Parse Node) (w : ℕ) (n : Node) : Type 0 where
  pub end : ℕ
  pub reads : o ≡ parsed n end
  pub room : size n ≤ rows_in w
