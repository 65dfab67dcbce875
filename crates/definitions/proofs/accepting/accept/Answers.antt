-- `accept` meets its contract: a schema that is not read, one that is no definition, and one that is accepted.
use Rattle.definitions.proofs.accepting.Laws.{SchemaRead, accept_unread, accept_rowed, accept_faulty, accept_fine}
use Rattle.definitions.proofs.accepting.accept.Goals as goal
use Rattle.definitions.proofs.accepting.accept.Goals.{After-read_within-read}

read : (c : After-read_within-read)
    → SchemaRead c.args.which c.args.schema.now c.args.table.now c.read_within-read.result c.read_within-read.new.table
read c = record {
  answers = rw c.schema.ensures at c.read_within-read.ensures.answers;
  rows = rw c.schema.ensures at c.read_within-read.ensures.rows;
}

pub returns-then-read-ne0-clause-answers : goal.returns-then-read-ne0-clause-answers
returns-then-read-ne0-clause-answers c = accept_unread (read (goal.at.returns-then-read-ne0-clause-answers c).After-read_within-read) c.if-read-ne0.true

pub define-requires : goal.define-requires
define-requires c = accept_rowed (read (goal.at.define-requires c).After-read_within-read) c.if-read-ne0.false

pub returns-in-Err-clause-answers : goal.returns-in-Err-clause-answers
returns-in-Err-clause-answers c =
    accept_faulty (read (goal.at.returns-in-Err-clause-answers c).After-read_within-read) c.if-read-ne0.false c.define.ensures c.in-Err.is
    (rw c.from.ensures at c.new.ensures)

pub returns-clause-answers : goal.returns-clause-answers
returns-clause-answers c =
    accept_fine (read (goal.at.returns-clause-answers c).After-read_within-read) c.if-read-ne0.false c.define.ensures c.in_default.is
