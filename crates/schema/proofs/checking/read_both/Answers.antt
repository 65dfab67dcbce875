-- `read_both` meets its contract: the schema is not accepted, the document is not read, and both are.
use Rattle.schema.proofs.checking.Laws.{unaccepted_table, accepted_rows, accepted_unread, accepted_read}
use Rattle.schema.proofs.checking.read_both.Goals as goal

pub returns-in_err-accept-clause-rows1 : goal.returns-in_err-accept-clause-rows1
returns-in_err-accept-clause-rows1 c =
    unaccepted_table c.args.document.now c.args.schema.now c.args.table1.now c.args.table2.now c.accept.ensures.answers c.in_err-accept.was

pub returns-then-read-ne0-clause-answers : goal.returns-then-read-ne0-clause-answers
returns-then-read-ne0-clause-answers c =
    accepted_unread _ _ _ _ c.accept.ensures.answers c.in_ok-accept.was (rw c.document.ensures at c.read_within-read.ensures.answers) c.if-read-ne0.true

pub returns-then-read-ne0-clause-rows1 : goal.returns-then-read-ne0-clause-rows1
returns-then-read-ne0-clause-rows1 c =
    accepted_rows _ _ _ _ c.accept.ensures.answers c.in_ok-accept.was (rw c.document.ensures at c.read_within-read.ensures.rows)

pub returns-clause-answers : goal.returns-clause-answers
returns-clause-answers c =
    accepted_read _ _ _ _ c.accept.ensures.answers c.in_ok-accept.was (rw c.document.ensures at c.read_within-read.ensures.answers) c.if-read-ne0.false

pub returns-clause-rows1 : goal.returns-clause-rows1
returns-clause-rows1 c = accepted_rows _ _ _ _ c.accept.ensures.answers c.in_ok-accept.was (rw c.document.ensures at c.read_within-read.ensures.rows)
