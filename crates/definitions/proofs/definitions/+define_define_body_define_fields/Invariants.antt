-- The walk over the rows of a definition meets its contracts. The measure is the number of rows of the value at a row, and each call is at a value inside;
-- a part that is absent counts none. The loop's invariant (`InFields`): the members whose names are left have the fault of the whole part.
-- `Laws`, `Body` and `Fields` have a law for each way out.
use Rattle.syntax.specs.Holding.{word}
use Rattle.definitions.proofs.definitions.Body.{part_rows}
use Rattle.definitions.proofs.definitions.Fields.{InFields}
use Rattle.definitions.proofs.definitions.+define_define_body_define_fields.Given as goal

abbrev pub decreases-define : goal.decreases-define
decreases-define l = word l.tree.table.now l.row 4

abbrev pub decreases-define_body : goal.decreases-define_body
decreases-define_body l = word l.tree.table.now l.row 4

abbrev pub decreases-define_fields : goal.decreases-define_fields
decreases-define_fields l = part_rows l.tree.table.now l.fields

abbrev pub invariant-define_fields-loop-row : goal.invariant-define_fields-loop-row
invariant-define_fields-loop-row l = InFields l.tree.text.now l.tree.table.now l.fn.fields l.row-iterator
