-- The writers of the witness meet their contracts. The measure is four times the rows of the old definition, with up to five more by the order of the calls;
-- for a field, those of the definition behind its name.
use Prim.Native.Nat.{◌+◌, ◌*◌}
use Rattle.syntax.specs.Holding.{word}
use Rattle.counterexample.proofs.witnesses.+write_failing_write_no_array_write_no_map_write_no_object_write_under_write_witness.Given as goal

abbrev pub decreases-write_failing : goal.decreases-write_failing
decreases-write_failing l = 4 * word l.old.table.now (l.row + 1) 4 + 5

abbrev pub decreases-write_no_array : goal.decreases-write_no_array
decreases-write_no_array l = 4 * word l.old.table.now l.b 4 + 2

abbrev pub decreases-write_no_map : goal.decreases-write_no_map
decreases-write_no_map l = 4 * word l.old.table.now l.b 4 + 2

abbrev pub decreases-write_no_object : goal.decreases-write_no_object
decreases-write_no_object l = 4 * word l.old.table.now l.b 4 + 2

abbrev pub decreases-write_under : goal.decreases-write_under
decreases-write_under l = 4 * word l.old.table.now (l.row + 1) 4 + 4

abbrev pub decreases-write_witness : goal.decreases-write_witness
decreases-write_witness l = 4 * word l.old.table.now l.b 4 + 3
