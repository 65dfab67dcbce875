-- The walk over two definitions meets its contracts. The measure is four times the rows of the old definition, with up to three more by the order
-- of the calls; fields that are absent count none. The loops' invariants are `InFields` and `InWide` of carrying/Fields.antt.
use Prim.Native.Nat.{◌+◌, ◌*◌}
use lib.ListN.{length}
use Rattle.std.specs.Iterator.Adapters.{enumerate_source, enumerate_count}
use Rattle.syntax.specs.Holding.{word}
use Rattle.definitions.proofs.Facts.{part_rows}
use Rattle.comparison.proofs.carrying.Fields.{InFields, InWide}
use Rattle.comparison.proofs.carrying.+carried_carried_field_carried_found_carried_to_array_carried_to_map_carried_to_object_failing_field_failing_found_failing_wide_failing_widest.Given as goal

abbrev pub decreases-carried : goal.decreases-carried
decreases-carried l = 4 * word l.old.table.now l.b 4 + 1

abbrev pub decreases-carried_field : goal.decreases-carried_field
decreases-carried_field l = 4 * word l.old.table.now (l.row + 1) 4 + 3

abbrev pub decreases-carried_found : goal.decreases-carried_found
decreases-carried_found l = 4 * word l.old.table.now (l.row + 1) 4 + 2

abbrev pub decreases-carried_to_array : goal.decreases-carried_to_array
decreases-carried_to_array l = 4 * word l.old.table.now l.b 4

abbrev pub decreases-carried_to_map : goal.decreases-carried_to_map
decreases-carried_to_map l = 4 * word l.old.table.now l.b 4

abbrev pub decreases-carried_to_object : goal.decreases-carried_to_object
decreases-carried_to_object l = 4 * word l.old.table.now l.b 4

abbrev pub decreases-failing_field : goal.decreases-failing_field
decreases-failing_field l = 4 * part_rows l.old.table.now l.fields + 3

abbrev pub invariant-failing_field-loop-row : goal.invariant-failing_field-loop-row
invariant-failing_field-loop-row l = InFields l.new.text.now l.old.text.now l.new.table.now l.old.table.now l.a l.object l.required l.row-iterator

abbrev pub decreases-failing_wide : goal.decreases-failing_wide
decreases-failing_wide l = 4 * word l.old.table.now l.object 4 + 2

abbrev pub decreases-failing_widest : goal.decreases-failing_widest
decreases-failing_widest l = 4 * word l.old.table.now l.object 4 + 1

abbrev pub decreases-failing_found : goal.decreases-failing_found
decreases-failing_found l = 4 * word l.old.table.now l.object 4

abbrev pub invariant-failing_found-loop-i : goal.invariant-failing_found-loop-i
invariant-failing_found-loop-i l =
    InWide (length l.values) l.new.text.now l.old.text.now l.new.table.now l.old.table.now l.a l.object l.required l.values
    (enumerate_count l.i-iterator) (enumerate_source l.i-iterator)
