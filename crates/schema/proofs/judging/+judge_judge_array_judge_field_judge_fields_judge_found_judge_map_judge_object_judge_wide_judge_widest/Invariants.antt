-- The walk over a value and a definition meets its contracts. The loops' invariants are `InArray`, `InMap`, `InFields` and `InWide`: what is left to
-- judge answers for the whole, from the dates so far. `Values` and `Fields` have a law for each way out. The measure is three times the rows of the
-- definition, with one more in `judge`, `judge_fields` and `judge_widest`, two in `judge_field` and `judge_wide`; fields that are absent count none.
use Prim.Native.Nat.{◌+◌, ◌*◌}
use lib.ListN.{length}
use Rattle.std.specs.Prelude.{Some}
use Rattle.std.specs.Iterator.Adapters.{enumerate_source, enumerate_count}
use Rattle.syntax.specs.Holding.{word}
use Rattle.definitions.proofs.Facts.{part_rows}
use Rattle.schema.proofs.judging.Values.{InArray, InMap}
use Rattle.schema.proofs.judging.Fields.{InFields, InWide}
use Rattle.schema.proofs.judging.+judge_judge_array_judge_field_judge_fields_judge_found_judge_map_judge_object_judge_wide_judge_widest.Given as goal

abbrev pub decreases-judge : goal.decreases-judge
decreases-judge l = 3 * word l.schema.table.now l.by 4 + 1

abbrev pub decreases-judge_array : goal.decreases-judge_array
decreases-judge_array l = 3 * word l.schema.table.now l.by 4

abbrev pub invariant-judge_array-loop-row : goal.invariant-judge_array-loop-row
invariant-judge_array-loop-row l =
    InArray l.document.text.now l.schema.text.now l.document.table.now l.schema.table.now l.at l.by l.row-iterator l.initial.dates l.dates

abbrev pub decreases-judge_field : goal.decreases-judge_field
decreases-judge_field l = 3 * word l.schema.table.now (l.row + 1) 4 + 2

abbrev pub decreases-judge_fields : goal.decreases-judge_fields
decreases-judge_fields l = 3 * part_rows l.schema.table.now l.fields + 1

abbrev pub invariant-judge_fields-loop-row : goal.invariant-judge_fields-loop-row
invariant-judge_fields-loop-row l =
    InFields l.document.text.now l.schema.text.now l.document.table.now l.schema.table.now l.at l.fn.fields l.required l.row-iterator l.initial.dates l.dates

abbrev pub decreases-judge_found : goal.decreases-judge_found
decreases-judge_found l = 3 * word l.schema.table.now l.object 4

abbrev pub invariant-judge_found-loop-i : goal.invariant-judge_found-loop-i
invariant-judge_found-loop-i l =
    InWide (length l.values) l.document.text.now l.schema.text.now l.document.table.now l.schema.table.now l.at (Some l.object) l.required l.values
    (enumerate_count l.i-iterator) (enumerate_source l.i-iterator) l.initial.dates l.dates

abbrev pub decreases-judge_map : goal.decreases-judge_map
decreases-judge_map l = 3 * word l.schema.table.now l.by 4

abbrev pub invariant-judge_map-loop-row : goal.invariant-judge_map-loop-row
invariant-judge_map-loop-row l =
    InMap l.document.text.now l.schema.text.now l.document.table.now l.schema.table.now l.at l.by l.row-iterator l.initial.dates l.dates

abbrev pub decreases-judge_object : goal.decreases-judge_object
decreases-judge_object l = 3 * word l.schema.table.now l.by 4

abbrev pub decreases-judge_wide : goal.decreases-judge_wide
decreases-judge_wide l = 3 * part_rows l.schema.table.now l.fields + 2

abbrev pub decreases-judge_widest : goal.decreases-judge_widest
decreases-judge_widest l = 3 * word l.schema.table.now l.object 4 + 1
