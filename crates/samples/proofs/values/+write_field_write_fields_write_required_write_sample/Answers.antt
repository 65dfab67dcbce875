use mathlib.Core.Path.{◌≡◌, ap}
use native.Mathlib.Omega.{arith}
use Rattle.syntax.specs.Holding.{word}
use Rattle.definitions.proofs.Facts.{part_rows, object_body, body_in}
use Rattle.samples.proofs.values.Laws.{array_fits, array_written, map_fits, map_written, name_fits, name_written, required_less}
use Rattle.samples.proofs.values.Laws.{required_ready, sample_required, fields_ready}
use Rattle.samples.proofs.values.Laws.{required_closed, value_ready, field_room, field_written}
use Rattle.samples.proofs.values.Laws.{in_start, this, in_ready, in_room, in_kept}
use Rattle.samples.proofs.values.Laws.{in_skipped, in_end}
use Rattle.samples.proofs.values.+write_field_write_fields_write_required_write_sample.Goals as goal

-- ---- write_field

pub write_field-write_sample-requires : goal.write_field-write_sample-requires
write_field-write_sample-requires t c = (omega arith, value_ready c.row_at.ensures c.write_name-n.ensures c.requires)

pub write_field-overflow_add-result : goal.write_field-overflow_add-result
write_field-overflow_add-result t c =
    omega (arith, c.well_formed, field_room c.row_at.ensures c.write_name-n.ensures c.requires c.write_sample.ensures)

pub write_field-returns : goal.write_field-returns
write_field-returns t c = field_written c.row_at.ensures c.write_name-n.ensures c.requires c.write_sample.ensures

-- ---- write_fields

pub write_fields-loop-row-init : goal.write_fields-loop-row-init
write_fields-loop-row-init t c =
    rw c.into_iter-row-iterator.ensures.into_iter_gives (in_start (rw c.in-Some.is at c.requires) c.members-row-items.ensures)

pub write_fields-keeps-requires-clause-in_table : goal.write_fields-keeps-requires-clause-in_table
write_fields-keeps-requires-clause-in_table t c = (this c.loop-row.invariant c.in-Some-row.ensures.steps).name

pub write_fields-keeps-requires-clause-quoted : goal.write_fields-keeps-requires-clause-quoted
write_fields-keeps-requires-clause-quoted t c = (this c.loop-row.invariant c.in-Some-row.ensures.steps).quoted

pub write_fields-write_field-n-requires : goal.write_fields-write_field-n-requires
write_fields-write_field-n-requires t c =
    let rows : part_rows c.args.tree.table.now c.args.fields ≡ word c.args.tree.table.now c.in-Some.object 4 =
    ap (part_rows c.args.tree.table.now) c.in-Some.is in (
      omega (arith, (this c.loop-row.invariant c.in-Some-row.ensures.steps).less),
      in_ready c.loop-row.invariant c.in-Some-row.ensures.steps c.if-keeps.ensures (rw c.in-Some.is at c.requires),
    )

pub write_fields-overflow_add-n : goal.write_fields-overflow_add-n
write_fields-overflow_add-n t c =
    omega (
      arith,
      c.well_formed,
      in_room c.loop-row.invariant c.in-Some-row.ensures.steps c.if-keeps.ensures (rw c.in-Some.is at c.requires) c.write_field-n.ensures,
    )

pub write_fields-loop-row-preserved-then-keeps : goal.write_fields-loop-row-preserved-then-keeps
write_fields-loop-row-preserved-then-keeps t c =
    in_kept c.loop-row.invariant c.in-Some-row.ensures.steps c.if-keeps.ensures (rw c.in-Some.is at c.requires) c.write_field-n.ensures

pub write_fields-loop-row-preserved : goal.write_fields-loop-row-preserved
write_fields-loop-row-preserved t c = in_skipped c.loop-row.invariant c.in-Some-row.ensures.steps c.if-keeps.ensures

pub write_fields-returns : goal.write_fields-returns
write_fields-returns t c = rw c.in-Some.is (in_end c.loop-row.invariant c.in-None.ensures.steps)

-- ---- write_required

pub write_required-write_fields-n-requires : goal.write_required-write_fields-n-requires
write_required-write_fields-n-requires t c = (omega arith, fields_ready c.requires)

pub write_required-returns : goal.write_required-returns
write_required-returns t c = required_closed c.write_fields-n.ensures c.requires c.if-n-eq0.false

-- ---- write_sample

pub write_sample-write_bytes-requires : goal.write_sample-write_bytes-requires
write_sample-write_bytes-requires t c = array_fits (rw c.in-Some-Array.field-0-is at c.in-Some-Array.ensures) c.requires

pub write_sample-write_bytes-requires-in-Some-Map : goal.write_sample-write_bytes-requires-in-Some-Map
write_sample-write_bytes-requires-in-Some-Map t c = map_fits (rw c.in-Some-Map.field-0-is at c.in-Some-Map.ensures) c.requires

pub write_sample-overflow_add-row : goal.write_sample-overflow_add-row
write_sample-overflow_add-row t c = omega (arith, (body_in (rw c.in-Some-Object.field-0-is at c.in-Some-Object.ensures) c.requires.row).here)

pub write_sample-find-requires : goal.write_sample-find-requires
write_sample-find-requires t c = object_body (rw c.in-Some-Object.field-0-is at c.in-Some-Object.ensures) c.requires.row

pub write_sample-write_required-requires : goal.write_sample-write_required-requires
write_sample-write_required-requires t c = (
  omega (arith, required_less (rw c.in-Some-Object.field-0-is at c.in-Some-Object.ensures) c.find.ensures c.requires.row),
  required_ready (rw c.in-Some-Object.field-0-is at c.in-Some-Object.ensures) c.find.ensures c.requires,
)

pub write_sample-write_bytes-requires-in-None : goal.write_sample-write_bytes-requires-in-None
write_sample-write_bytes-requires-in-None t c = name_fits c.in-None.ensures c.type_at.ensures c.plain_bytes.ensures c.requires

pub write_sample-returns-in-Some-Array : goal.write_sample-returns-in-Some-Array
write_sample-returns-in-Some-Array t c = array_written (rw c.in-Some-Array.field-0-is at c.in-Some-Array.ensures) c.write_bytes.ensures

pub write_sample-returns-in-Some-Map : goal.write_sample-returns-in-Some-Map
write_sample-returns-in-Some-Map t c = map_written (rw c.in-Some-Map.field-0-is at c.in-Some-Map.ensures) c.write_bytes-in-Some-Map.ensures

pub write_sample-returns-in-Some-Object : goal.write_sample-returns-in-Some-Object
write_sample-returns-in-Some-Object t c =
    sample_required (rw c.in-Some-Object.field-0-is at c.in-Some-Object.ensures) c.find.ensures c.write_required.ensures

pub write_sample-returns-in-None : goal.write_sample-returns-in-None
write_sample-returns-in-None t c = name_written c.in-None.ensures c.type_at.ensures c.plain_bytes.ensures c.write_bytes-in-None.ensures
