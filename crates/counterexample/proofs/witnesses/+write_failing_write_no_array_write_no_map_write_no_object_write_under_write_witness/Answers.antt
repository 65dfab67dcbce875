use mathlib.Core.Path.{◌≡◌, ap}
use native.Mathlib.Omega.{arith}
use Rattle.std.proofs.Common.{rules, false}
use Rattle.rows.proofs.Facts.{quotes_read}
use Rattle.definitions.proofs.Facts.{objects_by}
use Rattle.samples.proofs.Facts.{wrote}
use Rattle.counterexample.proofs.witnesses.Laws.{around_new, around_old, around_less, around_within, around_inner, around_room, around_closes, around_closed}
use Rattle.counterexample.proofs.witnesses.Laws.{name_ready, name_written, is_array, no_array_ready, no_array_written, array_around, bracket_fits, bracket}
use Rattle.counterexample.proofs.witnesses.Laws.{no_map_ready, no_map_written, map_object_ready, map_object_written, map_around, map_fits}
use Rattle.counterexample.proofs.witnesses.Laws.{no_name_ready, no_name_written, member_less, member_ready, member_written}
use Rattle.counterexample.proofs.witnesses.Members.{member_name_ready, under_lent, value_room, value_within, others_lent, member_room}
use Rattle.counterexample.proofs.witnesses.Members.{member_closes, member_closed, under_ready, under_witness, null_fits, under_null}
use Rattle.counterexample.proofs.witnesses.+write_failing_write_no_array_write_no_map_write_no_object_write_under_write_witness.Goals.{write_no_array-in_default-via-in-Some+in_default, write_no_array-in_default-via-in_default}
use Rattle.counterexample.proofs.witnesses.+write_failing_write_no_array_write_no_map_write_no_object_write_under_write_witness.Goals.{write_no_map-in_default-via-in-Some+in_default, write_no_map-in_default-via-in_default}
use Rattle.counterexample.proofs.witnesses.+write_failing_write_no_array_write_no_map_write_no_object_write_under_write_witness.Goals as goal

-- ---- write_failing

pub write_failing-between-key-requires : goal.write_failing-between-key-requires
write_failing-between-key-requires t c = quotes_read c.row_at-name.ensures c.requires.pair.quoted

pub write_failing-write_name-n-requires : goal.write_failing-write_name-n-requires
write_failing-write_name-n-requires t c = member_name_ready c.requires c.row_at-name.ensures

pub write_failing-write_under-n-requires : goal.write_failing-write_under-n-requires
write_failing-write_under-n-requires t c =
    (omega (arith, c.decreases), under_lent c.requires c.row_at-name.ensures c.write_name-n.ensures c.between-key.ensures c.find_under-found.ensures)

pub write_failing-overflow_add-n : goal.write_failing-overflow_add-n
write_failing-overflow_add-n t c = omega (arith, value_room c.requires c.row_at-name.ensures c.write_name-n.ensures c.write_under-n.ensures, c.well_formed)

pub write_failing-slice_bounds-write_others-count : goal.write_failing-slice_bounds-write_others-count
write_failing-slice_bounds-write_others-count t c = value_within c.requires c.row_at-name.ensures c.write_name-n.ensures c.write_under-n.ensures

pub write_failing-slice_bounds-write_others-start : goal.write_failing-slice_bounds-write_others-start
write_failing-slice_bounds-write_others-start t c = value_within c.requires c.row_at-name.ensures c.write_name-n.ensures c.write_under-n.ensures

pub write_failing-write_others-n-requires : goal.write_failing-write_others-n-requires
write_failing-write_others-n-requires t c = others_lent c.requires c.row_at-name.ensures c.write_name-n.ensures c.write_under-n.ensures c.between-key.ensures

pub write_failing-overflow_add-n-2 : goal.write_failing-overflow_add-n-2
write_failing-overflow_add-n-2 t c =
    omega (
      arith,
      member_room c.requires c.row_at-name.ensures c.write_name-n.ensures c.write_under-n.ensures c.between-key.ensures
          c.write_others-n.ensures,
      c.well_formed,
    )

pub write_failing-bounds-out-n : goal.write_failing-bounds-out-n
write_failing-bounds-out-n t c =
    member_closes c.requires c.row_at-name.ensures c.write_name-n.ensures c.write_under-n.ensures c.between-key.ensures c.write_others-n.ensures

pub write_failing-overflow_add-result : goal.write_failing-overflow_add-result
write_failing-overflow_add-result t c =
    omega (
      arith,
      member_room c.requires c.row_at-name.ensures c.write_name-n.ensures c.write_under-n.ensures c.between-key.ensures
          c.write_others-n.ensures,
      c.well_formed,
    )

pub write_failing-returns : goal.write_failing-returns
write_failing-returns t c =
    member_closed c.requires c.row_at-name.ensures c.write_name-n.ensures c.write_under-n.ensures c.between-key.ensures c.write_others-n.ensures

-- ---- write_no_array

pub write_no_array-bounds-out-0 : goal.write_no_array-bounds-out-0
write_no_array-bounds-out-0 t c =
    let p = array_around (rw c.in-Some-Array.field-0-is at c.in-Some-Array.ensures) c.requires in bracket_fits p

pub write_no_array-overflow_add-a : goal.write_no_array-overflow_add-a
write_no_array-overflow_add-a t c =
    let p = array_around (rw c.in-Some-Array.field-0-is at c.in-Some-Array.ensures) c.requires in omega (arith, (around_new p).here)

pub write_no_array-overflow_add-b : goal.write_no_array-overflow_add-b
write_no_array-overflow_add-b t c =
    let p = array_around (rw c.in-Some-Array.field-0-is at c.in-Some-Array.ensures) c.requires in omega (arith, (around_old p).here)

pub write_no_array-slice_bounds-write_witness-count : goal.write_no_array-slice_bounds-write_witness-count
write_no_array-slice_bounds-write_witness-count t c =
    let p = array_around (rw c.in-Some-Array.field-0-is at c.in-Some-Array.ensures) c.requires in around_within p (bracket p)

pub write_no_array-slice_bounds-write_witness-start : goal.write_no_array-slice_bounds-write_witness-start
write_no_array-slice_bounds-write_witness-start t c =
    let p = array_around (rw c.in-Some-Array.field-0-is at c.in-Some-Array.ensures) c.requires in around_within p (bracket p)

pub write_no_array-write_witness-n-requires : goal.write_no_array-write_witness-n-requires
write_no_array-write_witness-n-requires t c =
    let p = array_around (rw c.in-Some-Array.field-0-is at c.in-Some-Array.ensures) c.requires in
    (around_less p c.decreases, around_inner p (bracket p))

pub write_no_array-overflow_add-n : goal.write_no_array-overflow_add-n
write_no_array-overflow_add-n t c =
    let p = array_around (rw c.in-Some-Array.field-0-is at c.in-Some-Array.ensures) c.requires in
    omega (arith, around_room p (bracket p) c.write_witness-n.ensures, c.well_formed)

pub write_no_array-bounds-out-n : goal.write_no_array-bounds-out-n
write_no_array-bounds-out-n t c =
    let p = array_around (rw c.in-Some-Array.field-0-is at c.in-Some-Array.ensures) c.requires in
    around_closes p (bracket p) c.write_witness-n.ensures

pub write_no_array-overflow_add-result : goal.write_no_array-overflow_add-result
write_no_array-overflow_add-result t c =
    let p = array_around (rw c.in-Some-Array.field-0-is at c.in-Some-Array.ensures) c.requires in
    omega (arith, around_room p (bracket p) c.write_witness-n.ensures, c.well_formed)

pub write_no_array-returns-in-Some-Array : goal.write_no_array-returns-in-Some-Array
write_no_array-returns-in-Some-Array t c =
    let p = array_around (rw c.in-Some-Array.field-0-is at c.in-Some-Array.ensures) c.requires in
    around_closed p (bracket p) c.write_witness-n.ensures

pub write_no_array-write_sample-requires : goal.write_no_array-write_sample-requires
write_no_array-write_sample-requires t c =
    let n : is_array c.generic_at.result ≡ false =
    elim c.in_default.branch [
      | write_no_array-in_default-via-in-Some+in_default w ↦ search rules
      | write_no_array-in_default-via-in_default w ↦ ap is_array w.in_default.is
    ] in
    no_array_ready c.generic_at.ensures n c.requires

pub write_no_array-returns-in_default : goal.write_no_array-returns-in_default
write_no_array-returns-in_default t c =
    let n : is_array c.generic_at.result ≡ false =
    elim c.in_default.branch [
      | write_no_array-in_default-via-in-Some+in_default w ↦ search rules
      | write_no_array-in_default-via-in_default w ↦ ap is_array w.in_default.is
    ] in
    no_array_written c.generic_at.ensures n c.requires c.write_sample.ensures

-- ---- write_no_map

pub write_no_map-write_bytes-n-requires : goal.write_no_map-write_bytes-n-requires
write_no_map-write_bytes-n-requires t c = map_fits (rw c.in-Some-Map.field-0-is at c.in-Some-Map.ensures) c.requires

pub write_no_map-overflow_add-a : goal.write_no_map-overflow_add-a
write_no_map-overflow_add-a t c =
    let p = map_around (rw c.in-Some-Map.field-0-is at c.in-Some-Map.ensures) c.requires in omega (arith, (around_new p).here)

pub write_no_map-overflow_add-b : goal.write_no_map-overflow_add-b
write_no_map-overflow_add-b t c =
    let p = map_around (rw c.in-Some-Map.field-0-is at c.in-Some-Map.ensures) c.requires in omega (arith, (around_old p).here)

pub write_no_map-write_witness-n-requires : goal.write_no_map-write_witness-n-requires
write_no_map-write_witness-n-requires t c =
    let p = map_around (rw c.in-Some-Map.field-0-is at c.in-Some-Map.ensures) c.requires in
    (around_less p c.decreases, around_inner p (wrote c.write_bytes-n.ensures))

pub write_no_map-overflow_add-n : goal.write_no_map-overflow_add-n
write_no_map-overflow_add-n t c =
    let p = map_around (rw c.in-Some-Map.field-0-is at c.in-Some-Map.ensures) c.requires in
    omega (arith, around_room p (wrote c.write_bytes-n.ensures) c.write_witness-n.ensures, c.well_formed)

pub write_no_map-bounds-out-n : goal.write_no_map-bounds-out-n
write_no_map-bounds-out-n t c =
    let p = map_around (rw c.in-Some-Map.field-0-is at c.in-Some-Map.ensures) c.requires in
    around_closes p (wrote c.write_bytes-n.ensures) c.write_witness-n.ensures

pub write_no_map-overflow_add-result : goal.write_no_map-overflow_add-result
write_no_map-overflow_add-result t c =
    let p = map_around (rw c.in-Some-Map.field-0-is at c.in-Some-Map.ensures) c.requires in
    omega (arith, around_room p (wrote c.write_bytes-n.ensures) c.write_witness-n.ensures, c.well_formed)

pub write_no_map-returns-in-Some-Map : goal.write_no_map-returns-in-Some-Map
write_no_map-returns-in-Some-Map t c =
    let p = map_around (rw c.in-Some-Map.field-0-is at c.in-Some-Map.ensures) c.requires in
    around_closed p (wrote c.write_bytes-n.ensures) c.write_witness-n.ensures

pub write_no_map-write_beyond-requires : goal.write_no_map-write_beyond-requires
write_no_map-write_beyond-requires t c = map_object_ready (rw c.in-Some-Object.field-0-is at c.in-Some-Object.ensures) c.requires

pub write_no_map-returns-in-Some-Object : goal.write_no_map-returns-in-Some-Object
write_no_map-returns-in-Some-Object t c = map_object_written (rw c.in-Some-Object.field-0-is at c.in-Some-Object.ensures) c.requires c.write_beyond.ensures

pub write_no_map-write_sample-requires : goal.write_no_map-write_sample-requires
write_no_map-write_sample-requires t c =
    let n : objects_by c.generic_at.result ≡ false =
    elim c.in_default.branch [
      | write_no_map-in_default-via-in-Some+in_default w ↦ search rules
      | write_no_map-in_default-via-in_default w ↦ ap objects_by w.in_default.is
    ] in
    no_map_ready c.generic_at.ensures n c.requires

pub write_no_map-returns-in_default : goal.write_no_map-returns-in_default
write_no_map-returns-in_default t c =
    let n : objects_by c.generic_at.result ≡ false =
    elim c.in_default.branch [
      | write_no_map-in_default-via-in-Some+in_default w ↦ search rules
      | write_no_map-in_default-via-in_default w ↦ ap objects_by w.in_default.is
    ] in
    no_map_written c.generic_at.ensures n c.requires c.write_sample.ensures

-- ---- write_no_object

pub write_no_object-write_failing-requires : goal.write_no_object-write_failing-requires
write_no_object-write_failing-requires t c = (member_less c.requires c.in-Some.ensures c.decreases, member_ready c.requires c.in-Some.ensures)

pub write_no_object-returns-in-Some : goal.write_no_object-returns-in-Some
write_no_object-returns-in-Some t c = member_written c.requires c.in-Some.ensures c.write_failing.ensures

pub write_no_object-write_sample-requires : goal.write_no_object-write_sample-requires
write_no_object-write_sample-requires t c = no_name_ready c.requires c.in-None.ensures

pub write_no_object-returns-in-None : goal.write_no_object-returns-in-None
write_no_object-returns-in-None t c = no_name_written c.requires c.in-None.ensures c.write_sample.ensures

-- ---- write_under

pub write_under-write_witness-requires : goal.write_under-write_witness-requires
write_under-write_witness-requires t c = (omega (arith, c.decreases), under_ready (rw c.in-Some.is at c.requires))

pub write_under-returns-in-Some : goal.write_under-returns-in-Some
write_under-returns-in-Some t c = under_witness (rw c.in-Some.is at c.requires) c.write_witness.ensures

pub write_under-write_bytes-requires : goal.write_under-write_bytes-requires
write_under-write_bytes-requires t c = null_fits (rw c.in-None.is at c.requires)

pub write_under-returns-in-None : goal.write_under-returns-in-None
write_under-returns-in-None t c = under_null (rw c.in-None.is at c.requires) c.write_bytes.ensures

-- ---- write_witness

pub write_witness-write_beyond-requires : goal.write_witness-write_beyond-requires
write_witness-write_beyond-requires t c = name_ready c.requires c.in-None.ensures

pub write_witness-returns-in-None : goal.write_witness-returns-in-None
write_witness-returns-in-None t c = name_written c.requires c.in-None.ensures c.write_beyond.ensures
