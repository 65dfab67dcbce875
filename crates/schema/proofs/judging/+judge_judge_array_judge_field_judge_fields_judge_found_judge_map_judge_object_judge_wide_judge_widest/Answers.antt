use Prim.Native.Nat.{◌≤◌}
use mathlib.Core.Path.{◌≡◌, ap}
use native.Mathlib.Omega.{arith}
use Rattle.std.proofs.lemmas.Result.{err_from_is_err_and}
use Rattle.syntax.specs.Holding.{word}
use Rattle.rows.specs.Matching.{most_names}
use Rattle.definitions.proofs.Facts.{spelled, field_here, part_rows}
use Rattle.rows.proofs.Facts.{in_table, as_row, quotes_read}
use Rattle.schema.proofs.judging.Values.{by_generic, turn_stops, array_other, array_given, array_start, array_turn, array_next, array_end}
use Rattle.schema.proofs.judging.Values.{map_other, map_given, map_start, map_turn, map_next, map_end}
use Rattle.schema.proofs.judging.Fields.{object_other, object_start, required_given, optional_given, required_stops, optional_ends}
use Rattle.schema.proofs.judging.Fields.{fields_begin, fields_judged, fields_sought, sought_field, field_judgeable, field_fails, field_next}
use Rattle.schema.proofs.judging.Fields.{room_found, wide_start, wide_sought, wide_next, wide_end, field_value, field_found}
use Rattle.schema.proofs.judging.+judge_judge_array_judge_field_judge_fields_judge_found_judge_map_judge_object_judge_wide_judge_widest.Goals as goal

-- ---- judge

pub judge-judge_named-requires : goal.judge-judge_named-requires
judge-judge_named-requires t c = by_generic c.requires c.generic_at.ensures c.in-None.is

pub judge-judge_array-requires : goal.judge-judge_array-requires
judge-judge_array-requires t c =
    (omega (arith, c.decreases), by_generic c.requires c.generic_at.ensures (rw c.in-Some-Array.field-0-is at c.in-Some-Array.is))

pub judge-judge_map-requires : goal.judge-judge_map-requires
judge-judge_map-requires t c =
    (omega (arith, c.decreases), by_generic c.requires c.generic_at.ensures (rw c.in-Some-Map.field-0-is at c.in-Some-Map.is))

pub judge-judge_object-requires : goal.judge-judge_object-requires
judge-judge_object-requires t c =
    (omega (arith, c.decreases), by_generic c.requires c.generic_at.ensures (rw c.in-Some-Object.field-0-is at c.in-Some-Object.is))

-- ---- judge_array

pub judge_array-row_at-value-requires : goal.judge_array-row_at-value-requires
judge_array-row_at-value-requires t c = in_table c.requires.given.document

pub judge_array-row_at-requires : goal.judge_array-row_at-requires
judge_array-row_at-requires t c = in_table c.requires.given.schema

pub judge_array-returns-in_err-unless : goal.judge_array-returns-in_err-unless
judge_array-returns-in_err-unless t c =
    let exit = err_from_is_err_and c.from_residual.result c.from_residual.ensures.1 in
    rw (exit.1, exit.2) (array_other c.requires c.row_at-value.ensures c.row_at.ensures c.unless.ensures c.in_err-unless.was)

pub judge_array-elements-row-items-requires : goal.judge_array-elements-row-items-requires
judge_array-elements-row-items-requires t c = array_given c.requires c.row_at-value.ensures c.row_at.ensures c.unless.ensures c.in_ok-unless.was

pub judge_array-loop-row-init : goal.judge_array-loop-row-init
judge_array-loop-row-init t c =
    rw c.into_iter-row-iterator.ensures.into_iter_gives
    (array_start c.requires c.row_at-value.ensures c.row_at.ensures c.unless.ensures c.in_ok-unless.was c.elements-row-items.ensures)

pub judge_array-judge-requires : goal.judge_array-judge-requires
judge_array-judge-requires t c =
    let k = array_turn c.loop-row.invariant c.in-Some.ensures.steps in (omega (arith, k.less, c.decreases), k.one)

pub judge_array-loop-row-preserved : goal.judge_array-loop-row-preserved
judge_array-loop-row-preserved t c = array_next c.loop-row.invariant c.in-Some.ensures.steps c.judge.ensures c.in_ok-judge.was

pub judge_array-returns-in_err-judge : goal.judge_array-returns-in_err-judge
judge_array-returns-in_err-judge t c =
    let exit = err_from_is_err_and c.from_residual-in_err-judge.result c.from_residual-in_err-judge.ensures.1 in
    rw (exit.1, exit.2) (turn_stops (array_turn c.loop-row.invariant c.in-Some.ensures.steps) c.judge.ensures c.in_err-judge.was)

pub judge_array-returns : goal.judge_array-returns
judge_array-returns t c = array_end c.loop-row.invariant c.in-None.ensures.steps

-- ---- judge_map

pub judge_map-row_at-value-requires : goal.judge_map-row_at-value-requires
judge_map-row_at-value-requires t c = in_table c.requires.given.document

pub judge_map-row_at-requires : goal.judge_map-row_at-requires
judge_map-row_at-requires t c = in_table c.requires.given.schema

pub judge_map-returns-in_err-unless : goal.judge_map-returns-in_err-unless
judge_map-returns-in_err-unless t c =
    let exit = err_from_is_err_and c.from_residual.result c.from_residual.ensures.1 in
    rw (exit.1, exit.2) (map_other c.requires c.row_at-value.ensures c.row_at.ensures c.unless.ensures c.in_err-unless.was)

pub judge_map-members-row-items-requires : goal.judge_map-members-row-items-requires
judge_map-members-row-items-requires t c = map_given c.requires c.row_at-value.ensures c.row_at.ensures c.unless.ensures c.in_ok-unless.was

pub judge_map-loop-row-init : goal.judge_map-loop-row-init
judge_map-loop-row-init t c =
    rw c.into_iter-row-iterator.ensures.into_iter_gives
    (map_start c.requires c.row_at-value.ensures c.row_at.ensures c.unless.ensures c.in_ok-unless.was c.members-row-items.ensures)

pub judge_map-overflow_add-row : goal.judge_map-overflow_add-row
judge_map-overflow_add-row t c =
    omega (arith, (in_table (map_turn c.loop-row.invariant c.in-Some.ensures.steps).one.document).here, c.well_formed)

pub judge_map-judge-requires : goal.judge_map-judge-requires
judge_map-judge-requires t c = let k = map_turn c.loop-row.invariant c.in-Some.ensures.steps in (omega (arith, k.less, c.decreases), k.one)

pub judge_map-loop-row-preserved : goal.judge_map-loop-row-preserved
judge_map-loop-row-preserved t c = map_next c.loop-row.invariant c.in-Some.ensures.steps c.judge.ensures c.in_ok-judge.was

pub judge_map-returns-in_err-judge : goal.judge_map-returns-in_err-judge
judge_map-returns-in_err-judge t c =
    let exit = err_from_is_err_and c.from_residual-in_err-judge.result c.from_residual-in_err-judge.ensures.1 in
    rw (exit.1, exit.2) (turn_stops (map_turn c.loop-row.invariant c.in-Some.ensures.steps) c.judge.ensures c.in_err-judge.was)

pub judge_map-returns : goal.judge_map-returns
judge_map-returns t c = map_end c.loop-row.invariant c.in-None.ensures.steps

-- ---- judge_object

pub judge_object-row_at-value-requires : goal.judge_object-row_at-value-requires
judge_object-row_at-value-requires t c = in_table c.requires.given.document

pub judge_object-row_at-requires : goal.judge_object-row_at-requires
judge_object-row_at-requires t c = in_table c.requires.given.schema

pub judge_object-returns-in_err-unless : goal.judge_object-returns-in_err-unless
judge_object-returns-in_err-unless t c =
    let exit = err_from_is_err_and c.from_residual.result c.from_residual.ensures.1 in
    rw (exit.1, exit.2) (object_other c.requires c.row_at-value.ensures c.row_at.ensures c.unless.ensures c.in_err-unless.was)

pub judge_object-overflow_add-by : goal.judge_object-overflow_add-by
judge_object-overflow_add-by t c = omega (arith, (in_table (as_row (object_start c.requires c.row_at-value.ensures c.row_at.ensures c.unless.ensures c.in_ok-unless.was).body.object)).here, c.well_formed)

pub judge_object-find-required-requires : goal.judge_object-find-required-requires
judge_object-find-required-requires t c = (object_start c.requires c.row_at-value.ensures c.row_at.ensures c.unless.ensures c.in_ok-unless.was).body.object

pub judge_object-overflow_add-by-2 : goal.judge_object-overflow_add-by-2
judge_object-overflow_add-by-2 t c =
    omega (arith, (in_table (as_row (object_start c.requires c.row_at-value.ensures c.row_at.ensures c.unless.ensures c.in_ok-unless.was).body.object)).here, c.well_formed)

pub judge_object-find-optional-requires : goal.judge_object-find-optional-requires
judge_object-find-optional-requires t c = (object_start c.requires c.row_at-value.ensures c.row_at.ensures c.unless.ensures c.in_ok-unless.was).body.object

pub judge_object-judge_fields-requires : goal.judge_object-judge_fields-requires
judge_object-judge_fields-requires t c =
    let g = required_given (object_start c.requires c.row_at-value.ensures c.row_at.ensures c.unless.ensures c.in_ok-unless.was) (rw spelled.required at c.find-required.ensures) in
    (omega (arith, g.less, c.decreases), g.given)

pub judge_object-returns-in_err-judge_fields : goal.judge_object-returns-in_err-judge_fields
judge_object-returns-in_err-judge_fields t c =
    let exit = err_from_is_err_and c.from_residual-in_err-judge_fields.result c.from_residual-in_err-judge_fields.ensures.1 in
    rw (exit.1, exit.2)
    (required_stops (object_start c.requires c.row_at-value.ensures c.row_at.ensures c.unless.ensures c.in_ok-unless.was) (rw spelled.required at c.find-required.ensures)
    c.judge_fields.ensures c.in_err-judge_fields.was)

pub judge_object-judge_fields-requires-then-value-lt-FEW_NAMES : goal.judge_object-judge_fields-requires-then-value-lt-FEW_NAMES
judge_object-judge_fields-requires-then-value-lt-FEW_NAMES t c =
    let g = optional_given (object_start c.requires c.row_at-value.ensures c.row_at.ensures c.unless.ensures c.in_ok-unless.was) (rw spelled.optional at c.find-optional.ensures) in
    (omega (arith, g.less, c.decreases), g.given)

pub judge_object-returns-then-value-lt-FEW_NAMES : goal.judge_object-returns-then-value-lt-FEW_NAMES
judge_object-returns-then-value-lt-FEW_NAMES t c =
    optional_ends (object_start c.requires c.row_at-value.ensures c.row_at.ensures c.unless.ensures c.in_ok-unless.was) (rw spelled.required at c.find-required.ensures) c.judge_fields.ensures c.in_ok-judge_fields.was
    (rw spelled.optional at c.find-optional.ensures) c.judge_fields-then-value-lt-FEW_NAMES.ensures

pub judge_object-judge_wide-requires : goal.judge_object-judge_wide-requires
judge_object-judge_wide-requires t c =
    let g = required_given (object_start c.requires c.row_at-value.ensures c.row_at.ensures c.unless.ensures c.in_ok-unless.was) (rw spelled.required at c.find-required.ensures) in
    (omega (arith, g.less, c.decreases), g.given)

pub judge_object-returns-in_err-judge_wide : goal.judge_object-returns-in_err-judge_wide
judge_object-returns-in_err-judge_wide t c =
    let exit = err_from_is_err_and c.from_residual-in_err-judge_wide.result c.from_residual-in_err-judge_wide.ensures.1 in
    rw (exit.1, exit.2)
    (required_stops (object_start c.requires c.row_at-value.ensures c.row_at.ensures c.unless.ensures c.in_ok-unless.was) (rw spelled.required at c.find-required.ensures)
    c.judge_wide.ensures c.in_err-judge_wide.was)

pub judge_object-judge_wide-requires-2 : goal.judge_object-judge_wide-requires-2
judge_object-judge_wide-requires-2 t c =
    let g = optional_given (object_start c.requires c.row_at-value.ensures c.row_at.ensures c.unless.ensures c.in_ok-unless.was) (rw spelled.optional at c.find-optional.ensures) in
    (omega (arith, g.less, c.decreases), g.given)

pub judge_object-returns : goal.judge_object-returns
judge_object-returns t c =
    optional_ends (object_start c.requires c.row_at-value.ensures c.row_at.ensures c.unless.ensures c.in_ok-unless.was) (rw spelled.required at c.find-required.ensures) c.judge_wide.ensures c.in_ok-judge_wide.was
    (rw spelled.optional at c.find-optional.ensures) c.judge_wide-2.ensures

-- ---- judge_fields

pub judge_fields-loop-row-init : goal.judge_fields-loop-row-init
judge_fields-loop-row-init t c =
    rw (c.in-Some.is, c.into_iter-row-iterator.ensures.into_iter_gives) (fields_begin (rw c.in-Some.is at c.requires) c.members-row-items.ensures)

pub judge_fields-row_at-name-requires : goal.judge_fields-row_at-name-requires
judge_fields-row_at-name-requires t c = (field_here c.loop-row.invariant.ahead c.in-Some-row.ensures.steps).name

pub judge_fields-between-requires : goal.judge_fields-between-requires
judge_fields-between-requires t c = quotes_read c.row_at-name.ensures (field_here c.loop-row.invariant.ahead c.in-Some-row.ensures.steps).quoted

pub judge_fields-judge_field-requires : goal.judge_fields-judge_field-requires
judge_fields-judge_field-requires t c =
    let i = fields_sought c.loop-row.invariant c.in-Some-row.ensures.steps c.row_at-name.ensures c.between.ensures c.find-value.ensures in (omega (arith, (sought_field i).less, c.decreases), field_judgeable i)

pub judge_fields-loop-row-preserved : goal.judge_fields-loop-row-preserved
judge_fields-loop-row-preserved t c =
    field_next (fields_sought c.loop-row.invariant c.in-Some-row.ensures.steps c.row_at-name.ensures c.between.ensures c.find-value.ensures) c.judge_field.ensures c.in_ok-judge_field.was

pub judge_fields-returns-in_err-judge_field : goal.judge_fields-returns-in_err-judge_field
judge_fields-returns-in_err-judge_field t c =
    let exit = err_from_is_err_and c.from_residual.result c.from_residual.ensures.1 in
    rw (exit.1, exit.2)
    (field_fails (fields_sought c.loop-row.invariant c.in-Some-row.ensures.steps c.row_at-name.ensures c.between.ensures c.find-value.ensures) c.judge_field.ensures c.in_err-judge_field.was)

pub judge_fields-returns : goal.judge_fields-returns
judge_fields-returns t c = fields_judged c.loop-row.invariant c.in-None.ensures.steps

-- ---- judge_wide

pub judge_wide-judge_widest-requires : goal.judge_wide-judge_widest-requires
judge_wide-judge_widest-requires t c =
    let rows : part_rows c.args.schema.table.now c.args.fields ≡ word c.args.schema.table.now c.in-Some.object 4 =
    ap (part_rows c.args.schema.table.now) c.in-Some.is in
    let few : word c.args.schema.table.now c.in-Some.object 3 ≤ most_names =
    omega (arith, c.wide.ensures c.if-not-wide.false, c.row_at-names.ensures.children) in
    (omega (arith, rows, c.decreases), (rw c.in-Some.is at c.requires, few))

pub judge_wide-judge_found-requires : goal.judge_wide-judge_found-requires
judge_wide-judge_found-requires t c =
    let rows : part_rows c.args.schema.table.now c.args.fields ≡ word c.args.schema.table.now c.in-Some.object 4 =
    ap (part_rows c.args.schema.table.now) c.in-Some.is in
    let few : word c.args.schema.table.now c.in-Some.object 3 ≤ 1024 = omega (arith, c.if-names-gt-SOME_NAMES.false, c.row_at-names.ensures.children) in
    (omega (arith, rows, c.decreases), (rw c.in-Some.is at c.requires, room_found few c.match_names.ensures))

-- ---- judge_widest

pub judge_widest-judge_found-requires : goal.judge_widest-judge_found-requires
judge_widest-judge_found-requires t c = (omega (arith, c.decreases), (c.requires.judgeable, room_found c.requires.few c.match_names.ensures))

-- ---- judge_found

pub judge_found-loop-i-init : goal.judge_found-loop-i-init
judge_found-loop-i-init t c =
    rw (c.into_iter-i-iterator.ensures.into_iter_gives, c.enumerate-i-items.ensures.source, c.enumerate-i-items.ensures.count)
    (wide_start c.requires.judgeable c.members.ensures c.requires.few c.requires.matches)

pub judge_found-judge_field-requires : goal.judge_found-judge_field-requires
judge_found-judge_field-requires t c =
    let p = c.in-Some.ensures.steps in
    let i = wide_sought c.loop-i.invariant p.0 p.1 in
    (omega (arith, (sought_field i).less, c.decreases), field_judgeable i)

pub judge_found-loop-i-preserved : goal.judge_found-loop-i-preserved
judge_found-loop-i-preserved t c =
    let p = c.in-Some.ensures.steps in wide_next c.loop-i.invariant p.0 p.1 c.judge_field.ensures c.in_ok-judge_field.was p.2

pub judge_found-returns-in_err-judge_field : goal.judge_found-returns-in_err-judge_field
judge_found-returns-in_err-judge_field t c =
    let p = c.in-Some.ensures.steps in
    let exit = err_from_is_err_and c.from_residual.result c.from_residual.ensures.1 in
    rw (exit.1, exit.2) (field_fails (wide_sought c.loop-i.invariant p.0 p.1) c.judge_field.ensures c.in_err-judge_field.was)

pub judge_found-returns : goal.judge_found-returns
judge_found-returns t c = wide_end c.loop-i.invariant c.in-None.ensures.steps.0

-- ---- judge_field

pub judge_field-judge-requires : goal.judge_field-judge-requires
judge_field-judge-requires t c = (omega (arith, c.decreases), field_value (rw c.in-Some.is at c.requires))

pub judge_field-returns-in-Some : goal.judge_field-returns-in-Some
judge_field-returns-in-Some t c = rw c.in-Some.is (field_found c.judge.ensures)
