use mathlib.Core.Path.{◌≡◌, refl, sym, ap, ◌∙◌}
use mathlib.Core.Bool.{true≢false}
use native.Mathlib.Omega.{arith}
use Rattle.std.proofs.Common.{rules, Some, false}
use Rattle.definitions.specs.Shapes.{GenericRow}
use Rattle.definitions.specs.declared.types.Generic.TheVariants.{Array}
use Rattle.syntax.specs.Holding.{word}
use Rattle.definitions.proofs.Facts.{find_required, find_optional, part_rows}
use Rattle.rows.proofs.Facts.{in_table, quotes_read}
use Rattle.comparison.proofs.carrying.TypeNames.{by_name}
use Rattle.comparison.proofs.carrying.Shapes.{is_array, array_less, array_pair, array_array, array_other, map_less, map_old}
use Rattle.comparison.proofs.carrying.Shapes.{map_pair, map_map, map_object, map_other, object_row, object_in, object_other}
use Rattle.comparison.proofs.carrying.Shapes.{object_less, required_pair, optional_pair, object_fails, object_ends}
use Rattle.comparison.proofs.carrying.Fields.{failing_start, failing_end, field_less, field_pair, field_fails}
use Rattle.comparison.proofs.carrying.Fields.{field_next, wide_start, wide_found, wide_next}
use Rattle.comparison.proofs.carrying.Fields.{found_pair, field_carried}
use Rattle.comparison.proofs.carrying.+carried_carried_field_carried_found_carried_to_array_carried_to_map_carried_to_object_failing_field_failing_found_failing_wide_failing_widest.Goals.{carried_to_object-then-of_objects, carried_to_object-else-of_objects}
use Rattle.comparison.proofs.carrying.+carried_carried_field_carried_found_carried_to_array_carried_to_map_carried_to_object_failing_field_failing_found_failing_wide_failing_widest.Goals as goal

-- ---- carried

pub carried-returns-in-None : goal.carried-returns-in-None
carried-returns-in-None t c = by_name c.in-None.ensures c.type_at.ensures c.type_at-in-None.ensures c.carried_name.ensures

-- ---- carried_field

pub carried_field-between-key-requires : goal.carried_field-between-key-requires
carried_field-between-key-requires t c = quotes_read c.row_at-name.ensures c.requires.quoted

-- ---- carried_found

pub carried_found-carried-requires : goal.carried_found-carried-requires
carried_found-carried-requires t c = (omega arith, found_pair (rw c.in-Some.is at c.requires.finds_under) c.requires.field_pairing)

pub carried_found-returns-in-Some : goal.carried_found-returns-in-Some
carried_found-returns-in-Some t c = field_carried (rw c.in-Some.is at c.requires.finds_under) c.carried.ensures

-- ---- carried_to_array

pub carried_to_array-overflow_add-a : goal.carried_to_array-overflow_add-a
carried_to_array-overflow_add-a t c =
    let h : GenericRow c.args.new.text.now c.args.new.table.now c.args.a (Some Array) = search rules in
    omega (arith, (in_table (array_pair c.requires h c.requires.given).new.row).here)

pub carried_to_array-overflow_add-b : goal.carried_to_array-overflow_add-b
carried_to_array-overflow_add-b t c =
    let h : GenericRow c.args.new.text.now c.args.new.table.now c.args.a (Some Array) = search rules in
    omega (arith, (in_table (array_pair c.requires h c.requires.given).old.row).here)

pub carried_to_array-carried-requires : goal.carried_to_array-carried-requires
carried_to_array-carried-requires t c =
    let h : GenericRow c.args.new.text.now c.args.new.table.now c.args.a (Some Array) = search rules in
    (omega (arith, array_less c.requires), array_pair c.requires h c.requires.given)

pub carried_to_array-returns-then-eq : goal.carried_to_array-returns-then-eq
carried_to_array-returns-then-eq t c =
    let h : GenericRow c.args.new.text.now c.args.new.table.now c.args.a (Some Array) = search rules in
    array_array c.requires h c.carried.ensures

pub carried_to_array-returns-else-eq : goal.carried_to_array-returns-else-eq
carried_to_array-returns-else-eq t c =
    let h : is_array c.generic_at.result ≡ false = search rules in
    rw c.if-eq.false (array_other c.requires c.generic_at.ensures h)

-- ---- carried_to_map

pub carried_to_map-overflow_add-a : goal.carried_to_map-overflow_add-a
carried_to_map-overflow_add-a t c =
    omega (arith, (in_table (map_pair c.requires (rw c.in-Some-Map.field-0-is at c.in-Some-Map.ensures) c.requires.given).new.row).here)

pub carried_to_map-overflow_add-b : goal.carried_to_map-overflow_add-b
carried_to_map-overflow_add-b t c = omega (arith, (in_table (map_old c.requires c.requires.given.old).row).here)

pub carried_to_map-carried-requires : goal.carried_to_map-carried-requires
carried_to_map-carried-requires t c =
    (omega (arith, map_less c.requires), map_pair c.requires (rw c.in-Some-Map.field-0-is at c.in-Some-Map.ensures) c.requires.given)

pub carried_to_map-overflow_add-b-in-Some-Object : goal.carried_to_map-overflow_add-b-in-Some-Object
carried_to_map-overflow_add-b-in-Some-Object t c = omega (arith, (in_table (map_old c.requires c.requires.given.old).row).here)

pub carried_to_map-is_json-requires : goal.carried_to_map-is_json-requires
carried_to_map-is_json-requires t c = map_old c.requires c.requires.given.old

pub carried_to_map-returns-in-Some-Map : goal.carried_to_map-returns-in-Some-Map
carried_to_map-returns-in-Some-Map t c = map_map c.requires (rw c.in-Some-Map.field-0-is at c.in-Some-Map.ensures) c.carried.ensures

pub carried_to_map-returns-in-Some-Object : goal.carried_to_map-returns-in-Some-Object
carried_to_map-returns-in-Some-Object t c = map_object c.requires (rw c.in-Some-Object.field-0-is at c.in-Some-Object.ensures) c.is_json.ensures

pub carried_to_map-returns-in-Some-Array : goal.carried_to_map-returns-in-Some-Array
carried_to_map-returns-in-Some-Array t c = map_other c.requires c.in-Some-Array.ensures (rw c.in-Some-Array.field-0-is)

pub carried_to_map-returns-in-None : goal.carried_to_map-returns-in-None
carried_to_map-returns-in-None t c = map_other c.requires c.in-None.ensures refl

-- ---- carried_to_object

pub carried_to_object-overflow_add-b : goal.carried_to_object-overflow_add-b
carried_to_object-overflow_add-b t c = omega (arith, (object_in c.requires).here)

pub carried_to_object-find-requires : goal.carried_to_object-find-requires
carried_to_object-find-requires t c = object_row c.requires

pub carried_to_object-failing_field-requires : goal.carried_to_object-failing_field-requires
carried_to_object-failing_field-requires t c =
    let f = find_required c.find.ensures in (omega (arith, object_less c.requires f), required_pair c.requires f c.requires.given)

pub carried_to_object-overflow_add-b-then-is_none : goal.carried_to_object-overflow_add-b-then-is_none
carried_to_object-overflow_add-b-then-is_none t c = omega (arith, (object_in c.requires).here)

pub carried_to_object-find-requires-then-is_none : goal.carried_to_object-find-requires-then-is_none
carried_to_object-find-requires-then-is_none t c = object_row c.requires

pub carried_to_object-failing_field-requires-then-is_none : goal.carried_to_object-failing_field-requires-then-is_none
carried_to_object-failing_field-requires-then-is_none t c =
    let f = find_optional c.find-then-is_none.ensures in (omega (arith, object_less c.requires f), optional_pair c.requires f c.requires.given)

pub carried_to_object-returns-then-is_none : goal.carried_to_object-returns-then-is_none
carried_to_object-returns-then-is_none t c =
    elim c.if-of_objects.branch [
      | carried_to_object-then-of_objects w ↦
          object_ends c.requires w.if-of_objects.ensures (find_required w.find.ensures) w.failing_field.ensures w.is_none.result w.is_none.ensures
          (sym w.value-is ∙ c.if-is_none.true)
          (find_optional c.find-then-is_none.ensures) c.failing_field-then-is_none.ensures _ c.is_none-then-is_none.ensures
      | carried_to_object-else-of_objects w ↦ absurd (true≢false (sym c.if-is_none.true ∙ w.value-is ∙ w.if-of_objects.false))
    ]

pub carried_to_object-returns-else-is_none : goal.carried_to_object-returns-else-is_none
carried_to_object-returns-else-is_none t c =
    rw c.if-is_none.false (elim c.if-of_objects.branch [
      | carried_to_object-then-of_objects w ↦
          object_fails c.requires w.if-of_objects.ensures (find_required w.find.ensures) w.failing_field.ensures w.is_none.result w.is_none.ensures
          (sym w.value-is ∙ c.if-is_none.false)
      | carried_to_object-else-of_objects w ↦ object_other c.requires w.if-of_objects.ensures
    ])

-- ---- failing_field

pub failing_field-loop-row-init : goal.failing_field-loop-row-init
failing_field-loop-row-init t c =
    rw c.into_iter-row-iterator.ensures.into_iter_gives (failing_start (rw c.in_ok-object.was at c.requires) c.members-row-items.ensures)

pub failing_field-carried_field-requires : goal.failing_field-carried_field-requires
failing_field-carried_field-requires t c =
    let rows : part_rows c.args.old.table.now c.args.fields ≡ word c.args.old.table.now c.in_ok-object.object 4 =
    ap (part_rows c.args.old.table.now) c.in_ok-object.was in
    (omega (arith, field_less c.loop-row.invariant c.in-Some.ensures.steps), field_pair c.loop-row.invariant c.in-Some.ensures.steps)

pub failing_field-returns-then-not-carried_field : goal.failing_field-returns-then-not-carried_field
failing_field-returns-then-not-carried_field t c =
    rw c.in_ok-object.was (field_fails c.loop-row.invariant c.in-Some.ensures.steps c.if-not-carried_field.ensures)

pub failing_field-loop-row-preserved : goal.failing_field-loop-row-preserved
failing_field-loop-row-preserved t c = field_next c.loop-row.invariant c.in-Some.ensures.steps c.if-not-carried_field.ensures

pub failing_field-returns : goal.failing_field-returns
failing_field-returns t c = rw c.in_ok-object.was (failing_end c.loop-row.invariant c.in-None.ensures.steps)

-- ---- failing_found

pub failing_found-loop-i-init : goal.failing_found-loop-i-init
failing_found-loop-i-init t c =
    rw (c.into_iter-i-iterator.ensures.into_iter_gives, c.enumerate-i-items.ensures.source, c.enumerate-i-items.ensures.count)
    (wide_start c.requires.fields_pairing c.members.ensures c.requires.few c.requires.matches)

pub failing_found-carried_found-requires : goal.failing_found-carried_found-requires
failing_found-carried_found-requires t c = (
  omega (arith, field_less c.loop-i.invariant.ahead c.in-Some.ensures.steps.0),
  (field_pair c.loop-i.invariant.ahead c.in-Some.ensures.steps.0, rw c.in-Some.ensures.steps.1 (wide_found c.loop-i.invariant c.in-Some.ensures.steps.0)),
)

pub failing_found-returns-then-not-carried_found : goal.failing_found-returns-then-not-carried_found
failing_found-returns-then-not-carried_found t c =
    field_fails c.loop-i.invariant.ahead c.in-Some.ensures.steps.0 c.if-not-carried_found.ensures

pub failing_found-loop-i-preserved : goal.failing_found-loop-i-preserved
failing_found-loop-i-preserved t c =
    rw c.in-Some.ensures.steps.2 (wide_next c.loop-i.invariant c.in-Some.ensures.steps.0 c.if-not-carried_found.ensures)

pub failing_found-returns : goal.failing_found-returns
failing_found-returns t c = failing_end c.loop-i.invariant.ahead c.in-None.ensures.steps.0
