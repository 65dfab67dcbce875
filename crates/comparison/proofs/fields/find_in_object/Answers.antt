-- `find_in_object` meets its contract: a required name goes before an optional one.
use native.Mathlib.Omega.{arith}
use Rattle.model.proofs.Basics.{never}
use Rattle.definitions.proofs.Facts.{find_required, find_optional, object_body, body_in, required_fields, optional_fields}
use Rattle.comparison.proofs.fields.Laws.{in_required, in_first, in_either}
use Rattle.comparison.proofs.fields.find_in_object.Goals.{then-required-via-then-required, then-required-via-else-required+then-is_some}
use Rattle.comparison.proofs.fields.find_in_object.Goals as goal

pub overflow_add-row : goal.overflow_add-row
overflow_add-row c = omega (arith, (body_in c.requires.generic_row c.requires.defined_row).here)

pub find-requires : goal.find-requires
find-requires c = object_body c.requires.generic_row c.requires.defined_row

pub find_field-found-requires : goal.find_field-found-requires
find_field-found-requires c = required_fields c.requires.generic_row (find_required c.find.ensures) c.requires.defined_row

pub returns-then-required : goal.returns-then-required
returns-then-required c =
    elim c.then-required.branch [
      | then-required-via-then-required w ↦ in_required c.requires.generic_row (find_required c.find.ensures) c.find_field-found.ensures w.if-required.true
      | then-required-via-else-required+then-is_some w ↦
          in_first c.requires.generic_row (find_required c.find.ensures) c.find_field-found.ensures w.if-is_some.ensures
    ]

pub overflow_add-row-2 : goal.overflow_add-row-2
overflow_add-row-2 c = omega (arith, (body_in c.requires.generic_row c.requires.defined_row).here)

pub find-requires-2 : goal.find-requires-2
find-requires-2 c = object_body c.requires.generic_row c.requires.defined_row

pub find_field-requires : goal.find_field-requires
find_field-requires c = optional_fields c.requires.generic_row (find_optional c.find-2.ensures) c.requires.defined_row

pub returns : goal.returns
returns c =
    in_either c.requires.generic_row (find_required c.find.ensures) c.find_field-found.ensures c.if-required.false
    (find_optional c.find-2.ensures) (λ _. c.find_field.ensures) (λ u e. never (let z = rw e at c.if-is_some.ensures in cc))
