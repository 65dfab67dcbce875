-- `wide_object` meets its contract: one of the parts has many names.
use native.Mathlib.Omega.{arith}
use Rattle.definitions.proofs.Facts.{find_required, find_optional, object_body, body_in, required_fields, optional_fields}
use Rattle.comparison.proofs.fields.wide_object.Goals as goal

pub overflow_add-row : goal.overflow_add-row
overflow_add-row c = omega (arith, (body_in c.requires.generic_row c.requires.defined_row).here)

pub find-requires : goal.find-requires
find-requires c = object_body c.requires.generic_row c.requires.defined_row

pub wide_part-requires : goal.wide_part-requires
wide_part-requires c = required_fields c.requires.generic_row (find_required c.find.ensures) c.requires.defined_row

pub overflow_add-row-else-wide_part : goal.overflow_add-row-else-wide_part
overflow_add-row-else-wide_part c = omega (arith, (body_in c.requires.generic_row c.requires.defined_row).here)

pub find-requires-else-wide_part : goal.find-requires-else-wide_part
find-requires-else-wide_part c = object_body c.requires.generic_row c.requires.defined_row

pub wide_part-requires-else-wide_part : goal.wide_part-requires-else-wide_part
wide_part-requires-else-wide_part c = optional_fields c.requires.generic_row (find_optional c.find-else-wide_part.ensures) c.requires.defined_row
