-- `count_names` meets its contract: the names of both parts.
use native.Mathlib.Omega.{arith}
use Rattle.definitions.proofs.Facts.{object_body, body_in}
use Rattle.samples.proofs.fresh.Laws.{required_found, optional_found, count_few, count_both}
use Rattle.samples.proofs.fresh.count_names.Goals as goal

pub overflow_add-row : goal.overflow_add-row
overflow_add-row c = omega (arith, (body_in c.requires.generic_row c.requires.defined_row).here)

pub find-requires : goal.find-requires
find-requires c = object_body c.requires.generic_row c.requires.defined_row

pub count_fields-requires : goal.count_fields-requires
count_fields-requires c = required_found c.requires.generic_row c.requires.defined_row c.find.ensures

pub overflow_add-row-2 : goal.overflow_add-row-2
overflow_add-row-2 c = omega (arith, (body_in c.requires.generic_row c.requires.defined_row).here)

pub find-requires-2 : goal.find-requires-2
find-requires-2 c = object_body c.requires.generic_row c.requires.defined_row

pub count_fields-requires-2 : goal.count_fields-requires-2
count_fields-requires-2 c = optional_found c.requires.generic_row c.requires.defined_row c.find-2.ensures

-- both counts are small
pub overflow_add-result : goal.overflow_add-result
overflow_add-result c =
    let p = required_found c.requires.generic_row c.requires.defined_row c.find.ensures in
    let q = optional_found c.requires.generic_row c.requires.defined_row c.find-2.ensures in
    omega (arith, count_few p c.count_fields.ensures, count_few q c.count_fields-2.ensures, c.well_formed)

pub returns : goal.returns
returns c = count_both c.requires.generic_row c.find.ensures c.find-2.ensures c.count_fields.ensures c.count_fields-2.ensures
