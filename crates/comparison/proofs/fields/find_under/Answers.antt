-- `find_under` meets its contract: each generic type.
use native.Mathlib.Omega.{arith}
use Rattle.comparison.proofs.fields.Laws.{map_inside, under_array, under_name, under_map}
use Rattle.comparison.proofs.fields.find_under.Goals as goal

pub overflow_add-row : goal.overflow_add-row
overflow_add-row c = omega (arith, (map_inside (rw c.in-Some-Map.field-0-is at c.in-Some-Map.ensures) c.requires).here)

pub returns-in-Some-Map : goal.returns-in-Some-Map
returns-in-Some-Map c = under_map (rw c.in-Some-Map.field-0-is at c.in-Some-Map.ensures) c.then_some.ensures

pub returns-in-Some-Array : goal.returns-in-Some-Array
returns-in-Some-Array c = under_array (rw c.in-Some-Array.field-0-is at c.in-Some-Array.ensures)

pub returns-in-None : goal.returns-in-None
returns-in-None c = under_name (rw c.in-None.is at c.generic_at.ensures)
