-- `of_objects` meets its contract: each generic type, and none.
use Rattle.definitions.proofs.shapes.Laws.{no_generic, no_objects, objects}
use Rattle.definitions.proofs.shapes.of_objects.Goals as goal

pub returns-in-Map : goal.returns-in-Map
returns-in-Map c = objects c.generic_at.ensures c.in-Some.is c.in-Map.is

pub returns-in_default : goal.returns-in_default
returns-in_default c = no_objects c.generic_at.ensures c.in-Some.is c.in_default.is

pub returns-in-None : goal.returns-in-None
returns-in-None c = no_generic c.generic_at.ensures c.in-None.is
