-- `find_field` meets its contract: what is looked up among the members is the field.
use Rattle.comparison.proofs.fields.Laws.{field_found}
use Rattle.comparison.proofs.fields.find_field.Goals as goal

pub returns : goal.returns
returns c = field_found c.in_ok-fields.was c.find.ensures
