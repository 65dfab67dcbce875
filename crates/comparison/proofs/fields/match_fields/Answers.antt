-- `match_fields` meets its contract: what is found among the members is the field.
use Rattle.comparison.proofs.fields.Laws.{match_some}
use Rattle.comparison.proofs.fields.match_fields.Goals as goal

pub returns-in-Some : goal.returns-in-Some
returns-in-Some g c = match_some c.in-Some.is c.match_names.ensures
