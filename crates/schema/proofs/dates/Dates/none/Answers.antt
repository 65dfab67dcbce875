use Rattle.schema.proofs.dates.Laws.{tallied_none}
use Rattle.schema.proofs.dates.Dates.none.Goals as goal

pub returns : goal.returns
returns c = tallied_none
