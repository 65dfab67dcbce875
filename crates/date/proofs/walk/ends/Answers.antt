-- `date::walk::ends` meets its contract.
use Rattle.date.proofs.walk.Laws.{end_told}
use Rattle.date.proofs.walk.ends.Goals as goal

pub returns : goal.returns
returns c = λ l k e. end_told _ l k _ (c.character.ensures l k e) _ c.is_none.ensures
