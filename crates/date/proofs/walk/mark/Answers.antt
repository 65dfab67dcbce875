-- `date::walk::mark` meets its contract, with the mark.
use mathlib.Core.Path.{◌∙◌}
use Rattle.date.proofs.walk.Laws.{mark_told}
use Rattle.date.proofs.walk.mark.Goals as goal

pub returns : goal.returns
returns c = λ l k e. mark_told _ l k _ _ (c.in_ok-value.ensures l k e) _ (c.if-value-from.false ∙ c.from.ensures)
