-- `fill` meets its contract. Invariant: the rows of the marks passed are stored, and the marks say where to go on.
use Rattle.marks.proofs.filling.Laws.{Reached}
use Rattle.marks.proofs.filling.fill.Given as goal

abbrev pub invariant-loop-row : goal.invariant-loop-row
invariant-loop-row l = Reached l.initial.marks l.initial.table l.rows l.marks l.table l.row l.parent l.end
