-- `climb` meets its contract. Invariant: the rows passed are listed, and the sixth words lead on from `row`. Measure: that row.
use Rattle.schema.proofs.paths.Laws.{OnTheWay}
use Rattle.schema.proofs.paths.climb.Given as goal

abbrev pub invariant-loop-row : goal.invariant-loop-row
invariant-loop-row l = OnTheWay l.table l.from l.initial.path l.path l.row l.n

abbrev pub decreases-loop-row : goal.decreases-loop-row
decreases-loop-row l = l.row
