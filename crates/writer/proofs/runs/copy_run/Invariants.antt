-- `copy_run` meets its contract. The loop's invariant: the run goes on at i, and its bytes up to there are written.
use Rattle.writer.proofs.runs.Laws.{Copying}
use Rattle.writer.proofs.runs.copy_run.Given as goal

abbrev pub invariant-loop-i : goal.invariant-loop-i
invariant-loop-i g l = Copying g.test l.text l.at l.initial.out l.i l.out
