-- `write_letters` meets its contract. The loop's invariant: what is written is a beginning of the fresh name.
use Prim.Native.Nat.{◌-◌}
use lib.ListN.{length}
use Rattle.samples.proofs.fresh.Laws.{Lettering}
use Rattle.samples.proofs.fresh.write_letters.Given as goal

abbrev pub invariant-loop-out : goal.invariant-loop-out
invariant-loop-out l = Lettering l.tree.text.now l.tree.table.now l.row l.initial.out l.n l.out

abbrev pub decreases-loop-out : goal.decreases-loop-out
decreases-loop-out l = length l.initial.out - l.n
