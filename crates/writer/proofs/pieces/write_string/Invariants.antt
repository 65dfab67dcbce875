-- `writer::pieces::write_string` meets its contract. The loop's invariant: the string goes on at i, and what is spelled up to there is written, n bytes.
use Prim.Native.Nat.{◌-◌}
use lib.ListN.{length}
use Rattle.writer.proofs.pieces.Laws.{InBuffer}
use Rattle.writer.proofs.pieces.write_string.Given as goal

abbrev pub invariant-loop-out : goal.invariant-loop-out
invariant-loop-out l = InBuffer l.text l.at l.initial.out l.i l.n l.out

abbrev pub decreases-loop-out : goal.decreases-loop-out
decreases-loop-out l = length l.text - l.i
