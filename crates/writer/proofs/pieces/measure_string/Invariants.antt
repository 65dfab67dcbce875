-- `writer::pieces::measure_string` meets its contract. The loop's invariant: the string goes on at i, and n bytes are written up to there.
use Prim.Native.Nat.{◌-◌}
use lib.ListN.{length}
use Rattle.writer.proofs.pieces.Laws.{InString}
use Rattle.writer.proofs.pieces.measure_string.Given as goal

abbrev pub invariant-loop-p : goal.invariant-loop-p
invariant-loop-p l = InString l.text l.at l.i l.n

abbrev pub decreases-loop-p : goal.decreases-loop-p
decreases-loop-p l = length l.text - l.i
