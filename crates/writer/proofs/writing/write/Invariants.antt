-- `writer::writing::write` meets its contract. The loop's invariant: the tokens up to i are written, n bytes, and the next one stands at i.
use Prim.Native.Nat.{◌-◌}
use lib.ListN.{length}
use Rattle.writer.proofs.writing.Laws.{AlongBuffer}
use Rattle.writer.proofs.writing.write.Given as goal

abbrev pub invariant-loop-i : goal.invariant-loop-i
invariant-loop-i l = AlongBuffer l.text l.initial.out l.i l.n l.out

abbrev pub decreases-loop-i : goal.decreases-loop-i
decreases-loop-i l = length l.text - l.i
