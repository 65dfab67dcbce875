-- `writer::writing::measure` meets its contract. The loop's invariant: n bytes are written for the tokens up to i, where the next one stands.
use Prim.Native.Nat.{◌-◌}
use lib.ListN.{length}
use Rattle.writer.proofs.writing.Laws.{Along}
use Rattle.writer.proofs.writing.measure.Given as goal

abbrev pub invariant-loop-i : goal.invariant-loop-i
invariant-loop-i l = Along l.text l.i l.n

abbrev pub decreases-loop-i : goal.decreases-loop-i
decreases-loop-i l = length l.text - l.i
