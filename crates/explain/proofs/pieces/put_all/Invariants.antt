-- `explain::pieces::put_all` meets its contract. Invariant: the bytes passed are put.
use Rattle.explain.proofs.pieces.Buffers.{PutsTo}
use Rattle.explain.proofs.pieces.put_all.Given as goal

abbrev pub invariant-loop-i : goal.invariant-loop-i
invariant-loop-i l = PutsTo l.bytes l.at l.i l.initial.out l.out
