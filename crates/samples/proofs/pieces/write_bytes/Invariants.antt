-- `samples::pieces::write_bytes` meets its contract. The loop's invariant: the first i bytes are written.
use Rattle.samples.proofs.pieces.Copied.{Copied}
use Rattle.samples.proofs.pieces.write_bytes.Given as goal

abbrev pub invariant-loop-i : goal.invariant-loop-i
invariant-loop-i l = Copied l.bytes l.initial.out l.i l.out
