use native.Mathlib.Omega.{arith}
use Rattle.samples.proofs.pieces.Copied.{copied_none, copied_length, copied_next, copied_all}
use Rattle.samples.proofs.pieces.write_bytes.Goals as goal

pub loop-i-init : goal.loop-i-init
loop-i-init c = copied_none

pub bounds-out-i : goal.bounds-out-i
bounds-out-i c = omega (arith, c.requires, copied_length c.loop-i.invariant c.requires)

pub loop-i-preserved : goal.loop-i-preserved
loop-i-preserved c = copied_next c.loop-i.invariant c.requires (omega arith)

pub returns : goal.returns
returns c = copied_all c.loop-i.invariant (omega arith)
