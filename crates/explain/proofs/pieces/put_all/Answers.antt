use native.Mathlib.Omega.{arith}
use Rattle.explain.proofs.pieces.Buffers.{puts_one}
use Rattle.explain.proofs.pieces.put_all.Goals as goal

pub loop-i-preserved : goal.loop-i-preserved
loop-i-preserved c = puts_one _ _ _ (omega arith) c.loop-i.invariant c.put.ensures
