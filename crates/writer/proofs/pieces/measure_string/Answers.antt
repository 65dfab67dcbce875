use native.Mathlib.Omega.{arith}
use Rattle.tokens.proofs.Facts.{quoted_bounds}
use Rattle.writer.proofs.pieces.Laws.{in_opened, in_whole, in_less, in_piece}
use Rattle.writer.proofs.pieces.measure_string.Goals as goal

pub overflow_add-i : goal.overflow_add-i
overflow_add-i c = omega (arith, quoted_bounds c.requires)

pub loop-p-init : goal.loop-p-init
loop-p-init c = in_opened c.requires

pub loop-p-smaller : goal.loop-p-smaller
loop-p-smaller c = in_less c.loop-p.invariant (omega arith) c.measure_stretch-p.ensures

-- behind the stretch
pub loop-p-preserved : goal.loop-p-preserved
loop-p-preserved c = in_piece c.loop-p.invariant (omega arith) c.measure_stretch-p.ensures

pub overflow_add-n : goal.overflow_add-n
overflow_add-n c = omega (arith, (loop-p-preserved c).small)

pub returns : goal.returns
returns c = in_whole c.loop-p.invariant (omega arith)
