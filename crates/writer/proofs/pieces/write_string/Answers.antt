use mathlib.Core.Path.{refl, ◌∙◌}
use native.Mathlib.Omega.{arith}
use lib.ListN.{length-set}
use Rattle.tokens.proofs.Facts.{quoted_bounds}
use Rattle.writer.proofs.pieces.Laws.{in_less, buffer_opened, buffer_lends, buffer_piece, buffer_whole}
use Rattle.writer.proofs.pieces.write_string.Goals as goal

pub overflow_add-i : goal.overflow_add-i
overflow_add-i c = omega (arith, quoted_bounds c.requires.0)

pub loop-out-init : goal.loop-out-init
loop-out-init c = buffer_opened c.args.out.now c.requires

pub write_stretch-p-requires : goal.write_stretch-p-requires
write_stretch-p-requires c = buffer_lends c.loop-out.invariant (omega arith)

pub loop-out-smaller : goal.loop-out-smaller
loop-out-smaller c = in_less c.loop-out.invariant.string (omega arith) c.write_stretch-p.ensures.value

-- behind the stretch
pub loop-out-preserved : goal.loop-out-preserved
loop-out-preserved c =
    buffer_piece c.loop-out.invariant (omega arith) (c.write_stretch-p.ensures.value, c.write_stretch-p.ensures.out_after)

pub overflow_add-n : goal.overflow_add-n
overflow_add-n c = omega (arith, (loop-out-preserved c).string.small)

pub shape_of-out : goal.shape_of-out
shape_of-out c = simp length-set (c.loop-out.invariant.same ∙ simp length-set)

pub returns : goal.returns
returns c =
    let w = buffer_whole c.loop-out.invariant (omega arith) c.args.out.now refl in record { value = w.0; out_after = w.1 }
