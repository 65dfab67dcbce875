use native.Mathlib.Omega.{arith}
use Rattle.writer.proofs.writing.Laws.{token_less, buffer_none, buffer_end, buffer_lends, buffer_token}
use Rattle.writer.proofs.writing.write.Goals as goal

pub loop-i-init : goal.loop-i-init
loop-i-init c = buffer_none c.requires c.skip-i.ensures

pub write_token-p-requires : goal.write_token-p-requires
write_token-p-requires c = buffer_lends c.loop-i.invariant (omega arith)

pub loop-i-smaller : goal.loop-i-smaller
loop-i-smaller c =
    token_less c.loop-i.invariant.along (omega arith) c.write_token-p.ensures.value c.skip-i-in-loop-i.ensures

-- behind the token
pub loop-i-preserved : goal.loop-i-preserved
loop-i-preserved c =
    buffer_token c.loop-i.invariant (omega arith) (c.write_token-p.ensures.value, c.write_token-p.ensures.out_after) c.skip-i-in-loop-i.ensures

pub overflow_add-n : goal.overflow_add-n
overflow_add-n c = omega (arith, (loop-i-preserved c).along.small)

pub shape_of-out : goal.shape_of-out
shape_of-out c = c.loop-i.invariant.same

pub returns : goal.returns
returns c = buffer_end c.loop-i.invariant c.loop-i-test.false
