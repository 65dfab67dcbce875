use native.Mathlib.Omega.{arith}
use Rattle.writer.proofs.Tokens.{tokens_string}
use Rattle.writer.proofs.writing.Laws.{along_none, along_end, along_string, string_less, along_byte, byte_less}
use Rattle.writer.proofs.writing.measure.Goals as goal

pub loop-i-init : goal.loop-i-init
loop-i-init c = along_none c.requires.tokens c.skip-i.ensures

pub measure_string-p-requires : goal.measure_string-p-requires
measure_string-p-requires c = (tokens_string c.loop-i.invariant.tokens c.if-text-i-eq34.true).is_quoted

pub loop-i-smaller-then-text-i-eq34 : goal.loop-i-smaller-then-text-i-eq34
loop-i-smaller-then-text-i-eq34 c =
    string_less c.loop-i.invariant (omega arith) (omega arith) c.measure_string-p.ensures c.skip-i-then-text-i-eq34.ensures

-- behind it: the invariant again, and less of the text is left
pub loop-i-preserved-then-text-i-eq34 : goal.loop-i-preserved-then-text-i-eq34
loop-i-preserved-then-text-i-eq34 c =
    along_string c.loop-i.invariant (omega arith) (omega arith) c.measure_string-p.ensures c.skip-i-then-text-i-eq34.ensures

pub overflow_add-n : goal.overflow_add-n
overflow_add-n c = omega (arith, (loop-i-preserved-then-text-i-eq34 c).small)

pub loop-i-smaller : goal.loop-i-smaller
loop-i-smaller c = byte_less c.loop-i.invariant (omega arith) (omega arith) c.skip-i-else-text-i-eq34.ensures

-- behind another byte
pub loop-i-preserved : goal.loop-i-preserved
loop-i-preserved c = along_byte c.loop-i.invariant (omega arith) (omega arith) c.skip-i-else-text-i-eq34.ensures

pub overflow_add-n-else-text-i-eq34 : goal.overflow_add-n-else-text-i-eq34
overflow_add-n-else-text-i-eq34 c = omega (arith, (loop-i-preserved c).small)

pub returns : goal.returns
returns c = along_end c.loop-i.invariant c.loop-i-test.false
