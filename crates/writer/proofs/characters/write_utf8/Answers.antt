-- `writer::characters::write_utf8` meets its contract: each way by the law of its bytes, which are stored one behind the other.
use mathlib.Core.Path.{ap}
use native.Mathlib.Omega.{arith}
use lib.ListN.{length, length-set}
use Rattle.writer.proofs.Over.{over_as}
use Rattle.writer.proofs.characters.Laws.{utf8_one, utf8_two, utf8_three, utf8_four}
use Rattle.writer.proofs.characters.write_utf8.Goals as goal

pub bounds-out-0 : goal.bounds-out-0
bounds-out-0 c = omega (arith, ap length (utf8_one _ c.if-c-lt128.true))

pub returns-then-c-lt128 : goal.returns-then-c-lt128
returns-then-c-lt128 c =
    let w = over_as _ (utf8_one _ (omega arith)) (omega arith) in record { value = w.0; out_after = w.1 }

pub bounds-out-0-then-c-lt2048 : goal.bounds-out-0-then-c-lt2048
bounds-out-0-then-c-lt2048 c = omega (arith, ap length (utf8_two _ (omega arith) c.if-c-lt2048.true))

pub bounds-out-1 : goal.bounds-out-1
bounds-out-1 c = simp length-set (omega (arith, ap length (utf8_two _ (omega arith) c.if-c-lt2048.true)))

pub returns-then-c-lt2048 : goal.returns-then-c-lt2048
returns-then-c-lt2048 c =
    let w = over_as _ (utf8_two _ (omega arith) (omega arith)) (omega arith) in record { value = w.0; out_after = w.1 }

pub bounds-out-0-then-c-lt65536 : goal.bounds-out-0-then-c-lt65536
bounds-out-0-then-c-lt65536 c = omega (arith, ap length (utf8_three _ (omega arith) c.if-c-lt65536.true))

pub bounds-out-1-then-c-lt65536 : goal.bounds-out-1-then-c-lt65536
bounds-out-1-then-c-lt65536 c = simp length-set (omega (arith, ap length (utf8_three _ (omega arith) c.if-c-lt65536.true)))

pub bounds-out-2 : goal.bounds-out-2
bounds-out-2 c = simp length-set (omega (arith, ap length (utf8_three _ (omega arith) c.if-c-lt65536.true)))

pub returns-then-c-lt65536 : goal.returns-then-c-lt65536
returns-then-c-lt65536 c =
    let w = over_as _ (utf8_three _ (omega arith) (omega arith)) (omega arith) in record { value = w.0; out_after = w.1 }

pub bounds-out-0-2 : goal.bounds-out-0-2
bounds-out-0-2 c = omega (arith, ap length (utf8_four _ c.if-c-lt65536.false))

pub bounds-out-1-2 : goal.bounds-out-1-2
bounds-out-1-2 c = simp length-set (omega (arith, ap length (utf8_four _ c.if-c-lt65536.false)))

pub bounds-out-2-2 : goal.bounds-out-2-2
bounds-out-2-2 c = simp length-set (omega (arith, ap length (utf8_four _ c.if-c-lt65536.false)))

pub bounds-out-3 : goal.bounds-out-3
bounds-out-3 c = simp length-set (omega (arith, ap length (utf8_four _ c.if-c-lt65536.false)))

pub returns : goal.returns
returns c =
    let w = over_as _ (utf8_four _ (omega arith)) (omega arith) in record { value = w.0; out_after = w.1 }
