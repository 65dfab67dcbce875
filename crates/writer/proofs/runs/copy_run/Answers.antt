use native.Mathlib.Omega.{arith}
use Rattle.model.proofs.Basics.{fails, passes}
use Rattle.chars.proofs.Facts.{run_end, run_stop}
use Rattle.writer.proofs.runs.Laws.{copying_room, copying_next, copying_done}
use Rattle.writer.proofs.runs.copy_run.Goals as goal

pub returns-then-not-passes : goal.returns-then-not-passes
returns-then-not-passes g c =
    let told = c.requires.1.1.0 _ _ c.passes.ensures in
    let w = copying_done c.loop-i.invariant (run_stop g.test _ _ (fails told (rw c.if-not-passes.true))) in record { value = w.0; out_after = w.1 }

pub bounds-out-i : goal.bounds-out-i
bounds-out-i g c =
    let told = c.requires.1.1.0 _ _ c.passes.ensures in
    copying_room c.loop-i.invariant (omega arith) (passes told (rw c.if-not-passes.false))

pub loop-i-preserved : goal.loop-i-preserved
loop-i-preserved g c =
    let told = c.requires.1.1.0 _ _ c.passes.ensures in
    copying_next c.loop-i.invariant (omega arith) (passes told (rw c.if-not-passes.false))

pub returns : goal.returns
returns g c =
    let within = c.loop-i.invariant.within in
    let w = copying_done c.loop-i.invariant (run_end g.test _ _ (omega arith)) in
    record { value = rw c.max.ensures (omega (arith, w.0, within)); out_after = w.1 }
