use mathlib.Core.Path.{sym, ◌∙◌}
use Rattle.chars.proofs.runs.Laws.{run_end, run_next, run_stop}
use Rattle.chars.proofs.runs.run_end.Goals as goal
use Rattle.chars.proofs.runs.run_end.Goals.{then-loop-i-test+else-passes, else-loop-i-test}

pub loop-i-preserved : goal.loop-i-preserved
loop-i-preserved g c = λ p told.
    c.loop-i.invariant p told ∙ run_next p _ _ c.loop-i-test.true (sym (told _ _ c.passes.ensures) ∙ c.if-passes.true)

pub returns : goal.returns
returns g c = λ p told.
    elim c.loop-i-test.branch [
      | then-loop-i-test+else-passes w ↦
          sym (c.loop-i.invariant p told ∙ run_stop p _ _ (sym (told _ _ w.passes.ensures) ∙ w.if-passes.false))
      | else-loop-i-test w ↦ sym (c.loop-i.invariant p told ∙ run_end p _ _ w.loop-i-test.false)
    ]
