use mathlib.Core.Path.{sym, ◌∙◌}
use Rattle.schema.proofs.paths.Laws.{first_name, first_other}
use Rattle.schema.proofs.paths.value_at.Goals as goal
use Rattle.schema.proofs.paths.value_at.Goals.{else-word-place-via-then-word-place+else-word-ne9, else-word-place-via-else-word-place}

pub loop-row-preserved : goal.loop-row-preserved
loop-row-preserved c =
    c.loop-row.invariant
    ∙ elim c.else-word-place.branch [
      | else-word-place-via-then-word-place+else-word-ne9 w ↦
          first_name c.args.table.now c.args.place c.loop-row-test.true (sym w.word-then-word-place.ensures ∙ w.if-word-ne9.false)
      | else-word-place-via-else-word-place w ↦
          first_other c.args.table.now c.args.place c.loop-row-test.true (λ e. w.if-word-place.false (c.word.ensures ∙ e))
    ]
