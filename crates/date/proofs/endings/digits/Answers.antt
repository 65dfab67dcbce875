use mathlib.Core.Path.{refl, ◌∙◌}
use Rattle.chars.specs.Strings.{chars_at}
use Rattle.date.proofs.endings.Laws.{fewer, skipped}
use Rattle.date.proofs.endings.digits.Goals as goal

pub loop-next-smaller : goal.loop-next-smaller
loop-next-smaller c =
    let l = chars_at c.args.body.now c.loop-next.i in
    fewer c.args.body.now l c.in-Some.field-0 (c.in-Some.ensures l 0 refl)

pub loop-next-preserved : goal.loop-next-preserved
loop-next-preserved c =
    let l = chars_at c.args.body.now c.loop-next.i in
    c.loop-next.invariant ∙ skipped c.args.body.now l c.in-Some.field-0 (c.in-Some.ensures l 0 refl)
