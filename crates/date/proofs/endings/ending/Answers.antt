-- `date::endings::ending` meets its contract, with a fraction.
use mathlib.Core.Path.{refl, ◌∙◌}
use Rattle.chars.specs.Strings.{chars_at}
use Rattle.date.proofs.endings.Laws.{fraction}
use Rattle.date.proofs.endings.ending.Goals as goal

pub returns : goal.returns
returns c =
    let l = chars_at c.args.body.now c.args.at in
    let point = c.in-Some.ensures l 0 refl in
    c.digits.ensures ∙ fraction _ l _ point.0 (c.in_ok-next.ensures l 1 point.1)
