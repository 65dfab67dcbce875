-- `date::endings::zone` meets its contract, with a letter.
use mathlib.Core.Path.{refl, ◌∙◌}
use Rattle.chars.specs.Strings.{chars_at}
use Rattle.date.proofs.endings.Laws.{letter_read}
use Rattle.date.proofs.endings.zone.Goals as goal

pub returns-in-Some : goal.returns-in-Some
returns-in-Some c =
    let l = chars_at c.args.body.now c.args.at in
    let letter = c.in-Some.ensures l 0 refl in
    c.then_some.ensures ∙ letter_read l letter.0 _ (c.ends.ensures l 1 letter.1)
