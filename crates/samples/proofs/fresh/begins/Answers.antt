use mathlib.Core.Path.{sym, ◌∙◌}
use Rattle.chars.proofs.Facts.{char_read, chars_char, chars_none}
use Rattle.samples.proofs.fresh.Laws.{begins_short, begins_not, begins_on}
use Rattle.samples.proofs.fresh.begins.Goals as goal

pub returns-in_default : goal.returns-in_default
returns-in_default c =
    sym (c.loop-letter.invariant ∙ begins_short _ _ c.loop-letter-test.true (chars_none _ _ (sym c.in_default.ensures)))

pub returns-then-character-from : goal.returns-then-character-from
returns-then-character-from c =
    sym (c.loop-letter.invariant ∙ begins_not _ _ c.loop-letter-test.true (chars_char _ _ _ _ (char_read _ _ _ _ (sym c.in-Some.ensures))) (λ e. c.if-character-from.true (e ∙ sym c.from.ensures)))

pub loop-letter-preserved : goal.loop-letter-preserved
loop-letter-preserved c =
    c.loop-letter.invariant ∙ begins_on _ _ c.loop-letter-test.true (chars_char _ _ _ _ (char_read _ _ _ _ (sym c.in-Some.ensures)))
    (c.if-character-from.false ∙ c.from.ensures)
