use mathlib.Core.Path.{sym, ◌∙◌}
use native.Mathlib.Omega.{arith}
use Rattle.chars.proofs.strings.Laws.{char_next, char_read, names_differ, names_alike, first_longer, first_ended}
use Rattle.chars.proofs.strings.same_characters.Goals as goal

pub returns-in_default : goal.returns-in_default
returns-in_default c =
    sym (c.loop-x.invariant
    ∙ first_ended _ _ _ _ (sym c.character_at.ensures ∙ c.in_default.is) _ _ c.character_at-in_default.ensures c.is_none.ensures)

pub returns-in_default-character_at : goal.returns-in_default-character_at
returns-in_default-character_at c =
    sym (c.loop-x.invariant
    ∙ first_longer _ _ _ _ (sym c.character_at.ensures ∙ c.in-Some.is) (sym c.character_at-in-loop-x.ensures ∙ c.in_default-character_at.is))

pub returns-then-x-y : goal.returns-then-x-y
returns-then-x-y c =
    sym (c.loop-x.invariant
    ∙ names_differ _ _ _ _ (sym c.character_at.ensures ∙ c.in-Some.is) (sym c.character_at-in-loop-x.ensures ∙ c.in-Some-character_at.is) c.if-x-y.true)

pub loop-x-smaller : goal.loop-x-smaller
loop-x-smaller c = omega (arith, char_next _ _ _ _ (char_read _ _ _ _ (sym c.character_at.ensures ∙ c.in-Some.is)))

pub loop-x-preserved : goal.loop-x-preserved
loop-x-preserved c =
    c.loop-x.invariant
    ∙ names_alike _ _ _ _ (sym c.character_at.ensures ∙ c.in-Some.is) (sym c.character_at-in-loop-x.ensures ∙ c.in-Some-character_at.is) c.if-x-y.false
