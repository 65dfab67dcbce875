-- `reader::scanning::follows` meets its contract: the three ways of its tests.
use mathlib.Core.Path.{refl, sym, ◌∙◌}
use native.Mathlib.Omega.{arith}
use Rattle.syntax.proofs.Facts.{byte_in}
use Rattle.reader.proofs.scanning.follows.Goals as goal

-- the byte looked for stands in the text
pub overflow_add-result : goal.overflow_add-result
overflow_add-result c = omega (arith, byte_in c.args.text.now _ _ c.requires (sym c.peek-b.ensures ∙ c.if-b-closing.true))

pub returns-then-b-closing : goal.returns-then-b-closing
returns-then-b-closing c = (sym c.peek-b.ensures ∙ c.if-b-closing.true, refl)

pub returns-then-b-ne44 : goal.returns-then-b-ne44
returns-then-b-ne44 c =
    (refl, λ q. c.if-b-ne44.true (c.peek-b.ensures ∙ q), λ q. c.if-b-closing.false (c.peek-b.ensures ∙ q))

pub overflow_add-at : goal.overflow_add-at
overflow_add-at c =
    omega (arith, byte_in c.args.text.now _ 0x2C (omega arith) (sym c.peek-b.ensures ∙ c.if-b-ne44.false))

pub returns : goal.returns
returns c = (sym c.peek-b.ensures ∙ c.if-b-ne44.false, c.skip.ensures)
