use mathlib.Core.Path.{◌∙◌}
use native.Mathlib.Omega.{arith}
use Rattle.tokens.specs.Tokens.{token}
use Rattle.tokens.proofs.Bounds.{unexpected_read}
use Rattle.tokens.proofs.scalars.Steps.{word_next, word_stop, word_end}
use Rattle.tokens.proofs.scalars.literal.Goals as goal

pub returns-then-peek-b : goal.returns-then-peek-b
returns-then-peek-b c =
    rw (c.loop-k.invariant, word_stop _ _ _ _ c.loop-k.k c.peek.ensures (omega arith) c.if-peek-b.true) (unexpected_read token _ _ c.unexpected.ensures)

pub loop-k-preserved : goal.loop-k-preserved
loop-k-preserved c = c.loop-k.invariant ∙ word_next _ _ _ _ c.loop-k.k c.peek.ensures (omega arith) c.if-peek-b.false

pub returns : goal.returns
returns c = rw (c.loop-k.invariant, word_end _ c.args.word.now _ _ c.loop-k.k (omega arith))
