-- `tokens::scalars::integer_end` meets its contract: the digits behind a minus, or at the place itself.
use native.Mathlib.Omega.{arith}
use Rattle.std.proofs.lemmas.Bool.Decides.{nat_tests}
use Rattle.chars.proofs.Facts.{in_text}
use Rattle.tokens.specs.Integers.{minus_end}
use Rattle.tokens.proofs.scalars.integer_end.Goals as goal

pub overflow_add-at : goal.overflow_add-at
overflow_add-at c = omega (arith, in_text c.args.text.now c.args.at (omega arith))

pub returns-then-peek-eq45 : goal.returns-then-peek-eq45
unfolding minus_end
returns-then-peek-eq45 c = grind (arith, nat_tests)

pub returns : goal.returns
unfolding minus_end
returns c = grind (arith, nat_tests)
