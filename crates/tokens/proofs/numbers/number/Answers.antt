-- `tokens::numbers::number` meets its contract: with a minus, and without.
use native.Mathlib.Omega.{arith}
use Rattle.std.proofs.lemmas.Bool.Decides.{nat_tests}
use Rattle.chars.proofs.Facts.{in_text}
use Rattle.tokens.specs.Numbers.{number_at}
use Rattle.tokens.proofs.numbers.number.Goals as goal

pub overflow_add-at : goal.overflow_add-at
overflow_add-at c = omega (arith, in_text c.args.text.now c.args.at (omega arith))

pub returns-then-peek-eq45 : goal.returns-then-peek-eq45
unfolding number_at
returns-then-peek-eq45 c = grind (arith, nat_tests)

pub returns : goal.returns
unfolding number_at
returns c = grind (arith, nat_tests)
