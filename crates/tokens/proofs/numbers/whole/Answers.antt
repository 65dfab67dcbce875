-- `tokens::numbers::whole` meets its contract: a zero, or the digits.
use native.Mathlib.Omega.{arith}
use Rattle.std.proofs.lemmas.Bool.Decides.{nat_tests}
use Rattle.chars.proofs.Facts.{in_text}
use Rattle.tokens.specs.Numbers.{whole_end}
use Rattle.tokens.proofs.numbers.whole.Goals as goal

pub overflow_add-result : goal.overflow_add-result
overflow_add-result c = omega (arith, in_text c.args.text.now c.args.at (omega arith))

pub returns-then-peek-eq48 : goal.returns-then-peek-eq48
unfolding whole_end
returns-then-peek-eq48 c = grind (arith, nat_tests)

pub returns : goal.returns
unfolding whole_end
returns c = grind (arith, nat_tests)
