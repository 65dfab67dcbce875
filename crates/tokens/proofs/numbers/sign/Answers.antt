-- `tokens::numbers::sign` meets its contract. A sign is not 0, so it lies within the text, and the place behind it fits.
use native.Mathlib.Omega.{arith}
use Rattle.std.proofs.lemmas.Bool.Decides.{nat_tests}
use Rattle.chars.proofs.Facts.{in_text}
use Rattle.tokens.specs.Numbers.{sign_end}
use Rattle.tokens.proofs.numbers.sign.Goals as goal

pub overflow_add-result : goal.overflow_add-result
overflow_add-result c = omega (arith, in_text c.args.text.now c.args.at (omega arith))

pub returns-in-43 : goal.returns-in-43
unfolding sign_end
returns-in-43 c = grind (arith, nat_tests)

pub returns-in_default : goal.returns-in_default
unfolding sign_end
returns-in_default c = grind (arith, nat_tests)
