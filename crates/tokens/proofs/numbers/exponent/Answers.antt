-- `tokens::numbers::exponent` meets its contract. A letter is not 0, so it lies within the text, as `power` requires.
use native.Mathlib.Omega.{arith}
use Rattle.std.proofs.lemmas.Bool.Decides.{nat_tests}
use Rattle.chars.proofs.Facts.{in_text}
use Rattle.tokens.specs.Numbers.{exponent_at}
use Rattle.tokens.proofs.numbers.exponent.Goals as goal

pub power-requires : goal.power-requires
power-requires c = in_text c.args.text.now c.args.at (omega arith)

pub returns-in-69 : goal.returns-in-69
unfolding exponent_at
returns-in-69 c = grind (arith, nat_tests)

pub returns-in_default : goal.returns-in_default
unfolding exponent_at
returns-in_default c = grind (arith, nat_tests)
