-- `tokens::scalars::digits_from` meets its contract: digits behind which stands nothing that a number goes on with.
use native.Mathlib.Omega.{arith}
use Rattle.std.proofs.lemmas.Bool.Decides.{nat_tests}
use Rattle.chars.proofs.Facts.{in_text}
use Rattle.tokens.specs.Integers.{goes_on, digits_from}
use Rattle.tokens.proofs.scalars.digits_from.Goals as goal

pub overflow_add-from : goal.overflow_add-from
overflow_add-from c = omega (arith, in_text c.args.text.now c.args.from (omega arith))

pub returns-in-46 : goal.returns-in-46
unfolding digits_from goes_on
returns-in-46 c = grind (arith, nat_tests)

pub returns-in_default-peek : goal.returns-in_default-peek
unfolding digits_from goes_on
returns-in_default-peek c = grind (arith, nat_tests)

pub returns-in_default : goal.returns-in_default
unfolding digits_from
returns-in_default c = grind (arith, nat_tests)

pub returns-in_default-2 : goal.returns-in_default-2
unfolding digits_from
returns-in_default-2 c = grind (arith, nat_tests)
