-- `tokens::numbers::fraction` meets its contract: without a point, with a point and no digit behind it, and with digits.
use native.Mathlib.Omega.{arith}
use Rattle.std.proofs.lemmas.Bool.Decides.{nat_tests}
use Rattle.tokens.specs.Tokens.{token}
use Rattle.chars.proofs.Facts.{in_text}
use Rattle.tokens.specs.Numbers.{fraction_at}
use Rattle.tokens.proofs.Bounds.{unexpected_read}
use Rattle.tokens.proofs.numbers.fraction.Goals as goal

pub overflow_add-at : goal.overflow_add-at
overflow_add-at c = omega (arith, in_text c.args.text.now c.args.at (omega arith))

pub overflow_add-at-2 : goal.overflow_add-at-2
overflow_add-at-2 c = omega (arith, in_text c.args.text.now c.args.at (omega arith))

pub returns-then-peek-ne46 : goal.returns-then-peek-ne46
unfolding fraction_at
returns-then-peek-ne46 c = grind (arith, nat_tests)

pub returns-then-end-at : goal.returns-then-end-at
unfolding fraction_at
returns-then-end-at c = let e = unexpected_read token _ _ c.unexpected.ensures in grind (arith, nat_tests)

pub returns : goal.returns
unfolding fraction_at
returns c = grind (arith, nat_tests)
