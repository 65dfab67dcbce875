-- `tokens::numbers::power` meets its contract: behind the letter and the sign stands a digit, or none.
use native.Mathlib.Omega.{arith}
use Rattle.std.proofs.lemmas.Bool.Decides.{nat_tests}
use Rattle.tokens.specs.Tokens.{token}
use Rattle.tokens.specs.Numbers.{power_at}
use Rattle.tokens.proofs.Bounds.{unexpected_read}
use Rattle.tokens.proofs.numbers.power.Goals as goal

pub returns-then-end-from : goal.returns-then-end-from
unfolding power_at
returns-then-end-from c = let e = unexpected_read token _ _ c.unexpected.ensures in grind (arith, nat_tests)

pub returns : goal.returns
unfolding power_at
returns c = grind (arith, nat_tests)
