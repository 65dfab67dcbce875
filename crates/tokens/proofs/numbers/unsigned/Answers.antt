-- `tokens::numbers::unsigned` meets its contract: with an integer part, and without.
use native.Mathlib.Omega.{arith}
use Rattle.std.proofs.lemmas.Bool.Decides.{nat_tests}
use Rattle.tokens.specs.Tokens.{token}
use Rattle.tokens.specs.Numbers.{unsigned_at}
use Rattle.tokens.proofs.Bounds.{unexpected_read}
use Rattle.tokens.proofs.numbers.unsigned.Goals as goal

pub returns-then-end-at : goal.returns-then-end-at
unfolding unsigned_at
returns-then-end-at c = let e = unexpected_read token _ _ c.unexpected.ensures in grind (arith, nat_tests)

pub returns : goal.returns
unfolding unsigned_at
returns c = grind (arith, nat_tests)
