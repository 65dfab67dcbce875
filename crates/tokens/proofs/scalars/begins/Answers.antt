-- `tokens::scalars::begins` meets its contract: the range of digits, then each arm by its byte.
use mathlib.Core.Path.{sym}
use native.Mathlib.Omega.{arith}
use Rattle.std.proofs.lemmas.Bool.Decides.{nat_tests}
use Rattle.tokens.specs.Scalars.{first_of}
use Rattle.tokens.proofs.scalars.Laws.{number_digit}
use Rattle.tokens.proofs.scalars.begins.Goals as goal
use Rattle.tokens.proofs.scalars.begins.Goals.{in_default-via-then-b-lt48, in_default-via-else-b-lt48+else-b-lt58}

pub returns-in-48-to-57 : goal.returns-in-48-to-57
unfolding first_of
returns-in-48-to-57 c = sym (number_digit c.args.b (omega arith) (omega arith))

pub returns-in-34 : goal.returns-in-34
unfolding first_of
returns-in-34 c = rw c.in-34.is

pub returns-in-91 : goal.returns-in-91
unfolding first_of
returns-in-91 c = rw c.in-91.is

pub returns-in-123 : goal.returns-in-123
unfolding first_of
returns-in-123 c = rw c.in-123.is

pub returns-in-45 : goal.returns-in-45
unfolding first_of
returns-in-45 c = rw c.in-45.is

pub returns-in-110 : goal.returns-in-110
unfolding first_of
returns-in-110 c = rw c.in-110.is

pub returns-in-102 : goal.returns-in-102
unfolding first_of
returns-in-102 c = rw c.in-102.is

pub returns-in-116 : goal.returns-in-116
unfolding first_of
returns-in-116 c = rw c.in-116.is

pub returns-in_default-b : goal.returns-in_default-b
unfolding first_of
returns-in_default-b c = grind (arith, nat_tests)
