-- `tokens::space::is_space` meets its contract: each arm by its byte, the last by what it is not.
use borrow.Author.Tests.{ne_eqb}
use Rattle.tokens.specs.Space.{is_space}
use Rattle.tokens.proofs.space.is_space.Goals as goal

pub returns-in-32 : goal.returns-in-32
unfolding is_space
returns-in-32 c = rw c.in-32.is

pub returns-in-9 : goal.returns-in-9
unfolding is_space
returns-in-9 c = rw c.in-9.is

pub returns-in-10 : goal.returns-in-10
unfolding is_space
returns-in-10 c = rw c.in-10.is

pub returns-in-13 : goal.returns-in-13
unfolding is_space
returns-in-13 c = rw c.in-13.is

pub returns-in_default : goal.returns-in_default
unfolding is_space
returns-in_default c =
    rw (ne_eqb _ 0x20 c.in_default.in_default-own.rest.0.0.0.1, ne_eqb _ 0x09 c.in_default.in_default-own.rest.0.0.1, ne_eqb _ 0x0A c.in_default.in_default-own.rest.0.1, ne_eqb _ 0x0D c.in_default.in_default-own.rest.1)
