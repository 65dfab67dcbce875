-- `writer::runs::is_structural` meets its contract: each arm by its byte.
use borrow.Author.Tests.{ne_eqb}
use Rattle.writer.specs.Runs.{is_structural}
use Rattle.writer.proofs.runs.is_structural.Goals as goal

pub returns-in-91 : goal.returns-in-91
unfolding is_structural
returns-in-91 c = rw c.in-91.is

pub returns-in-123 : goal.returns-in-123
unfolding is_structural
returns-in-123 c = rw c.in-123.is

pub returns-in-93 : goal.returns-in-93
unfolding is_structural
returns-in-93 c = rw c.in-93.is

pub returns-in-125 : goal.returns-in-125
unfolding is_structural
returns-in-125 c = rw c.in-125.is

pub returns-in-58 : goal.returns-in-58
unfolding is_structural
returns-in-58 c = rw c.in-58.is

pub returns-in-44 : goal.returns-in-44
unfolding is_structural
returns-in-44 c = rw c.in-44.is

pub returns-in_default : goal.returns-in_default
unfolding is_structural
returns-in_default c =
    rw (
      ne_eqb _ 0x5B c.in_default.in_default-own.rest.0.0.0.0.0.1,
      ne_eqb _ 0x7B c.in_default.in_default-own.rest.0.0.0.0.1,
      ne_eqb _ 0x5D c.in_default.in_default-own.rest.0.0.0.1,
      ne_eqb _ 0x7D c.in_default.in_default-own.rest.0.0.1,
      ne_eqb _ 0x3A c.in_default.in_default-own.rest.0.1,
      ne_eqb _ 0x2C c.in_default.in_default-own.rest.1,
    )
