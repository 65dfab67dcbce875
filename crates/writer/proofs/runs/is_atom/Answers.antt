-- `writer::runs::is_atom` meets its contract: each arm by its byte.
use mathlib.Core.Path.{ap}
use mathlib.Core.Bool.{not}
use borrow.Author.Tests.{ne_eqb}
use Rattle.tokens.specs.Space.{is_space}
use Rattle.writer.specs.Runs.{is_atom}
use Rattle.writer.proofs.runs.is_atom.Goals as goal

pub returns-in-32 : goal.returns-in-32
unfolding is_atom is_space
returns-in-32 c = rw c.in-32.is

pub returns-in-9 : goal.returns-in-9
unfolding is_atom is_space
returns-in-9 c = rw c.in-9.is

pub returns-in-10 : goal.returns-in-10
unfolding is_atom is_space
returns-in-10 c = rw c.in-10.is

pub returns-in-13 : goal.returns-in-13
unfolding is_atom is_space
returns-in-13 c = rw c.in-13.is

pub returns-in-34 : goal.returns-in-34
unfolding is_atom is_space
returns-in-34 c = rw c.in-34.is

pub returns-in_default : goal.returns-in_default
unfolding is_atom is_space
returns-in_default c =
    rw (
      ne_eqb _ 0x20 c.in_default.in_default-own.rest.0.0.0.0.1,
      ne_eqb _ 0x09 c.in_default.in_default-own.rest.0.0.0.1,
      ne_eqb _ 0x0A
          c.in_default.in_default-own.rest.0.0.1,
      ne_eqb _ 0x0D c.in_default.in_default-own.rest.0.1,
      ne_eqb _ 0x22 c.in_default.in_default-own.rest.1,
    )
    (ap not c.is_structural.ensures)
