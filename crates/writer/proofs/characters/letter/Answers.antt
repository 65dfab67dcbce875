-- `writer::characters::letter` meets its contract: each arm by its number.
use native.Mathlib.Omega.{arith}
use Rattle.std.proofs.lemmas.Bool.Decides.{nat_tests}
use Rattle.writer.specs.Spell.{letter_of}
use Rattle.writer.proofs.characters.letter.Goals as goal

pub returns-in-34 : goal.returns-in-34
unfolding letter_of
returns-in-34 c = rw c.in-34.is

pub returns-in-92 : goal.returns-in-92
unfolding letter_of
returns-in-92 c = rw c.in-92.is

pub returns-in-8 : goal.returns-in-8
unfolding letter_of
returns-in-8 c = rw c.in-8.is

pub returns-in-12 : goal.returns-in-12
unfolding letter_of
returns-in-12 c = rw c.in-12.is

pub returns-in-10 : goal.returns-in-10
unfolding letter_of
returns-in-10 c = rw c.in-10.is

pub returns-in-13 : goal.returns-in-13
unfolding letter_of
returns-in-13 c = rw c.in-13.is

pub returns-in-9 : goal.returns-in-9
unfolding letter_of
returns-in-9 c = rw c.in-9.is

pub returns-in_default : goal.returns-in_default
unfolding letter_of
returns-in_default c = grind (arith, nat_tests)
