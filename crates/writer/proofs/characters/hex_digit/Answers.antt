-- `writer::characters::hex_digit` meets its contract.
use borrow.Author.Tests.{lt-ltb, le-ltb}
use Rattle.writer.specs.Spell.{hex_digit}
use Rattle.writer.proofs.characters.hex_digit.Goals as goal

pub returns-then-n-lt10 : goal.returns-then-n-lt10
unfolding hex_digit
returns-then-n-lt10 c = rw (lt-ltb _ 10 c.if-n-lt10.true)

pub returns-else-n-lt10 : goal.returns-else-n-lt10
unfolding hex_digit
returns-else-n-lt10 c = rw (le-ltb _ 10 c.if-n-lt10.false)
