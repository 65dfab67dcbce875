-- `writer::compacting::write_whole` meets its contract.
use mathlib.Core.Path.{refl}
use native.Mathlib.Omega.{arith}
use Rattle.writer.proofs.Answers.{written_short, written_whole}
use Rattle.writer.proofs.compacting.write_whole.Goals as goal

pub overflow_cast-n : goal.overflow_cast-n
overflow_cast-n c = omega (arith, written_short c.requires.0 c.write-n.ensures)

pub returns : goal.returns
returns c = written_whole c.requires.0 c.write-n.ensures c.new.ensures refl
