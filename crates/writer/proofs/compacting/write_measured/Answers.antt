-- `writer::compacting::write_measured` meets its contract.
use native.Mathlib.Omega.{arith}
use Rattle.writer.proofs.Answers.{measured_most, measured_fits, measured_none}
use Rattle.writer.proofs.compacting.write_measured.Goals as goal

pub overflow_cast-needed : goal.overflow_cast-needed
overflow_cast-needed c = omega (arith, measured_most c.requires.0 c.measure-needed.ensures)

pub returns-then-needed-buffer : goal.returns-then-needed-buffer
returns-then-needed-buffer c = measured_none c.measure-needed.ensures (omega arith) c.new.ensures

pub write_whole-requires : goal.write_whole-requires
write_whole-requires c = (measured_fits c.requires.0 c.measure-needed.ensures (omega arith), omega arith)

pub returns : goal.returns
returns c = c.write_whole.ensures
