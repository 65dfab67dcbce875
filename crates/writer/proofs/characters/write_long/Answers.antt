-- `writer::characters::write_long` meets its contract: six stores one behind the other are the escape.
use native.Mathlib.Omega.{arith}
use lib.ListN.{length-set}
use Rattle.writer.proofs.characters.Laws.{long_written}
use Rattle.writer.proofs.characters.write_long.Goals as goal

pub bounds-out-1 : goal.bounds-out-1
bounds-out-1 c = simp length-set (omega arith)

pub bounds-out-2 : goal.bounds-out-2
bounds-out-2 c = simp length-set (omega arith)

pub bounds-out-3 : goal.bounds-out-3
bounds-out-3 c = simp length-set (omega arith)

pub bounds-out-4 : goal.bounds-out-4
bounds-out-4 c = simp length-set (omega arith)

pub bounds-out-5 : goal.bounds-out-5
bounds-out-5 c = simp length-set (omega arith)

pub returns : goal.returns
returns c = long_written _ c.args.out.now c.hex_digit.ensures c.hex_digit-2.ensures (omega arith)
