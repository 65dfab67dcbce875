-- `counterexample` meets its contract: `Laws` has one for each way out.
use native.Mathlib.Omega.{arith}
use Rattle.counterexample.proofs.exhibiting.Laws.{short, as_compared, ready, written_fits, as_shown}
use Rattle.counterexample.proofs.exhibiting.counterexample.Goals as goal

pub returns-then-buffer-lt65536 : goal.returns-then-buffer-lt65536
returns-then-buffer-lt65536 c =
    let w = short c.args.new.now c.args.old.now c.args.table1.now c.args.table2.now c.args.buffer.now (omega arith) c.new.ensures in record
    { promises = w.0; rows1 = w.1.0; rows2 = w.1.1 }

pub returns-then-compared-ne30 : goal.returns-then-compared-ne30
returns-then-compared-ne30 c =
    let e = c.compare-compared.ensures in
    let w = as_compared c.args.table1.now c.args.table2.now c.args.buffer.now (omega arith) e.compares e.rows1 e.rows2 c.if-compared-ne30.true in record
    { promises = w.0; rows1 = w.1.0; rows2 = w.1.1 }

pub write_witness-n-requires : goal.write_witness-n-requires
write_witness-n-requires c =
    let e = c.compare-compared.ensures in ready c.args.table1.now c.args.table2.now c.args.buffer.now (omega arith) e.compares e.rows1 e.rows2 c.if-compared-ne30.false

pub overflow_cast-n : goal.overflow_cast-n
overflow_cast-n c =
    let e = c.compare-compared.ensures in
    omega (
      arith,
      written_fits c.args.table1.now c.args.table2.now c.args.buffer.now (omega arith) e.compares e.rows1 e.rows2 c.if-compared-ne30.false c.write_witness-n.ensures,
    )

pub returns : goal.returns
returns c =
    let e = c.compare-compared.ensures in
    let w = as_shown c.args.table1.now c.args.table2.now c.args.buffer.now (omega arith) e.compares e.rows1 e.rows2 c.if-compared-ne30.false
    c.write_witness-n.ensures c.new-2.ensures in record
    { promises = w.0; rows1 = w.1.0; rows2 = w.1.1 }
