-- `read_in` meets its contract: `reading/Laws` has a law for each way out.
use native.Mathlib.Omega.{arith}
use Rattle.std.proofs.lemmas.Result.{err_from_is_err_and}
use Rattle.reader.proofs.reading.Laws.{Over, ValueRead, ready, passed_refused, value-read, passed_behind, passed_full, passed_read, fills}
use Rattle.reader.proofs.reading.read_in.Goals as goal
use Rattle.reader.proofs.reading.read_in.Goals.{After-skip-end}

read : (c : After-skip-end) → ValueRead c.args.depth c.args.text.now c.value.new.marks c.in_ok-scanned.scanned.rows c.skip-end.result
read c =
    let over : Over c.args.depth c.args.text.now c.args.heads.now c.args.marks.now c.value.result c.value.new.heads c.value.new.marks =
    record { given = c.requires; place = _; begins = c.skip-start.ensures; told = c.value.ensures; same = c.value.auto.marks } in
    value-read over c.in_ok-scanned.was c.skip-end.ensures

pub value-requires : goal.value-requires
value-requires c = (ready c.skip-start.ensures c.requires, record { first = c.first_at.ensures })

pub returns-in_err-scanned : goal.returns-in_err-scanned
returns-in_err-scanned c =
    let over : Over c.args.depth c.args.text.now c.args.heads.now c.args.marks.now c.value.result c.value.new.heads c.value.new.marks =
    record { given = c.requires; place = _; begins = c.skip-start.ensures; told = c.value.ensures; same = c.value.auto.marks } in
    let w = passed_refused over _ c.in_err-scanned.was in
    let exit = err_from_is_err_and c.from_residual.result c.from_residual.ensures.1 in
    record { scans = rw (exit.1, exit.2) w.0; rows = w.1 }

pub returns-then-end-text : goal.returns-then-end-text
returns-then-end-text c =
    let w = passed_behind (read (goal.at.returns-then-end-text c).After-skip-end) _ c.unexpected.ensures c.if-end-text.true in
    record { scans = w.0; rows = w.1 }

pub fill-requires : goal.fill-requires
fill-requires c = (fills (read (goal.at.fill-requires c).After-skip-end), omega arith)

pub returns-then-scanned-table : goal.returns-then-scanned-table
returns-then-scanned-table c =
    let w = passed_read (read (goal.at.returns-then-scanned-table c).After-skip-end) _ (omega arith) (omega arith) c.fill.ensures in
    record { scans = w.0; rows = w.1 }

pub returns-else-scanned-table : goal.returns-else-scanned-table
returns-else-scanned-table c =
    let w = passed_full (read (goal.at.returns-else-scanned-table c).After-skip-end) _ c.if-end-text.false c.if-scanned-table.false in
    record { scans = w.0; rows = w.1 }
