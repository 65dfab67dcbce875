-- `read_within` meets its contract: the laws of `reading/Laws` have each way out.
use native.Mathlib.Omega.{arith}
use Rattle.reader.proofs.reading.Laws.{TextRead, done_over, refused_place, done_refused, rows_few, done_full, done_read}
use Rattle.reader.proofs.reading.read_within.Goals as goal
use Rattle.reader.proofs.reading.read_within.Goals.{After-read_whole}

over : (c : After-read_whole) → TextRead c.args.limits c.min-bytes.result c.args.text.now c.args.table.now c.read_whole.result c.read_whole.new.table
over c = record {
  limit = c.min-bytes.ensures;
  short = c.if-text-bytes.false;
  passed = (c.read_whole.ensures.scans, c.read_whole.ensures.rows);
  same = c.read_whole.auto.table;
}

pub returns-then-text-bytes : goal.returns-then-text-bytes
returns-then-text-bytes c =
    let w = done_over _ c.args.limits _ _ c.min-bytes.ensures c.if-text-bytes.true (rw c.from.ensures at c.new.ensures) in record { answers = w.0; rows = w.1 }

pub overflow_cast-needed : goal.overflow_cast-needed
overflow_cast-needed c = omega (arith, rows_few (over (goal.at.overflow_cast-needed c).After-read_whole) c.in-Ok.is)

pub overflow_cast-refusal : goal.overflow_cast-refusal
overflow_cast-refusal c = omega (arith, refused_place (over (goal.at.overflow_cast-refusal c).After-read_whole) c.in-Err.is)

pub returns-then-scanned-table : goal.returns-then-scanned-table
returns-then-scanned-table c =
    let w = done_full (over (goal.at.returns-then-scanned-table c).After-read_whole) c.in-Ok.is _ (omega arith) c.new-then-scanned-table.ensures in
    record { answers = w.0; rows = w.1 }

pub returns-in-Err : goal.returns-in-Err
returns-in-Err c =
    let w = done_refused (over (goal.at.returns-in-Err c).After-read_whole) c.in-Err.is _ (rw c.from-in-Err.ensures at c.new-in-Err.ensures) in
    record { answers = w.0; rows = w.1 }

pub returns-else-scanned-table : goal.returns-else-scanned-table
returns-else-scanned-table c =
    let w = done_read (over (goal.at.returns-else-scanned-table c).After-read_whole) c.in-Ok.is _ (omega arith) c.new-in-Ok.ensures in
    record { answers = w.0; rows = w.1 }
