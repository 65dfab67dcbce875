-- `check` meets its contract: the list is short, a text is not read, there is no mismatch, or the path to it is written.
use native.Mathlib.Omega.{arith}
use Rattle.schema.proofs.checking.Laws.{promised_short, promised_unread, TablesRead, tables_read, judgeable, promised_met, mismatch_ready, mismatch_fits, promised_mismatch}
use Rattle.schema.proofs.checking.check.Goals as goal
use Rattle.schema.proofs.checking.check.Goals.{In_default}

-- both tables behind reading both texts
tables : (c : In_default) → TablesRead c.args.document.now c.args.schema.now c.args.table1.now c.args.table2.now c.read_both.new.table1 c.read_both.new.table2
tables c = tables_read _ _ _ _ c.read_both.ensures.answers c.in_default.is c.read_both.ensures.rows1 c.read_both.ensures.rows2

pub returns-then-path-lt-PATH_WORDS : goal.returns-then-path-lt-PATH_WORDS
returns-then-path-lt-PATH_WORDS c =
    promised_short c.args.document.now c.args.schema.now c.args.table1.now c.args.table2.now c.args.path.now c.if-path-lt-PATH_WORDS.true c.new.ensures

pub returns-in-Err : goal.returns-in-Err
returns-in-Err c =
    promised_unread c.args.document.now c.args.schema.now c.args.table1.now c.args.table2.now c.args.path.now c.if-path-lt-PATH_WORDS.false
    c.read_both.ensures.answers c.in-Err.is c.read_both.ensures.rows1 c.read_both.ensures.rows2

pub judge-requires : goal.judge-requires
judge-requires c = judgeable (tables (goal.at.judge-requires c).In_default)

pub returns-in-Ok : goal.returns-in-Ok
returns-in-Ok c =
    promised_met (tables (goal.at.returns-in-Ok c).In_default) c.judge.ensures c.args.path.now c.if-path-lt-PATH_WORDS.false c.in-Ok.is
    c.none-counted.ensures c.new-in-Ok.ensures c.numbers.ensures

pub write_path-steps-requires : goal.write_path-steps-requires
write_path-steps-requires c =
    mismatch_ready (tables (goal.at.write_path-steps-requires c).In_default) c.judge.ensures c.args.path.now c.if-path-lt-PATH_WORDS.false
    c.in-Err-judge.is

pub overflow_cast-result : goal.overflow_cast-result
overflow_cast-result c =
    omega (
      arith,
      mismatch_fits (tables (goal.at.overflow_cast-result c).In_default) c.judge.ensures c.args.path.now c.if-path-lt-PATH_WORDS.false c.in-Err-judge.is
          c.write_path-steps.ensures,
    )

pub returns-in-Err-judge : goal.returns-in-Err-judge
returns-in-Err-judge c =
    promised_mismatch (tables (goal.at.returns-in-Err-judge c).In_default) c.judge.ensures c.args.path.now c.if-path-lt-PATH_WORDS.false c.in-Err-judge.is
    c.write_path-steps.ensures (rw c.from.ensures at c.new-in-Err-judge.ensures)
