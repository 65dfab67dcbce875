-- `explain` meets its contract: there is no mismatch, or the pointer of the value at its place is written.
use mathlib.Core.Path.{refl}
use Rattle.explain.proofs.explaining.Laws.{no_pointer, path_ready, explained}
use Rattle.explain.proofs.explaining.explain.Goals as goal

pub returns-then-answer-lt20-clause-points : goal.returns-then-answer-lt20-clause-points
returns-then-answer-lt20-clause-points c =
    rw (no_pointer c.args.document.now c.args.schema.now c.args.table1.now c.args.table2.now c.check-checked.ensures.answers c.check-checked.ensures.rows1 c.if-answer-lt20.true) refl

pub returns-then-answer-lt20-clause-lengths : goal.returns-then-answer-lt20-clause-lengths
returns-then-answer-lt20-clause-lengths c =
    rw (no_pointer c.args.document.now c.args.schema.now c.args.table1.now c.args.table2.now c.check-checked.ensures.answers c.check-checked.ensures.rows1 c.if-answer-lt20.true) refl

pub write_pointer-length-requires : goal.write_pointer-length-requires
write_pointer-length-requires c =
    path_ready c.args.document.now c.args.schema.now c.args.table1.now c.args.table2.now c.check-checked.ensures.answers c.check-checked.ensures.rows1 c.if-answer-lt20.false _
    c.check-checked.ensures.paths c.check-checked.ensures.steps refl

pub returns-clause-points : goal.returns-clause-points
returns-clause-points c =
    (explained c.args.document.now c.args.schema.now c.args.table1.now c.args.table2.now c.check-checked.ensures.answers c.check-checked.ensures.rows1 c.if-answer-lt20.false _
    c.check-checked.ensures.paths c.check-checked.ensures.steps refl c.write_pointer-length.ensures).1

pub returns-clause-lengths : goal.returns-clause-lengths
returns-clause-lengths c =
    (explained c.args.document.now c.args.schema.now c.args.table1.now c.args.table2.now c.check-checked.ensures.answers c.check-checked.ensures.rows1 c.if-answer-lt20.false _
    c.check-checked.ensures.paths c.check-checked.ensures.steps refl c.write_pointer-length.ensures).0
