-- `fill` meets its contract: `filling/Laws` has a law for each way through a turn.
use mathlib.Core.Path.{ap}
use Prim.Native.Nat.{◌+◌}
use native.Mathlib.Omega.{arith}
use Rattle.marks.proofs.filling.Laws.{Standing, begins, behind_below, stands_behind, stands_still, goes_in, goes_by}
use Rattle.marks.proofs.filling.fill.Goals as goal
use Rattle.marks.proofs.filling.fill.Goals.{After-put_mark-inner, then-inner-gt1, else-inner-gt1, then-row-end, else-row-end}

-- the row that was written stands in the one that was found for it
standing : (c : After-put_mark-inner) → Standing c.args.marks.now c.args.rows c.loop-row.row c.if-row-end.parent c.if-row-end.end
standing c =
    elim c.if-row-end.branch [
      | then-row-end w ↦
          let last = ap (λ n. _ + n) w.word.ensures in
          rw (w.parent-is, w.end-is) (stands_behind c.requires c.loop-row.invariant c.loop-row-test.true w.if-row-end.true last)
      | else-row-end w ↦
          rw (w.parent-is, w.end-is) (stands_still c.requires c.loop-row.invariant c.loop-row-test.true w.if-row-end.false)
    ]

pub loop-row-init : goal.loop-row-init
loop-row-init c = begins _ c.requires.0

pub word-requires : goal.word-requires
word-requires c =
    let below = behind_below c.requires c.loop-row.invariant c.loop-row-test.true c.if-row-end.true in
    (omega arith, omega (arith, c.requires.1))

pub put_mark-inner-requires : goal.put_mark-inner-requires
put_mark-inner-requires c =
    let filling = c.loop-row.invariant.filling c.loop-row-test.true in (
      omega (arith, c.requires.1),
      elim c.if-row-end.branch [
        | then-row-end w ↦
            omega (arith, c.requires.0.small, behind_below c.requires c.loop-row.invariant c.loop-row-test.true w.if-row-end.true)
        | else-row-end w ↦ omega (arith, c.requires.0.small, filling.below)
      ],
    )

pub turn-requires : goal.turn-requires
turn-requires c =
    let s = standing (goal.at.turn-requires c).After-put_mark-inner in (omega arith, omega (arith, s.below))

pub loop-row-preserved : goal.loop-row-preserved
loop-row-preserved c =
    let s = standing (goal.at.loop-row-preserved c).After-put_mark-inner in
    let wrote = c.put_mark-inner.ensures.table_after in
    let size = c.put_mark-inner.ensures.value in
    elim c.if-inner-gt1.branch [
      | then-inner-gt1 w ↦
          rw (w.marks-is, w.turn.ensures, w.parent-is, w.end-is)
          (goes_in c.requires c.loop-row.invariant c.loop-row-test.true s wrote size w.if-inner-gt1.true)
      | else-inner-gt1 w ↦
          rw (w.marks-is, w.parent-is, w.end-is)
          (goes_by c.requires c.loop-row.invariant c.loop-row-test.true s wrote size w.if-inner-gt1.false)
    ]
