use Rattle.rows.proofs.Facts.{quotes_read}
use Rattle.samples.proofs.fresh.Laws.{count_start, count_end, this, count_more, count_same}
use Rattle.samples.proofs.fresh.count_fields.Goals as goal

pub loop-row-init : goal.loop-row-init
loop-row-init c = rw c.into_iter-row-iterator.ensures.into_iter_gives (count_start (rw c.in-Some.is at c.requires) c.members-row-items.ensures)

pub row_at-name-requires : goal.row_at-name-requires
row_at-name-requires c = (this c.loop-row.invariant c.in-Some-row.ensures.steps).name

pub between-requires : goal.between-requires
between-requires c = quotes_read c.row_at-name.ensures (this c.loop-row.invariant c.in-Some-row.ensures.steps).quoted

pub loop-row-preserved-then-begins : goal.loop-row-preserved-then-begins
loop-row-preserved-then-begins c =
    count_more c.loop-row.invariant c.in-Some-row.ensures.steps c.row_at-name.ensures c.between.ensures c.if-begins.ensures

pub loop-row-preserved : goal.loop-row-preserved
loop-row-preserved c =
    count_same c.loop-row.invariant c.in-Some-row.ensures.steps c.row_at-name.ensures c.between.ensures c.if-begins.ensures

pub returns : goal.returns
returns c = rw c.in-Some.is (count_end c.loop-row.invariant c.in-None.ensures.steps)
