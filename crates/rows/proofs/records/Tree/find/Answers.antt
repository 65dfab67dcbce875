use mathlib.Core.Path.{◌∙◌}
use Rattle.rows.proofs.records.Members.{quotes_read}
use Rattle.rows.proofs.finding.Laws.{seek, seek_end, candidate, hit, missed, read_same}
use Rattle.rows.proofs.records.Tree.find.Goals as goal

pub loop-row-init : goal.loop-row-init
loop-row-init c = rw c.into_iter-row-iterator.ensures.into_iter_gives (seek c.requires c.members-row-items.ensures)

pub row_at-name-requires : goal.row_at-name-requires
row_at-name-requires c = (candidate c.loop-row.invariant c.in-Some.ensures.steps).in_table

pub between-requires : goal.between-requires
between-requires c = quotes_read c.row_at-name.ensures (candidate c.loop-row.invariant c.in-Some.ensures.steps).quoted

pub returns-then-same_name : goal.returns-then-same_name
returns-then-same_name c =
    hit c.loop-row.invariant c.in-Some.ensures.steps (read_same _ _ c.row_at-name.ensures c.between.ensures c.same_name.ensures ∙ c.if-same_name.true)

pub loop-row-preserved : goal.loop-row-preserved
loop-row-preserved c =
    missed c.loop-row.invariant c.in-Some.ensures.steps (read_same _ _ c.row_at-name.ensures c.between.ensures c.same_name.ensures ∙ c.if-same_name.false)

pub returns : goal.returns
returns c = seek_end c.loop-row.invariant c.in-None.ensures.steps
