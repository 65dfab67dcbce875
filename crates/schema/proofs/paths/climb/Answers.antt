use Rattle.schema.proofs.paths.Laws.{way_begins, way_on, way_ends}
use Rattle.schema.proofs.paths.climb.Goals as goal

pub loop-row-init : goal.loop-row-init
loop-row-init c = way_begins c.requires

pub loop-row-preserved : goal.loop-row-preserved
loop-row-preserved c = way_on c.loop-row.invariant c.loop-row-test.true c.parent_at-row.ensures

pub returns : goal.returns
returns c = way_ends c.loop-row.invariant c.loop-row-test.false
