use mathlib.Core.Path.{refl}
use native.Mathlib.Omega.{arith}
use Rattle.rows.proofs.records.Members.{quotes_read}
use Rattle.rows.proofs.matching.Names.{indexing_start, indexing_name, indexing_next}
use Rattle.rows.proofs.matching.Index.list.Goals as goal

pub loop-i-init : goal.loop-i-init
loop-i-init g c =
    rw (c.into_iter-i-iterator.ensures.into_iter_gives, c.enumerate-i-items.ensures.source, c.enumerate-i-items.ensures.count)
    (refl, indexing_start c.requires.object_row c.members.ensures c.requires.few c.requires.empty)

pub row_at-name-requires : goal.row_at-name-requires
row_at-name-requires g c = (indexing_name c.loop-i.invariant.1 c.in-Some.ensures.steps.0).in_table

pub bucket-b-requires : goal.bucket-b-requires
bucket-b-requires g c = omega (arith, quotes_read c.row_at-name.ensures (indexing_name c.loop-i.invariant.1 c.in-Some.ensures.steps.0).quoted)

pub loop-i-preserved : goal.loop-i-preserved
loop-i-preserved g c =
    rw (c.in-Some.ensures.steps.1, c.in-Some.ensures.steps.2)
    (c.loop-i.invariant.0, indexing_next c.loop-i.invariant.1 c.in-Some.ensures.steps.0 c.row_at-name.ensures _ (refl, refl) c.bucket-b.ensures refl)
