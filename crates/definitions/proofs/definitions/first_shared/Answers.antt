use mathlib.Core.Path.{refl}
use Rattle.rows.proofs.Facts.{quotes_read}
use Rattle.definitions.proofs.definitions.Sharing.{no_required, compare_start, compare_next, compare_end, candidate, shared}
use Rattle.definitions.proofs.definitions.Sharing.{search_start, search_next, other_name, none_has, one_has}
use Rattle.definitions.proofs.definitions.first_shared.Goals as goal

pub returns-in_default : goal.returns-in_default
returns-in_default c = rw c.in_default.is no_required

pub names-init : goal.names-init
names-init c =
    rw c.into_iter-row-iterator.ensures.into_iter_gives
    (compare_start (rw c.in-Some.is at c.requires.part_row) (rw c.in-Some-optional.is at c.requires.part_row_2) c.members-row-items.ensures, refl)

pub row_at-name-requires : goal.row_at-name-requires
row_at-name-requires c = (candidate c.names.invariant.0 c.in-Some-row.ensures.steps).in_table

pub between-key-requires : goal.between-key-requires
between-key-requires c = quotes_read c.row_at-name.ensures (candidate c.names.invariant.0 c.in-Some-row.ensures.steps).quoted

pub loop-other-init : goal.loop-other-init
loop-other-init c =
    rw c.into_iter-other-iterator.ensures.into_iter_gives (search_start c.names.invariant.0.required c.members-other-items.ensures, c.names.invariant.1)

pub row_at-next-requires : goal.row_at-next-requires
row_at-next-requires c = (other_name c.loop-other.invariant.0 c.in-Some-other.ensures.steps).in_table

pub between-requires : goal.between-requires
between-requires c = quotes_read c.row_at-next.ensures (other_name c.loop-other.invariant.0 c.in-Some-other.ensures.steps).quoted

pub loop-other-preserved : goal.loop-other-preserved
loop-other-preserved c = (
  search_next c.loop-other.invariant.0 c.in-Some-other.ensures.steps c.row_at-next.ensures c.between.ensures c.same_name.ensures c.if-same_name.false,
  c.loop-other.invariant.1,
)

pub names-preserved : goal.names-preserved
names-preserved c = (
  compare_next c.names.invariant.0 c.in-Some-row.ensures.steps c.row_at-name.ensures c.between-key.ensures
      (none_has c.loop-other.invariant.0 c.in-None-other.ensures.steps),
  c.loop-other.invariant.1,
)

pub returns-then-same_name : goal.returns-then-same_name
returns-then-same_name c =
    rw (c.in-Some.is, c.in-Some-optional.is, c.at.ensures)
    (shared c.names.invariant.0 c.in-Some-row.ensures.steps c.row_at-name.ensures c.between-key.ensures
    (one_has c.loop-other.invariant.0 c.in-Some-other.ensures.steps c.row_at-next.ensures c.between.ensures c.same_name.ensures c.if-same_name.true))

pub returns-in-None : goal.returns-in-None
returns-in-None c =
    rw (c.in-Some.is, c.in-Some-optional.is, c.names.invariant.1) (compare_end c.names.invariant.0 c.in-None.ensures.steps)
