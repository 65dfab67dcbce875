use mathlib.Core.Path.{◌∙◌}
use native.Mathlib.Omega.{arith}
use Rattle.std.proofs.Common.{rules}
use Rattle.rows.specs.Matching.{HasIndex}
use Rattle.rows.proofs.matching.Laws.{search_start, search_name, search_next, search_end}
use Rattle.rows.proofs.records.Tree.match_names.Goals as goal

pub loop-row-init : goal.loop-row-init
loop-row-init g c = rw c.into_iter-row-iterator.ensures.into_iter_gives (search_start c.requires.object_row c.members-row-items.ensures)

pub fill-requires : goal.fill-requires
fill-requires g c =
    let here = search_name c.loop-row.invariant c.in-Some.ensures.steps in
    let index : HasIndex c.list.new.self = record { count = _; index = c.list.ensures.tells c.requires.object_row_2 } in
    (search rules, (omega (arith, c.requires.places), (here.in_table, (here.quoted, (index, c.loop-row.invariant.long ∙ c.requires.part_bound.1)))))

pub loop-row-preserved : goal.loop-row-preserved
loop-row-preserved g c = search_next c.loop-row.invariant c.in-Some.ensures.steps c.fill.ensures

pub returns : goal.returns
returns g c = search_end c.loop-row.invariant c.in-None.ensures.steps c.list.ensures
