use mathlib.Core.Path.{sym, ◌∙◌}
use Rattle.std.proofs.lemmas.Result.{err_from_is_err_and}
use Rattle.rows.proofs.Facts.{in_table, found}
use Rattle.definitions.proofs.definitions.Body.{part_other}
use Rattle.definitions.proofs.definitions.part_under.Goals as goal

pub object_at-requires : goal.object_at-requires
object_at-requires c = in_table (found c.requires c.in-Some.ensures).value

pub returns-in_err-object_at : goal.returns-in_err-object_at
returns-in_err-object_at c =
    let exit = err_from_is_err_and c.from_residual.result c.from_residual.ensures.1 in
    rw (exit.1, exit.2) (part_other c.args.tree.table.now c.in-Some.row (sym c.object_at.ensures ∙ c.in_err-object_at.was) c.in-Some.ensures)
