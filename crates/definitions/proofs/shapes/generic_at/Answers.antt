-- `generic_at` meets its contract: a type name has no generic type; another definition has one member, whose name is the generic type.
use mathlib.Core.Path.{◌∙◌}
use native.Mathlib.Omega.{arith}
use Rattle.rows.proofs.Facts.{in_table, quotes_read}
use Rattle.definitions.proofs.shapes.Laws.{Under, one_member, generic_none, generic_named}
use Rattle.definitions.proofs.shapes.generic_at.Goals as goal
use Rattle.definitions.proofs.shapes.generic_at.Goals.{Else-row_at-eq6}

member : (c : Else-row_at-eq6) → Under c.args.tree.text.now c.args.tree.table.now c.args.row c.requires.definition
member c = one_member c.requires (λ e. c.if-row_at-eq6.false (c.row_at.ensures.kind ∙ e))

pub row_at-requires : goal.row_at-requires
row_at-requires c = in_table c.requires.row

pub returns-then-row_at-eq6 : goal.returns-then-row_at-eq6
returns-then-row_at-eq6 c = generic_none c.row_at.ensures c.if-row_at-eq6.true

pub overflow_add-row : goal.overflow_add-row
overflow_add-row c = omega (arith, (in_table (member c).value).here, c.well_formed)

pub row_at-name-requires : goal.row_at-name-requires
row_at-name-requires c = (member (goal.at.row_at-name-requires c).Else-row_at-eq6).in_table

pub between-requires : goal.between-requires
between-requires c = quotes_read c.row_at-name.ensures (member (goal.at.between-requires c).Else-row_at-eq6).quoted

pub returns : goal.returns
returns c = generic_named c.row_at.ensures c.if-row_at-eq6.false c.row_at-name.ensures c.between.ensures c.generic_name.ensures
