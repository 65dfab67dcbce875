-- `type_at` meets its contract: a string names a type; another definition names none.
use mathlib.Core.Path.{sym, ◌∙◌}
use Rattle.rows.proofs.Facts.{in_table, string_quoted, quotes_read}
use Rattle.definitions.proofs.shapes.Laws.{type_none, type_named}
use Rattle.definitions.proofs.shapes.type_at.Goals as goal

pub row_at-definition-requires : goal.row_at-definition-requires
row_at-definition-requires c = in_table c.requires.row

pub returns-then-definition-ne6 : goal.returns-then-definition-ne6
returns-then-definition-ne6 c = type_none c.row_at-definition.ensures c.if-definition-ne6.true

pub between-requires : goal.between-requires
between-requires c =
    quotes_read c.row_at-definition.ensures (string_quoted c.requires.row (sym c.row_at-definition.ensures.kind ∙ c.if-definition-ne6.false))

pub returns : goal.returns
returns c =
    type_named c.row_at-definition.ensures c.if-definition-ne6.false c.between.ensures c.named_type.ensures
