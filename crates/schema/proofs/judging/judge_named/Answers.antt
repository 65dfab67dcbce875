-- `judge_named` meets its contract: `TypeNames` has a law for each way out.
use mathlib.Core.Path.{refl}
use Rattle.rows.proofs.Facts.{in_table}
use Rattle.schema.proofs.judging.TypeNames.{NamedRead, name_read, name_known, named_date, named_schema, named_kind}
use Rattle.schema.proofs.judging.judge_named.Goals as goal
use Rattle.schema.proofs.judging.judge_named.Goals.{After-unwrap}

-- the type name that was read
read : (c : After-unwrap) → NamedRead c.args.document.text.now c.args.schema.text.now c.args.document.table.now c.args.schema.table.now c.args.at c.args.by
    c.row_at-value.result c.row_at-other.result c.unwrap.result
read c = name_read c.requires c.row_at-value.ensures c.row_at-other.ensures c.type_at.ensures c.unwrap.ensures

pub row_at-value-requires : goal.row_at-value-requires
row_at-value-requires c = in_table c.requires.given.document

pub row_at-other-requires : goal.row_at-other-requires
row_at-other-requires c = in_table c.requires.given.schema

pub unwrap-requires : goal.unwrap-requires
unwrap-requires c = rw (name_known c.requires c.type_at.ensures) refl

pub returns-in-DateTime : goal.returns-in-DateTime
returns-in-DateTime c = named_date (read (goal.at.returns-in-DateTime c).After-unwrap) c.in-DateTime.is c.judge_date.ensures

pub returns-in-Schema : goal.returns-in-Schema
returns-in-Schema c = named_schema (read (goal.at.returns-in-Schema c).After-unwrap) c.in-Schema.is c.define.ensures (rw c.is_ok.ensures.value at c.unless.ensures)

pub returns-in_default : goal.returns-in_default
returns-in_default c =
    named_kind (read (goal.at.returns-in_default c).After-unwrap) c.in_default.not-Schema c.in_default.not-DateTime
    (rw c.takes.ensures at c.unless-in_default.ensures)
