-- `judge_date` meets its contract: a string that is no date, and a date; `DateTimes` has a law for each.
use mathlib.Core.Path.{◌≡◌}
use Rattle.std.proofs.Common.{rules}
use Rattle.date.specs.Moments.{moment_of}
use Rattle.syntax.specs.Grammar.{name_of}
use Rattle.rows.proofs.Facts.{in_table, string_quoted, quotes_read}
use Rattle.schema.proofs.judging.DateTimes.{date_string, date_is, date_not}
use Rattle.schema.proofs.judging.judge_date.Goals as goal

pub row_at-value-requires : goal.row_at-value-requires
row_at-value-requires c = in_table c.requires

pub between-requires : goal.between-requires
between-requires c =
    quotes_read c.row_at-value.ensures (string_quoted c.requires (date_string c.row_at-value.ensures c.args.other c.unless.ensures c.in_ok-unless.was))

pub returns-in_default : goal.returns-in_default
returns-in_default c =
    let told : c.moment_of.result ≡ moment_of (name_of c.args.document.text.now c.row_at-value.result.first c.row_at-value.result.end) =
    rw c.between.ensures at c.moment_of.ensures in
    date_not c.row_at-value.ensures c.args.other c.unless.ensures c.in_ok-unless.was told c.in_default.is c.new.ensures

pub returns : goal.returns
returns c =
    let told : c.moment_of.result ≡ moment_of (name_of c.args.document.text.now c.row_at-value.result.first c.row_at-value.result.end) =
    rw c.between.ensures at c.moment_of.ensures in
    date_is c.row_at-value.ensures c.args.other c.unless.ensures c.in_ok-unless.was told c.in-Some.is (search rules) c.add.ensures
