-- `bucket` meets its contract: a name has its hash, and what is broken is no name.
use mathlib.Core.Path.{sym, ◌∙◌}
use Rattle.rows.proofs.matching.Names.{name-bucket, broken_bucket}
use Rattle.rows.proofs.records.Tree.bucket.Goals as goal

pub returns-in-Ok : goal.returns-in-Ok
returns-in-Ok c = name-bucket (sym c.hashed_end.ensures ∙ c.in-Ok.is)

pub returns-in-Err : goal.returns-in-Err
returns-in-Err c = broken_bucket (sym c.hashed_end.ensures ∙ c.in-Err.is)
