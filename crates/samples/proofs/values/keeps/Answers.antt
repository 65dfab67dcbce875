use Rattle.rows.proofs.Facts.{quotes_read}
use Rattle.samples.proofs.values.keeps.Goals as goal

pub between-requires : goal.between-requires
between-requires c = quotes_read c.row_at-name.ensures c.requires.quoted
