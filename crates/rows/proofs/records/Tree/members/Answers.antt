-- `members` meets its contract: the table holds each of them.
use mathlib.Core.Path.{refl}
use Rattle.rows.proofs.children.Laws.{all_names}
use Rattle.rows.proofs.records.Tree.members.Goals as goal

pub returns : goal.returns
returns c = record { ahead = all_names c.requires c.row_at.ensures.children; table = refl; row = refl; left = c.row_at.ensures.children }
