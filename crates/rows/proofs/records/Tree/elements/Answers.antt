-- `elements` meets its contract: the table holds each of them.
use mathlib.Core.Path.{refl}
use Rattle.rows.proofs.children.Laws.{all_items}
use Rattle.rows.proofs.records.Tree.elements.Goals as goal

pub returns : goal.returns
returns c = record { ahead = all_items c.requires c.row_at.ensures.children; table = refl; row = refl; left = c.row_at.ensures.children }
