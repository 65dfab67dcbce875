-- `list` meets its contract. Invariant: the names before those that are left are indexed.
use mathlib.Core.Path.{◌≡◌}
use Rattle.std.specs.Iterator.Adapters.{enumerate_source, enumerate_count}
use Rattle.rows.proofs.matching.Names.{Indexing}
use Rattle.rows.proofs.matching.Index.list.Given as goal

abbrev pub invariant-loop-i : goal.invariant-loop-i
invariant-loop-i g l =
    (l.self.tree ≡ l.tree)
    × Indexing g.row.NAMES l.tree.text.now l.tree.table.now l.object l.self.heads l.self.names (enumerate_count l.i-iterator) (enumerate_source l.i-iterator)
