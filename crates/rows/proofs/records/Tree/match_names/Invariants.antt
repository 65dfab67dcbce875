-- `match_names` meets its contract: the names of the second object are indexed. Invariant: what is found is so by the members before those that are left.
use Rattle.rows.proofs.matching.Laws.{Searching}
use Rattle.rows.proofs.records.Tree.match_names.Given as goal

abbrev pub invariant-loop-row : goal.invariant-loop-row
invariant-loop-row g l = Searching l.self.text.now l.self.table.now l.object l.index l.initial.found l.found l.row-iterator
