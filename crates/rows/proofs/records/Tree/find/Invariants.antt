-- `find` meets its contract. Invariant: the name was not among the members before those that are left.
use Rattle.chars.specs.Strings.{characters}
use Rattle.rows.proofs.finding.Laws.{Seeking}
use Rattle.rows.proofs.records.Tree.find.Given as goal

abbrev pub invariant-loop-row : goal.invariant-loop-row
invariant-loop-row l = Seeking l.self.text.now l.self.table.now l.object (characters l.key) l.row-iterator
