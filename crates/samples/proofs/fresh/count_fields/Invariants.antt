-- `count_fields` meets its contract. Invariant: of the names before those that are left, n begin with the letters.
use Rattle.samples.proofs.fresh.Laws.{Counting}
use Rattle.samples.proofs.fresh.count_fields.Given as goal

abbrev pub invariant-loop-row : goal.invariant-loop-row
invariant-loop-row l = Counting l.tree.text.now l.tree.table.now l.object l.letters l.row-iterator l.n
