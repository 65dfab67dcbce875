-- `fill` meets its contract. Invariant: the names of the bucket behind the next are settled. Measure: how many there are up to it, since entries lead down.
use Prim.Native.Nat.{◌+◌}
use Rattle.syntax.specs.Grammar.{name_of}
use Rattle.syntax.specs.Holding.{word}
use Rattle.rows.specs.Matching.{up_to}
use Rattle.rows.proofs.matching.Laws.{Along}
use Rattle.rows.proofs.matching.Index.fill.Given as goal

abbrev pub invariant-loop-next : goal.invariant-loop-next
invariant-loop-next g l =
    Along l.self (name_of l.tree.text.now (word l.tree.table.now l.row 1) (word l.tree.table.now l.row 2)) (l.row + 1) l.initial.found l.found l.next

abbrev pub decreases-loop-next : goal.decreases-loop-next
decreases-loop-next g l = up_to l.next
