-- `explain::pointers::index_of` meets its contract. The loop's invariant: `index` elements stand before row `row`, and the one that is sought does not.
use Prim.Native.Nat.{◌-◌}
use Rattle.explain.specs.Writing.{ElementRow}
use Rattle.explain.proofs.pointers.Elements.{Passed}
use Rattle.explain.proofs.pointers.index_of.Given as goal

abbrev pub invariant-loop-row : goal.invariant-loop-row
invariant-loop-row l =
    (d : ElementRow l.tree.table.now l.parent l.child) → Passed l.tree.table.now l.child d.index d.value l.row l.index

abbrev pub decreases-loop-row : goal.decreases-loop-row
decreases-loop-row l = l.child - l.row
