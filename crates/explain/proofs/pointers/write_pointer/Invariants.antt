-- `explain::pointers::write_pointer` meets its contract. The loop's invariant: the tokens from the top down to the last row that is left are put.
use mathlib.Core.Path.{◌≡◌}
use Rattle.std.specs.Slice.Iter.{windows_rest, windows_size}
use Rattle.std.specs.Iterator.Adapters.{rev_source}
use Rattle.explain.proofs.pointers.Chains.{Chained, Downwards}
use Rattle.explain.proofs.pointers.write_pointer.Given as goal

abbrev pub invariant-loop-pair : goal.invariant-loop-pair
invariant-loop-pair l =
    (windows_size (rev_source l.pair-iterator) ≡ 2)
    × ((d : Chained l.tree.text.now l.tree.table.now l.path)
    → Downwards l.tree.text.now l.tree.table.now l.path d.bytes l.initial.out (windows_rest (rev_source l.pair-iterator)) l.at l.out)
