-- `chars::wide::wides` meets its contract. The loop's invariant: i is not before `at`, and the string goes on at i.
use mathlib.Core.Path.{◌≡◌}
use Prim.Native.Nat.{◌-◌, ◌≤◌}
use lib.ListN.{length}
use Rattle.chars.specs.Strings.{string_at}
use Rattle.chars.proofs.wide.wides.Given as goal

abbrev pub invariant-loop-next : goal.invariant-loop-next
invariant-loop-next l = (l.at ≤ l.i) × (string_at l.text l.i ≡ string_at l.text l.at)

abbrev pub decreases-loop-next : goal.decreases-loop-next
decreases-loop-next l = length l.text - l.i
