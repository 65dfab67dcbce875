-- `chars::strings::string_end` meets its contract. The loop's invariant: the string from `at` on ends as that from i on does.
use mathlib.Core.Path.{◌≡◌}
use Prim.Native.Nat.{◌-◌}
use lib.ListN.{length}
use Rattle.chars.specs.Strings.{string_at}
use Rattle.chars.proofs.strings.string_end.Given as goal

abbrev pub invariant-loop-at : goal.invariant-loop-at
invariant-loop-at l = string_at l.text l.at ≡ string_at l.text l.i

abbrev pub decreases-loop-at : goal.decreases-loop-at
decreases-loop-at l = length l.text - l.i
