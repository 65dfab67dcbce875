-- `chars::strings::same_characters` meets its contract. The loop's invariant: the names are the same where what is left of them is.
use mathlib.Core.Path.{◌≡◌}
use Prim.Native.Nat.{◌-◌}
use lib.ListN.{length}
use Rattle.chars.specs.Strings.{characters, chars_at}
use Rattle.model.specs.Text.{same}
use Rattle.chars.proofs.strings.same_characters.Given as goal

abbrev pub invariant-loop-x : goal.invariant-loop-x
invariant-loop-x l = same (characters l.a-2) (characters l.b-2) ≡ same (chars_at l.a l.i) (chars_at l.b l.j)

abbrev pub decreases-loop-x : goal.decreases-loop-x
decreases-loop-x l = length l.a - l.i
