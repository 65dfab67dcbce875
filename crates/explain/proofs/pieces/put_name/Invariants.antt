-- `explain::pieces::put_name` meets its contract. The loop's invariant: the characters up to i are put.
use Prim.Native.Nat.{◌-◌}
use lib.ListN.{length}
use Rattle.explain.proofs.pieces.Names.{Naming}
use Rattle.explain.proofs.pieces.put_name.Given as goal

abbrev pub invariant-loop-character : goal.invariant-loop-character
invariant-loop-character l = Naming l.name l.at l.initial.out l.next l.i l.out

abbrev pub decreases-loop-character : goal.decreases-loop-character
decreases-loop-character l = length l.name - l.i
