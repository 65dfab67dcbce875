-- `chars::hashing::hashed_end` meets its contract. The loop's invariant: the characters up to i are hashed to h, and the string goes on at i.
use Prim.Native.Nat.{◌-◌}
use lib.ListN.{length}
use Rattle.chars.proofs.hashing.Laws.{SoFar}
use Rattle.chars.proofs.hashing.hashed_end.Given as goal

abbrev pub invariant-loop-h : goal.invariant-loop-h
invariant-loop-h l = SoFar l.text l.at l.h l.i

abbrev pub decreases-loop-h : goal.decreases-loop-h
decreases-loop-h l = length l.text - l.i
