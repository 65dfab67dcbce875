-- `seen` meets its contract. Invariant: of the rows above the object's, those above k are passed, and k, if it is one, is in the bucket.
-- Measure: k, since links go down.
use lib.ListN.{length}
use Rattle.syntax.specs.Grammar.{name_of}
use Rattle.marks.proofs.names.Search.{Searched}
use Rattle.marks.proofs.names.seen.Given as goal

abbrev pub invariant-loop-k : goal.invariant-loop-k
invariant-loop-k l = Searched l.text l.marks (length l.heads) l.object l.hash (name_of l.text l.at l.end) l.k

abbrev pub decreases-loop-k : goal.decreases-loop-k
decreases-loop-k l = l.k
