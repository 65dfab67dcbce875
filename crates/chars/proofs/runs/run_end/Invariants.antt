-- `run_end` meets its contract. The loop's invariant: the run from `at` on ends where that from i on does.
use Prim.Native.Nat.{ℕ, ◌-◌}
use mathlib.Core.Path.{◌≡◌}
use mathlib.Core.Bool.{Bool}
use lib.ListN.{length}
use Rattle.chars.specs.Runs.{run, Answers}
use Rattle.chars.proofs.runs.run_end.Given as goal

abbrev pub invariant-loop-i : goal.invariant-loop-i
invariant-loop-i g l = (p : ℕ → Bool) → Answers (goal.F-post g l.passes) p → run p l.text l.at ≡ run p l.text l.i

abbrev pub decreases-loop-i : goal.decreases-loop-i
decreases-loop-i g l = length l.text - l.i
