-- `date::endings::digits` meets its contract. The loop's invariant: what stands at `at` ends as what stands at i does.
use mathlib.Core.Path.{◌≡◌}
use lib.ListN.{length}
use Rattle.model.specs.Date.{after_digits}
use Rattle.chars.specs.Strings.{chars_at}
use Rattle.date.proofs.endings.digits.Given as goal

abbrev pub invariant-loop-next : goal.invariant-loop-next
invariant-loop-next l = after_digits (chars_at l.body l.at) ≡ after_digits (chars_at l.body l.i)

abbrev pub decreases-loop-next : goal.decreases-loop-next
decreases-loop-next l = length (chars_at l.body l.i)
