-- `chars::wide::wide_end` meets its contract: each arm by its bytes.
use mathlib.Core.Path.{sym, ◌∙◌}
use native.Mathlib.Omega.{arith}
use Rattle.chars.proofs.wide.Laws.{two_wide}
use Rattle.chars.proofs.wide.wide_end.Goals as goal

pub returns-in_ok-six_at-in-194-to-223 : goal.returns-in_ok-six_at-in-194-to-223
returns-in_ok-six_at-in-194-to-223 c =
    two_wide _ _ c.peek-b.ensures (omega arith) (omega arith) (sym c.six_at.ensures.value ∙ c.in_ok-six_at-in-194-to-223.was)
