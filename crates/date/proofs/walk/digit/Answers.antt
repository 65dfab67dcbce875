-- `date::walk::digit` meets its contract: with the byte of a digit, and with the character of one.
use native.Mathlib.Omega.{arith}
use Rattle.date.proofs.walk.Laws.{byte_told, digit_told}
use Rattle.date.proofs.walk.digit.Goals as goal

pub returns-in-48-to-57 : goal.returns-in-48-to-57
returns-in-48-to-57 c = λ l k e. byte_told _ _ l k e _ c.peek.ensures (omega arith) (omega arith) _ c.from.ensures

pub returns-in-48-to-57-value : goal.returns-in-48-to-57-value
returns-in-48-to-57-value c =
    λ l k e. digit_told _ l k _ _ (c.in_ok-value.ensures l k e) (omega arith) (omega arith)
