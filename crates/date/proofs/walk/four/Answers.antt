-- `date::walk::four` meets its contract: the number of four digits is small.
use native.Mathlib.Omega.{arith}
use Rattle.date.proofs.walk.Laws.{two_most}
use Rattle.date.proofs.walk.four.Goals as goal

pub overflow_mul-result : goal.overflow_mul-result
overflow_mul-result c = omega (arith, two_most c.in_ok-hundreds.was _ _ c.two.ensures)

pub overflow_add-result : goal.overflow_add-result
overflow_add-result c =
    omega (arith, two_most c.in_ok-hundreds.was _ _ c.two.ensures, two_most c.in_ok-ones.was _ _ c.two-2.ensures)
