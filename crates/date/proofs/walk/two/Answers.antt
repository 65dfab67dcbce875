-- `date::walk::two` meets its contract: the number of two digits is small.
use native.Mathlib.Omega.{arith}
use Rattle.date.proofs.walk.Laws.{digit_most}
use Rattle.date.proofs.walk.two.Goals as goal

pub overflow_mul-result : goal.overflow_mul-result
overflow_mul-result c = omega (arith, digit_most c.in_ok-tens.was _ _ c.digit.ensures)

pub overflow_add-result : goal.overflow_add-result
overflow_add-result c =
    omega (arith, digit_most c.in_ok-tens.was _ _ c.digit.ensures, digit_most c.in_ok-ones.was _ _ c.digit-2.ensures)
