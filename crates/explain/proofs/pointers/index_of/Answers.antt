use native.Mathlib.Omega.{arith}
use Rattle.explain.proofs.pointers.Elements.{element_ahead, passed_here, passed_all}
use Rattle.explain.proofs.pointers.index_of.Goals as goal

pub overflow_add-row : goal.overflow_add-row
overflow_add-row c = omega (arith, element_ahead c.requires.is)

pub row_at-row-requires : goal.row_at-row-requires
row_at-row-requires c = (passed_here (c.loop-row.invariant c.requires) c.loop-row-test.true).in_table

pub overflow_add-index : goal.overflow_add-index
overflow_add-index c = omega (arith, (c.loop-row.invariant c.requires).few)

pub loop-row-smaller : goal.loop-row-smaller
loop-row-smaller c =
    omega (arith, (passed_here (c.loop-row.invariant c.requires) c.loop-row-test.true).long, c.row_at-row.ensures.next)

pub loop-row-preserved : goal.loop-row-preserved
loop-row-preserved c = λ d. (passed_here (c.loop-row.invariant d) c.loop-row-test.true).next c.row_at-row.ensures.next

pub returns : goal.returns
returns c = record { tells = λ d. passed_all (c.loop-row.invariant d) c.loop-row-test.false }
