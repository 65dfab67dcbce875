use native.Mathlib.Omega.{arith}
use Rattle.explain.proofs.pieces.Buffers.{puts_append, puts_as}
use Rattle.explain.proofs.pieces.Decimals.{decimal_small, decimal_large, decimal_near}
use Rattle.explain.proofs.pieces.+put_index.Goals as goal

pub returns-then-index-lt10 : goal.returns-then-index-lt10
returns-then-index-lt10 t c = puts_as (decimal_small _ (omega arith)) c.put.ensures

pub put-requires-2 : goal.put-requires-2
put-requires-2 t c = omega (arith, decimal_near c.put_index-behind.ensures (omega arith))

pub returns : goal.returns
returns t c = puts_as (decimal_large _ (omega arith)) (puts_append c.put_index-behind.ensures c.put-2.ensures)
