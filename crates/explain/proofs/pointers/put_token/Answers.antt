-- `explain::pointers::put_token` meets its contract: a name or an index behind the slash.
use native.Mathlib.Omega.{arith}
use Rattle.rows.proofs.Facts.{quotes_read}
use Rattle.explain.proofs.pointers.Steps.{step_name, put_named, put_indexed}
use Rattle.explain.proofs.pointers.put_token.Goals as goal

pub overflow_sub-child : goal.overflow_sub-child
overflow_sub-child c = omega (arith, (step_name c.requires.step c.row_at.ensures c.if-row_at-eq8.true).behind)

pub row_at-name-requires : goal.row_at-name-requires
row_at-name-requires c = (step_name c.requires.step c.row_at.ensures c.if-row_at-eq8.true).in_table

pub between-requires : goal.between-requires
between-requires c = quotes_read c.row_at-name.ensures (step_name c.requires.step c.row_at.ensures c.if-row_at-eq8.true).quoted

pub returns-then-row_at-eq8 : goal.returns-then-row_at-eq8
returns-then-row_at-eq8 c =
    record {
      tells = λ d. put_named d c.row_at.ensures c.put-behind.ensures c.if-row_at-eq8.true c.row_at-name.ensures c.between.ensures
          c.put_name.ensures;
    }

pub returns : goal.returns
returns c =
    record {
      tells = λ d. put_indexed d c.row_at.ensures c.put-behind.ensures c.if-row_at-eq8.false c.index_of.ensures c.put_index.ensures;
    }
