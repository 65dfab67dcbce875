-- `date::fields::clock` meets its contract, with an hour and a minute.
use Prim.Native.Nat.{◌+◌}
use native.Mathlib.Omega.{arith}
use Rattle.date.proofs.fields.Laws.{clock_read}
use Rattle.date.proofs.fields.clock.Goals as goal

pub returns : goal.returns
returns c = λ l k e.
    let hour = c.in_ok-hour.ensures l k e in
    clock_read _ l k _ _ hour (c.in_ok-minute.ensures l (k + 2) hour.2) (omega arith) (omega arith)
