use Prim.Native.Nat.{◌+◌, ◌≤◌}
use native.Mathlib.Omega.{arith}
use Rattle.model.specs.Calendar.{first_years}
use Rattle.model.proofs.DayNumbers.{years_few}
use Rattle.date.proofs.spelling.year_at.Goals as goal

pub loop-year-preserved : goal.loop-year-preserved
loop-year-preserved c =
    let begins : first_years (c.loop-year.year + 1) ≤ c.args.count = omega arith in
    (years_few (c.loop-year.year + 1) c.args.count begins c.requires, begins)
