-- `date::spelling::day_text` meets its contract: the first and the last day have those numbers.
use native.Mathlib.Omega.{arith}
use lib.IntN.{pos, negsuc}
use lib.Signed.{◌≤ℤ◌}
use Rattle.std.proofs.lemmas.Int.{ints}
use Rattle.model.proofs.DayNumbers.{least_number, greatest_number}
use Rattle.date.proofs.spelling.Laws.{is_number, writes}
use Rattle.date.proofs.spelling.day_text.Goals as goal

pub returns-in-minus719528-to-2932896 : goal.returns-in-minus719528-to-2932896
returns-in-minus719528-to-2932896 c =
    let least : negsuc 719527 ≤ℤ c.args.number = omega (arith, ints) in
    let greatest : c.args.number ≤ℤ pos 2932896 = omega (arith, ints) in
    (is_number c.args.number least greatest, writes _ _ _ c.text.ensures (omega (arith, ints)))

pub returns-in_default : goal.returns-in_default
returns-in_default c = rw (least_number, greatest_number) (grind (arith, ints))

pub returns-in_default-2 : goal.returns-in_default-2
returns-in_default-2 c = rw (least_number, greatest_number) (grind (arith, ints))
