-- `reader::scanning::leaf` meets its contract: what `scalar` answers, and the mark that is kept of it.
use native.Mathlib.Omega.{arith}
use Rattle.std.proofs.lemmas.Result.{err_from_is_err_and}
use Rattle.reader.proofs.scanning.Leaves.{leaf_read, leaf_broken, leaf_fits, leaf_noted}
use Rattle.reader.proofs.scanning.leaf.Goals as goal

pub returns-in_err-token : goal.returns-in_err-token
returns-in_err-token c =
    let exit = err_from_is_err_and c.from_residual.result c.from_residual.ensures.1 in
    rw (exit.1, exit.2) (leaf_broken (leaf_read c.requires c.scalar.ensures) c.in_err-token.was)

pub leaf_mark-requires : goal.leaf_mark-requires
leaf_mark-requires c = rw c.from.ensures (leaf_fits (leaf_read c.requires c.scalar.ensures) c.in_ok-token.was).0

pub bounds-marks-row : goal.bounds-marks-row
bounds-marks-row c = (leaf_fits (leaf_read c.requires c.scalar.ensures) c.in_ok-token.was).1

pub returns : goal.returns
returns c = leaf_noted (leaf_read c.requires c.scalar.ensures) c.in_ok-token.was (rw c.from.ensures at c.leaf_mark.ensures)

pub offset_bounds-marks-row : goal.offset_bounds-marks-row
offset_bounds-marks-row c = omega (arith, bounds-marks-row c)
