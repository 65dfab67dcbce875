-- `failing_name` meets its contract: `FailingNames` has a law for each way out.
use native.Mathlib.Omega.{arith}
use Rattle.definitions.proofs.Facts.{body_in, find_required, find_optional}
use Rattle.comparison.proofs.Facts.{object_row, required_pair, optional_pair}
use Rattle.counterexample.proofs.witnesses.FailingNames.{failing_row, failing_quotes, name_required, name_lacking, name_optional}
use Rattle.counterexample.proofs.witnesses.failing_name.Goals as goal

-- the row of the body
pub overflow_add-b : goal.overflow_add-b
overflow_add-b c = omega (arith, (body_in c.requires.is c.requires.given.old).here)

pub find-required-requires : goal.find-required-requires
find-required-requires c = object_row c.requires

pub failing_field-requires : goal.failing_field-requires
failing_field-requires c = required_pair c.requires (find_required c.find-required.ensures) c.requires.given

pub row_at-name-requires : goal.row_at-name-requires
row_at-name-requires c = failing_row c.requires (find_required c.find-required.ensures) c.in-Some.ensures

-- its name has quotes
pub between-requires : goal.between-requires
between-requires c = failing_quotes c.requires (find_required c.find-required.ensures) c.in-Some.ensures c.row_at-name.ensures

-- the new one does not ask for it
pub returns-in_err-find_under : goal.returns-in_err-find_under
returns-in_err-find_under c =
    rw c.from_residual.ensures
    (name_lacking c.requires (find_required c.find-required.ensures) c.if-not-of_objects.ensures c.in-Some.ensures c.row_at-name.ensures c.between.ensures
    (rw c.in_err-find_under.was at c.find_under.ensures))

-- it does
pub returns-in-Some : goal.returns-in-Some
returns-in-Some c =
    name_required c.requires (find_required c.find-required.ensures) c.if-not-of_objects.ensures c.in-Some.ensures c.row_at-name.ensures c.between.ensures
    (rw c.in_ok-find_under.was at c.find_under.ensures)

pub overflow_add-b-2 : goal.overflow_add-b-2
overflow_add-b-2 c = omega (arith, (body_in c.requires.is c.requires.given.old).here)

pub find-optional-requires : goal.find-optional-requires
find-optional-requires c = object_row c.requires

pub failing_field-requires-2 : goal.failing_field-requires-2
failing_field-requires-2 c = optional_pair c.requires (find_optional c.find-optional.ensures) c.requires.given

pub returns : goal.returns
returns c =
    name_optional c.requires (find_required c.find-required.ensures) c.if-not-of_objects.ensures c.in_default.ensures
    (find_optional c.find-optional.ensures) c.failing_field-2.ensures
