-- `match_under` meets its contract: a required name goes before an optional one.
use mathlib.Core.Path.{◌≡◌, ◌∙◌}
use native.Mathlib.Omega.{arith}
use lib.ListN.{length}
use Rattle.definitions.proofs.Facts.{find_required, find_optional, object_body, body_in, required_fields, optional_fields}
use Rattle.comparison.proofs.fields.Laws.{none_length, under_required, under_any}
use Rattle.comparison.proofs.fields.match_under.Goals as goal

pub overflow_add-row : goal.overflow_add-row
overflow_add-row g c = omega (arith, (body_in c.requires.defined_row.1 c.requires.defined_row.0).here)

pub find-requires : goal.find-requires
find-requires g c = object_body c.requires.defined_row.1 c.requires.defined_row.0

pub match_fields-requires : goal.match_fields-requires
match_fields-requires g c =
    let fields = required_fields c.requires.defined_row.1 (find_required c.find.ensures) c.requires.defined_row.0 in
    let long : length c.args.found.now ≡ g.row.NAMES = none_length c.requires.part_bound.1 in
    (omega (arith, c.requires.places), ((fields, c.requires.object_row), ((c.requires.part_bound.0, long), c.requires.places)))

pub overflow_add-row-then-not-required : goal.overflow_add-row-then-not-required
overflow_add-row-then-not-required g c = omega (arith, (body_in c.requires.defined_row.1 c.requires.defined_row.0).here)

pub find-requires-then-not-required : goal.find-requires-then-not-required
find-requires-then-not-required g c = object_body c.requires.defined_row.1 c.requires.defined_row.0

pub match_fields-requires-then-not-required : goal.match_fields-requires-then-not-required
match_fields-requires-then-not-required g c =
    let fields = optional_fields c.requires.defined_row.1 (find_optional c.find-then-not-required.ensures) c.requires.defined_row.0 in
    let long : length c.match_fields.new.found ≡ g.row.NAMES = c.match_fields.ensures.long ∙ none_length c.requires.part_bound.1 in
    (omega (arith, c.requires.places), ((fields, c.requires.object_row), ((c.requires.part_bound.0, long), c.requires.places)))

pub returns-then-not-required : goal.returns-then-not-required
returns-then-not-required g c =
    under_any c.requires.defined_row.1 c.requires.part_bound.0 (find_required c.find.ensures)
    (rw c.requires.part_bound.1 at c.match_fields.ensures)
    c.if-not-required.true (find_optional c.find-then-not-required.ensures) c.match_fields-then-not-required.ensures

pub returns-else-not-required : goal.returns-else-not-required
returns-else-not-required g c =
    under_required c.requires.defined_row.1 c.requires.part_bound.0 (find_required c.find.ensures)
    (rw c.requires.part_bound.1 at c.match_fields.ensures) c.if-not-required.false
