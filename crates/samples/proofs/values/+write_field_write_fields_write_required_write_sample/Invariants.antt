-- The writers of samples meet their contracts. The measure is three times the rows of the definition, with up to two more by the order of the calls;
-- fields that are absent count none. The loop's invariant is `InFields`.
use Prim.Native.Nat.{◌+◌, ◌*◌}
use Rattle.std.specs.Prelude.{option_map}
use Rattle.chars.specs.Strings.{characters}
use Rattle.syntax.specs.Holding.{word}
use Rattle.definitions.proofs.Facts.{part_rows}
use Rattle.samples.proofs.values.Laws.{InFields}
use Rattle.samples.proofs.values.+write_field_write_fields_write_required_write_sample.Given as goal

abbrev pub decreases-write_field : goal.decreases-write_field
decreases-write_field l = 3 * word l.tree.table.now (l.row + 1) 4 + 1

abbrev pub decreases-write_fields : goal.decreases-write_fields
decreases-write_fields l = 3 * part_rows l.tree.table.now l.fields + 1

-- ---- the loop of `write_fields`
abbrev pub invariant-write_fields-loop-row : goal.invariant-write_fields-loop-row
invariant-write_fields-loop-row l =
    InFields l.tree.text.now l.tree.table.now l.object (option_map (λ key. characters key.now) l.but) l.row-iterator l.initial.out l.n l.out

abbrev pub decreases-write_required : goal.decreases-write_required
decreases-write_required l = 3 * part_rows l.tree.table.now l.fields + 2

abbrev pub decreases-write_sample : goal.decreases-write_sample
decreases-write_sample l = 3 * word l.tree.table.now l.row 4
