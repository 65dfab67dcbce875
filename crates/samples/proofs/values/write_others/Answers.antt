-- `write_others` meets its contract: an Object's required fields but the key.
use mathlib.Core.Path.{◌≡◌}
use native.Mathlib.Omega.{arith}
use Rattle.std.proofs.Common.{rules, Some, false}
use Rattle.definitions.specs.Shapes.{GenericRow}
use Rattle.definitions.specs.declared.types.Generic.TheVariants.{Object}
use Rattle.definitions.proofs.Facts.{object_body, body_in}
use Rattle.samples.proofs.values.Laws.{is_object, others_ready, others_written, others_none}
use Rattle.samples.proofs.values.write_others.Goals as goal

pub returns-then-ne : goal.returns-then-ne
returns-then-ne c = let h : is_object c.generic_at.result ≡ false = search rules in others_none c.generic_at.ensures h

pub overflow_add-row : goal.overflow_add-row
overflow_add-row c =
    let h : GenericRow c.args.tree.text.now c.args.tree.table.now c.args.row (Some Object) = search rules in omega (arith, (body_in h c.requires.row).here)

pub find-requires : goal.find-requires
find-requires c =
    let h : GenericRow c.args.tree.text.now c.args.tree.table.now c.args.row (Some Object) = search rules in object_body h c.requires.row

pub write_fields-requires : goal.write_fields-requires
write_fields-requires c =
    let h : GenericRow c.args.tree.text.now c.args.tree.table.now c.args.row (Some Object) = search rules in others_ready h c.find.ensures c.requires

pub returns : goal.returns
returns c =
    let h : GenericRow c.args.tree.text.now c.args.tree.table.now c.args.row (Some Object) = search rules in
    others_written h c.find.ensures c.write_fields.ensures
