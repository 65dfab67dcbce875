-- `write_beside` meets its contract: piece by piece, the brace, the fresh name, its value, the other members and the closing brace.
use native.Mathlib.Omega.{arith}
use lib.ListN.{length-set}
use Rattle.definitions.proofs.Facts.{object_body, body_in}
use Rattle.samples.proofs.fresh.Beside.{room, lent_begun, lent_named, lent_valued, lent_all, beside_written, required_row}
use Rattle.samples.proofs.fresh.write_beside.Goals as goal

pub bounds-out-1 : goal.bounds-out-1
bounds-out-1 c = simp length-set (omega (arith, room _ _ _ c.args.out.now c.requires.beyond_ready c.requires.generic_row))

pub slice_bounds-write_letters-count : goal.slice_bounds-write_letters-count
slice_bounds-write_letters-count c =
    let l = lent_begun _ _ _ c.args.out.now c.requires.beyond_ready c.requires.generic_row in
    omega (arith, l.room, l.same)

pub slice_bounds-write_letters-start : goal.slice_bounds-write_letters-start
slice_bounds-write_letters-start c =
    let l = lent_begun _ _ _ c.args.out.now c.requires.beyond_ready c.requires.generic_row in
    omega (arith, l.room, l.same)

pub write_letters-n-requires : goal.write_letters-n-requires
write_letters-n-requires c =
    let l = lent_begun _ _ _ c.args.out.now c.requires.beyond_ready c.requires.generic_row in
    record { row = c.requires.beyond_ready.row; is = c.requires.generic_row; fits = omega (arith, l.left) }

pub write_bytes-n-requires : goal.write_bytes-n-requires
write_bytes-n-requires c =
    let l = lent_named _ _ _ c.args.out.now c.requires.beyond_ready c.requires.generic_row c.write_letters-n.ensures in
    omega (arith, l.left)

pub overflow_add-row : goal.overflow_add-row
overflow_add-row c = omega (arith, (body_in c.requires.generic_row c.requires.beyond_ready.row).here)

pub find-fields-requires : goal.find-fields-requires
find-fields-requires c = object_body c.requires.generic_row c.requires.beyond_ready.row

pub write_fields-n-requires : goal.write_fields-n-requires
write_fields-n-requires c =
    let l = lent_valued _ _ _ c.args.out.now c.requires.beyond_ready c.requires.generic_row c.write_letters-n.ensures c.write_bytes-n.ensures in
    record {
      row = required_row _ _ _ c.args.out.now c.requires.beyond_ready c.requires.generic_row c.find-fields.ensures;
      fits = omega (arith, l.left);
    }

pub overflow_add-n-3 : goal.overflow_add-n-3
overflow_add-n-3 c =
    let row = required_row _ _ _ c.args.out.now c.requires.beyond_ready c.requires.generic_row c.find-fields.ensures in
    let l = lent_all _ _ _ c.args.out.now c.requires.beyond_ready c.requires.generic_row c.write_letters-n.ensures c.write_bytes-n.ensures
    (c.write_fields-n.ensures.tells row) in
    omega (arith, l.room, c.well_formed)

pub bounds-out-n : goal.bounds-out-n
bounds-out-n c =
    let row = required_row _ _ _ c.args.out.now c.requires.beyond_ready c.requires.generic_row c.find-fields.ensures in
    let l = lent_all _ _ _ c.args.out.now c.requires.beyond_ready c.requires.generic_row c.write_letters-n.ensures c.write_bytes-n.ensures
    (c.write_fields-n.ensures.tells row) in
    omega (arith, l.room, l.same)

pub overflow_add-result : goal.overflow_add-result
overflow_add-result c =
    let row = required_row _ _ _ c.args.out.now c.requires.beyond_ready c.requires.generic_row c.find-fields.ensures in
    let l = lent_all _ _ _ c.args.out.now c.requires.beyond_ready c.requires.generic_row c.write_letters-n.ensures c.write_bytes-n.ensures
    (c.write_fields-n.ensures.tells row) in
    omega (arith, l.room, c.well_formed)

pub returns : goal.returns
returns c =
    let row = required_row _ _ _ c.args.out.now c.requires.beyond_ready c.requires.generic_row c.find-fields.ensures in
    beside_written _ _ _ c.args.out.now c.requires.beyond_ready c.requires.generic_row c.write_letters-n.ensures c.write_bytes-n.ensures
    (c.write_fields-n.ensures.tells row)
