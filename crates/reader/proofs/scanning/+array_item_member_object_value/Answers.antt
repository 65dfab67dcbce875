use mathlib.Core.Path.{◌≡◌, ap}
use Rattle.std.specs.Prelude.{Ok}
use Rattle.std.proofs.lemmas.Result.{err_from_is_err_and}
use native.Mathlib.Omega.{arith}
use borrow.Enum.Refused.{opened}
use Rattle.tokens.specs.declared.scalars.First.TheVariants.{Object}
use Rattle.syntax.proofs.Facts.{opens_object}
use Rattle.reader.proofs.scanning.Closing.{array_closing, object_closing, colon_sign}
use Rattle.reader.proofs.scanning.Lists.{Opened, inside_ready, turn_takes, turn_fits, turn_close, turn_bad, turn_on, turn_next}
use Rattle.reader.proofs.scanning.Arrays.{ElementSaid, ElementFollowed, array_empty_fits, array_empty, array_first, array_refused}
use Rattle.reader.proofs.scanning.Arrays.{array_turn}
use Rattle.reader.proofs.scanning.Objects.{MemberSaid, MemberFollowed, object_empty_fits, object_empty, object_first}
use Rattle.reader.proofs.scanning.Objects.{object_ready, object_refused, object_turn}
use Rattle.reader.proofs.scanning.Members.{NameRead, Named, Valued, name_ready, name_read, name_push, named, told_unnamed, told_bare, name_behind}
use Rattle.reader.proofs.scanning.Members.{named_ready, named_rows, told_valueless, told_member}
use Rattle.reader.proofs.scanning.Values.{Opening, told_deep, told_leaf, told_array, told_object, array_opens, object_opens, leaf_ready}
use Rattle.reader.proofs.scanning.Values.{integer_fits, told_integer}
use Rattle.reader.proofs.scanning.+array_item_member_object_value.Goals as goal

-- ---- array

pub array-overflow_add-i : goal.array-overflow_add-i
array-overflow_add-i t c =
    let array_opened : Opened c.args.text.now c.args.heads.now c.args.marks.now c.args.depth c.args.row c.args.at c.skip-i.result c.peek.result =
    record { ready = c.requires.0; opens = c.requires.1; place = c.skip-i.ensures; byte = c.peek.ensures } in
    omega (arith, (array_empty_fits array_opened c.if-peek-eq93.true).1)

pub array-close-requires : goal.array-close-requires
array-close-requires t c =
    let array_opened : Opened c.args.text.now c.args.heads.now c.args.marks.now c.args.depth c.args.row c.args.at c.skip-i.result c.peek.result =
    record { ready = c.requires.0; opens = c.requires.1; place = c.skip-i.ensures; byte = c.peek.ensures } in
    array_empty_fits array_opened c.if-peek-eq93.true

pub array-returns-then-peek-eq93 : goal.array-returns-then-peek-eq93
array-returns-then-peek-eq93 t c =
    let array_opened : Opened c.args.text.now c.args.heads.now c.args.marks.now c.args.depth c.args.row c.args.at c.skip-i.result c.peek.result =
    record { ready = c.requires.0; opens = c.requires.1; place = c.skip-i.ensures; byte = c.peek.ensures } in
    array_empty array_opened c.if-peek-eq93.true (ap Ok c.close.ensures.value, c.close.ensures.marks_after)

pub array-loop-scanned-init : goal.array-loop-scanned-init
array-loop-scanned-init t c =
    let array_opened : Opened c.args.text.now c.args.heads.now c.args.marks.now c.args.depth c.args.row c.args.at c.skip-i.result c.peek.result =
    record { ready = c.requires.0; opens = c.requires.1; place = c.skip-i.ensures; byte = c.peek.ensures } in
    array_first array_opened c.if-peek-eq93.false

pub array-overflow_add-row : goal.array-overflow_add-row
array-overflow_add-row t c = let r = inside_ready c.loop-scanned.invariant in omega (arith, r.rowed, r.inside)

pub array-item-requires : goal.array-item-requires
array-item-requires t c = (omega arith, inside_ready c.loop-scanned.invariant)

pub array-returns-in_err-scanned : goal.array-returns-in_err-scanned
array-returns-in_err-scanned t c =
    let array-said : ElementSaid c.args.text.now c.args.depth c.args.at c.args.row c.args.heads.now c.args.marks.now c.item.new.heads
    c.item.new.marks c.loop-scanned.rows c.loop-scanned.children c.loop-scanned.i c.item.result =
    record { heads = _; marks = _; inside = c.loop-scanned.invariant; told = c.item.ensures; headed = c.item.auto.heads; marked = c.item.auto.marks } in
    let exit = err_from_is_err_and c.from_residual.result c.from_residual.ensures.1 in
    rw (exit.1, exit.2) (array_refused array-said c.in_err-scanned.was)

pub array-overflow_add-rows : goal.array-overflow_add-rows
array-overflow_add-rows t c =
    let array-said : ElementSaid c.args.text.now c.args.depth c.args.at c.args.row c.args.heads.now c.args.marks.now c.item.new.heads
    c.item.new.marks c.loop-scanned.rows c.loop-scanned.children c.loop-scanned.i c.item.result =
    record { heads = _; marks = _; inside = c.loop-scanned.invariant; told = c.item.ensures; headed = c.item.auto.heads; marked = c.item.auto.marks } in
    omega (arith, turn_takes (array_turn array-said c.in_ok-scanned.was))

pub array-overflow_add-children : goal.array-overflow_add-children
array-overflow_add-children t c =
    let array-said : ElementSaid c.args.text.now c.args.depth c.args.at c.args.row c.args.heads.now c.args.marks.now c.item.new.heads
    c.item.new.marks c.loop-scanned.rows c.loop-scanned.children c.loop-scanned.i c.item.result =
    record { heads = _; marks = _; inside = c.loop-scanned.invariant; told = c.item.ensures; headed = c.item.auto.heads; marked = c.item.auto.marks } in
    omega (arith, turn_takes (array_turn array-said c.in_ok-scanned.was))

pub array-behind-requires : goal.array-behind-requires
array-behind-requires t c = array_closing

pub array-close-requires-in-Closing : goal.array-close-requires-in-Closing
array-close-requires-in-Closing t c =
    let array-said : ElementSaid c.args.text.now c.args.depth c.args.at c.args.row c.args.heads.now c.args.marks.now c.item.new.heads
    c.item.new.marks c.loop-scanned.rows c.loop-scanned.children c.loop-scanned.i c.item.result =
    record { heads = _; marks = _; inside = c.loop-scanned.invariant; told = c.item.ensures; headed = c.item.auto.heads; marked = c.item.auto.marks } in
    let array_behind : ElementFollowed c.args.text.now c.args.depth c.args.at c.args.row c.args.heads.now c.args.marks.now c.item.new.heads
    c.item.new.marks c.loop-scanned.rows c.loop-scanned.children c.loop-scanned.i c.in_ok-scanned.scanned.end c.in_ok-scanned.scanned.rows c.behind.result =
    let s = array-said in
    record { turn = array_turn s c.in_ok-scanned.was; follows = c.behind.ensures } in
    turn_fits array_behind c.in-Closing.is

pub array-returns-in-Closing : goal.array-returns-in-Closing
array-returns-in-Closing t c =
    let array-said : ElementSaid c.args.text.now c.args.depth c.args.at c.args.row c.args.heads.now c.args.marks.now c.item.new.heads
    c.item.new.marks c.loop-scanned.rows c.loop-scanned.children c.loop-scanned.i c.item.result =
    record { heads = _; marks = _; inside = c.loop-scanned.invariant; told = c.item.ensures; headed = c.item.auto.heads; marked = c.item.auto.marks } in
    let array_behind : ElementFollowed c.args.text.now c.args.depth c.args.at c.args.row c.args.heads.now c.args.marks.now c.item.new.heads
    c.item.new.marks c.loop-scanned.rows c.loop-scanned.children c.loop-scanned.i c.in_ok-scanned.scanned.end c.in_ok-scanned.scanned.rows c.behind.result =
    let s = array-said in
    record { turn = array_turn s c.in_ok-scanned.was; follows = c.behind.ensures } in
    turn_close array_behind c.in-Closing.is (ap Ok c.close-in-Closing.ensures.value, c.close-in-Closing.ensures.marks_after)

pub array-loop-scanned-smaller : goal.array-loop-scanned-smaller
array-loop-scanned-smaller t c =
    let array-said : ElementSaid c.args.text.now c.args.depth c.args.at c.args.row c.args.heads.now c.args.marks.now c.item.new.heads
    c.item.new.marks c.loop-scanned.rows c.loop-scanned.children c.loop-scanned.i c.item.result =
    record { heads = _; marks = _; inside = c.loop-scanned.invariant; told = c.item.ensures; headed = c.item.auto.heads; marked = c.item.auto.marks } in
    let array_behind : ElementFollowed c.args.text.now c.args.depth c.args.at c.args.row c.args.heads.now c.args.marks.now c.item.new.heads
    c.item.new.marks c.loop-scanned.rows c.loop-scanned.children c.loop-scanned.i c.in_ok-scanned.scanned.end c.in_ok-scanned.scanned.rows c.behind.result =
    let s = array-said in
    record { turn = array_turn s c.in_ok-scanned.was; follows = c.behind.ensures } in
    omega (arith, turn_on array_behind c.in-Item.is)

pub array-loop-scanned-preserved : goal.array-loop-scanned-preserved
array-loop-scanned-preserved t c =
    let array-said : ElementSaid c.args.text.now c.args.depth c.args.at c.args.row c.args.heads.now c.args.marks.now c.item.new.heads
    c.item.new.marks c.loop-scanned.rows c.loop-scanned.children c.loop-scanned.i c.item.result =
    record { heads = _; marks = _; inside = c.loop-scanned.invariant; told = c.item.ensures; headed = c.item.auto.heads; marked = c.item.auto.marks } in
    let array_behind : ElementFollowed c.args.text.now c.args.depth c.args.at c.args.row c.args.heads.now c.args.marks.now c.item.new.heads
    c.item.new.marks c.loop-scanned.rows c.loop-scanned.children c.loop-scanned.i c.in_ok-scanned.scanned.end c.in_ok-scanned.scanned.rows c.behind.result =
    let s = array-said in
    record { turn = array_turn s c.in_ok-scanned.was; follows = c.behind.ensures } in
    turn_next array_behind c.in-Item.is

pub array-returns-in-Other : goal.array-returns-in-Other
array-returns-in-Other t c =
    let array-said : ElementSaid c.args.text.now c.args.depth c.args.at c.args.row c.args.heads.now c.args.marks.now c.item.new.heads
    c.item.new.marks c.loop-scanned.rows c.loop-scanned.children c.loop-scanned.i c.item.result =
    record { heads = _; marks = _; inside = c.loop-scanned.invariant; told = c.item.ensures; headed = c.item.auto.heads; marked = c.item.auto.marks } in
    let array_behind : ElementFollowed c.args.text.now c.args.depth c.args.at c.args.row c.args.heads.now c.args.marks.now c.item.new.heads
    c.item.new.marks c.loop-scanned.rows c.loop-scanned.children c.loop-scanned.i c.in_ok-scanned.scanned.end c.in_ok-scanned.scanned.rows c.behind.result =
    let s = array-said in
    record { turn = array_turn s c.in_ok-scanned.was; follows = c.behind.ensures } in
    turn_bad array_behind c.in-Other.is c.unexpected.ensures

-- ---- item

pub item-leaf_mark-requires : goal.item-leaf_mark-requires
item-leaf_mark-requires t c = rw c.from.ensures (integer_fits c.requires c.integer_end.ensures c.in-Some.is).0

pub item-bounds-marks-row : goal.item-bounds-marks-row
item-bounds-marks-row t c = (integer_fits c.requires c.integer_end.ensures c.in-Some.is).1

pub item-returns-in-Some : goal.item-returns-in-Some
item-returns-in-Some t c =
    told_integer c.requires c.integer_end.ensures c.in-Some.is (rw c.from.ensures at c.leaf_mark.ensures)

pub item-value-requires : goal.item-value-requires
item-value-requires t c = (omega arith, (c.requires, record { first = c.first_at-first.ensures }))

pub item-returns : goal.item-returns
item-returns t c = c.value.ensures

-- ---- member

pub member-name-requires : goal.member-name-requires
member-name-requires t c = name_ready c.requires

pub member-push-requires : goal.member-push-requires
member-push-requires t c =
    let member-name : NameRead c.args.text.now c.args.marks.now c.args.object c.args.at c.in_ok-named.named.end c.in_ok-named.named.hash =
    name_read c.requires c.name.ensures c.in_ok-named.was in
    let w = name_push c.requires member-name in record { index = w.0; at_bound = w.1 }

pub member-skip_to-colon-requires : goal.member-skip_to-colon-requires
member-skip_to-colon-requires t c = colon_sign

pub member-returns-then-peek-ne58 : goal.member-returns-then-peek-ne58
member-returns-then-peek-ne58 t c =
    let member-name : NameRead c.args.text.now c.args.marks.now c.args.object c.args.at c.in_ok-named.named.end c.in_ok-named.named.hash =
    name_read c.requires c.name.ensures c.in_ok-named.was in
    told_bare c.requires member-name c.skip_to-colon.ensures c.peek.ensures c.if-peek-ne58.true c.unexpected.ensures

pub member-overflow_add-colon : goal.member-overflow_add-colon
member-overflow_add-colon t c =
    let member-name : NameRead c.args.text.now c.args.marks.now c.args.object c.args.at c.in_ok-named.named.end c.in_ok-named.named.hash =
    name_read c.requires c.name.ensures c.in_ok-named.was in
    omega (arith, name_behind member-name c.peek.ensures c.if-peek-ne58.false)

pub member-overflow_add-row : goal.member-overflow_add-row
member-overflow_add-row t c =
    let member-name : NameRead c.args.text.now c.args.marks.now c.args.object c.args.at c.in_ok-named.named.end c.in_ok-named.named.hash =
    name_read c.requires c.name.ensures c.in_ok-named.was in
    let member-named : Named c.args.text.now c.args.heads.now c.args.marks.now c.push.new.heads c.push.new.marks c.args.depth c.args.object
    c.args.row c.args.at c.skip-k.result =
    named c.requires member-name (c.push.ensures.marks_after, c.push.ensures.index_2) c.skip_to-colon.ensures c.peek.ensures
    c.if-peek-ne58.false c.skip-k.ensures in
    let r = named_ready member-named in omega (arith, r.rowed, r.inside)

pub member-item-requires : goal.member-item-requires
member-item-requires t c =
    let member-name : NameRead c.args.text.now c.args.marks.now c.args.object c.args.at c.in_ok-named.named.end c.in_ok-named.named.hash =
    name_read c.requires c.name.ensures c.in_ok-named.was in
    let member-named : Named c.args.text.now c.args.heads.now c.args.marks.now c.push.new.heads c.push.new.marks c.args.depth c.args.object
    c.args.row c.args.at c.skip-k.result =
    named c.requires member-name (c.push.ensures.marks_after, c.push.ensures.index_2) c.skip_to-colon.ensures c.peek.ensures
    c.if-peek-ne58.false c.skip-k.ensures in
    (omega arith, named_ready member-named)

pub member-overflow_add-result : goal.member-overflow_add-result
member-overflow_add-result t c =
    let member-name : NameRead c.args.text.now c.args.marks.now c.args.object c.args.at c.in_ok-named.named.end c.in_ok-named.named.hash =
    name_read c.requires c.name.ensures c.in_ok-named.was in
    let member-named : Named c.args.text.now c.args.heads.now c.args.marks.now c.push.new.heads c.push.new.marks c.args.depth c.args.object
    c.args.row c.args.at c.skip-k.result =
    named c.requires member-name (c.push.ensures.marks_after, c.push.ensures.index_2) c.skip_to-colon.ensures c.peek.ensures
    c.if-peek-ne58.false c.skip-k.ensures in
    let member-valued : Valued c.args.text.now c.args.heads.now c.args.marks.now c.item.new.heads c.item.new.marks c.args.depth c.args.object
    c.args.row c.args.at c.item.result =
    record { heads = _; marks = _; place = _; named = member-named; told = c.item.ensures; same = c.item.auto.marks } in
    omega (arith, named_rows member-valued c.in_ok-scanned.was)

pub member-returns-in_err-named : goal.member-returns-in_err-named
member-returns-in_err-named t c =
    let exit = err_from_is_err_and c.from_residual.result c.from_residual.ensures.1 in
    rw (exit.1, exit.2) (told_unnamed c.requires c.name.ensures c.in_err-named.was)

pub member-returns-in_err-scanned : goal.member-returns-in_err-scanned
member-returns-in_err-scanned t c =
    let member-name : NameRead c.args.text.now c.args.marks.now c.args.object c.args.at c.in_ok-named.named.end c.in_ok-named.named.hash =
    name_read c.requires c.name.ensures c.in_ok-named.was in
    let member-named : Named c.args.text.now c.args.heads.now c.args.marks.now c.push.new.heads c.push.new.marks c.args.depth c.args.object
    c.args.row c.args.at c.skip-k.result =
    named c.requires member-name (c.push.ensures.marks_after, c.push.ensures.index_2) c.skip_to-colon.ensures c.peek.ensures
    c.if-peek-ne58.false c.skip-k.ensures in
    let member-valued : Valued c.args.text.now c.args.heads.now c.args.marks.now c.item.new.heads c.item.new.marks c.args.depth c.args.object
    c.args.row c.args.at c.item.result =
    record { heads = _; marks = _; place = _; named = member-named; told = c.item.ensures; same = c.item.auto.marks } in
    let exit = err_from_is_err_and c.from_residual-in_err-scanned.result c.from_residual-in_err-scanned.ensures.1 in
    rw (exit.1, exit.2) (told_valueless member-valued c.in_err-scanned.was)

pub member-returns : goal.member-returns
member-returns t c =
    let member-name : NameRead c.args.text.now c.args.marks.now c.args.object c.args.at c.in_ok-named.named.end c.in_ok-named.named.hash =
    name_read c.requires c.name.ensures c.in_ok-named.was in
    let member-named : Named c.args.text.now c.args.heads.now c.args.marks.now c.push.new.heads c.push.new.marks c.args.depth c.args.object
    c.args.row c.args.at c.skip-k.result =
    named c.requires member-name (c.push.ensures.marks_after, c.push.ensures.index_2) c.skip_to-colon.ensures c.peek.ensures
    c.if-peek-ne58.false c.skip-k.ensures in
    let member-valued : Valued c.args.text.now c.args.heads.now c.args.marks.now c.item.new.heads c.item.new.marks c.args.depth c.args.object
    c.args.row c.args.at c.item.result =
    record { heads = _; marks = _; place = _; named = member-named; told = c.item.ensures; same = c.item.auto.marks } in
    told_member member-valued c.in_ok-scanned.was

-- ---- object

pub object-overflow_add-i : goal.object-overflow_add-i
object-overflow_add-i t c =
    let object-opened : Opened c.args.text.now c.args.heads.now c.args.marks.now c.args.depth c.args.row c.args.at c.skip-i.result c.peek.result =
    record { ready = c.requires.0; opens = c.requires.1; place = c.skip-i.ensures; byte = c.peek.ensures } in
    omega (arith, (object_empty_fits object-opened c.if-peek-eq125.true).1)

pub object-close-requires : goal.object-close-requires
object-close-requires t c =
    let object-opened : Opened c.args.text.now c.args.heads.now c.args.marks.now c.args.depth c.args.row c.args.at c.skip-i.result c.peek.result =
    record { ready = c.requires.0; opens = c.requires.1; place = c.skip-i.ensures; byte = c.peek.ensures } in
    object_empty_fits object-opened c.if-peek-eq125.true

pub object-returns-then-peek-eq125 : goal.object-returns-then-peek-eq125
object-returns-then-peek-eq125 t c =
    let object-opened : Opened c.args.text.now c.args.heads.now c.args.marks.now c.args.depth c.args.row c.args.at c.skip-i.result c.peek.result =
    record { ready = c.requires.0; opens = c.requires.1; place = c.skip-i.ensures; byte = c.peek.ensures } in
    object_empty object-opened c.if-peek-eq125.true (ap Ok c.close.ensures.value, c.close.ensures.marks_after)

pub object-loop-scanned-init : goal.object-loop-scanned-init
object-loop-scanned-init t c =
    let object-opened : Opened c.args.text.now c.args.heads.now c.args.marks.now c.args.depth c.args.row c.args.at c.skip-i.result c.peek.result =
    record { ready = c.requires.0; opens = c.requires.1; place = c.skip-i.ensures; byte = c.peek.ensures } in
    object_first object-opened c.if-peek-eq125.false

pub object-overflow_add-row : goal.object-overflow_add-row
object-overflow_add-row t c = let r = (object_ready c.loop-scanned.invariant).ready in omega (arith, r.rowed, r.inside)

pub object-member-requires : goal.object-member-requires
object-member-requires t c = (omega arith, object_ready c.loop-scanned.invariant)

pub object-returns-in_err-scanned : goal.object-returns-in_err-scanned
object-returns-in_err-scanned t c =
    let object-said : MemberSaid c.args.text.now c.args.depth c.args.at c.args.row c.args.heads.now c.args.marks.now c.member.new.heads
    c.member.new.marks c.loop-scanned.rows c.loop-scanned.children c.loop-scanned.i c.member.result =
    record {
      heads = _;
      marks = _;
      inside = c.loop-scanned.invariant;
      told = c.member.ensures;
      headed = c.member.auto.heads;
      marked = c.member.auto.marks;
    } in
    let exit = err_from_is_err_and c.from_residual.result c.from_residual.ensures.1 in
    rw (exit.1, exit.2) (object_refused object-said c.in_err-scanned.was)

pub object-overflow_add-rows : goal.object-overflow_add-rows
object-overflow_add-rows t c =
    let object-said : MemberSaid c.args.text.now c.args.depth c.args.at c.args.row c.args.heads.now c.args.marks.now c.member.new.heads
    c.member.new.marks c.loop-scanned.rows c.loop-scanned.children c.loop-scanned.i c.member.result =
    record {
      heads = _;
      marks = _;
      inside = c.loop-scanned.invariant;
      told = c.member.ensures;
      headed = c.member.auto.heads;
      marked = c.member.auto.marks;
    } in
    omega (arith, turn_takes (object_turn object-said c.in_ok-scanned.was))

pub object-overflow_add-children : goal.object-overflow_add-children
object-overflow_add-children t c =
    let object-said : MemberSaid c.args.text.now c.args.depth c.args.at c.args.row c.args.heads.now c.args.marks.now c.member.new.heads
    c.member.new.marks c.loop-scanned.rows c.loop-scanned.children c.loop-scanned.i c.member.result =
    record {
      heads = _;
      marks = _;
      inside = c.loop-scanned.invariant;
      told = c.member.ensures;
      headed = c.member.auto.heads;
      marked = c.member.auto.marks;
    } in
    omega (arith, turn_takes (object_turn object-said c.in_ok-scanned.was))

pub object-behind-requires : goal.object-behind-requires
object-behind-requires t c = object_closing

pub object-close-requires-in-Closing : goal.object-close-requires-in-Closing
object-close-requires-in-Closing t c =
    let object-said : MemberSaid c.args.text.now c.args.depth c.args.at c.args.row c.args.heads.now c.args.marks.now c.member.new.heads
    c.member.new.marks c.loop-scanned.rows c.loop-scanned.children c.loop-scanned.i c.member.result =
    record {
      heads = _;
      marks = _;
      inside = c.loop-scanned.invariant;
      told = c.member.ensures;
      headed = c.member.auto.heads;
      marked = c.member.auto.marks;
    } in
    let object-behind : MemberFollowed c.args.text.now c.args.depth c.args.at c.args.row c.args.heads.now c.args.marks.now c.member.new.heads
    c.member.new.marks c.loop-scanned.rows c.loop-scanned.children c.loop-scanned.i c.in_ok-scanned.scanned.end c.in_ok-scanned.scanned.rows c.behind.result =
    let s = object-said in
    record { turn = object_turn s c.in_ok-scanned.was; follows = c.behind.ensures } in
    turn_fits object-behind c.in-Closing.is

pub object-returns-in-Closing : goal.object-returns-in-Closing
object-returns-in-Closing t c =
    let object-said : MemberSaid c.args.text.now c.args.depth c.args.at c.args.row c.args.heads.now c.args.marks.now c.member.new.heads
    c.member.new.marks c.loop-scanned.rows c.loop-scanned.children c.loop-scanned.i c.member.result =
    record {
      heads = _;
      marks = _;
      inside = c.loop-scanned.invariant;
      told = c.member.ensures;
      headed = c.member.auto.heads;
      marked = c.member.auto.marks;
    } in
    let object-behind : MemberFollowed c.args.text.now c.args.depth c.args.at c.args.row c.args.heads.now c.args.marks.now c.member.new.heads
    c.member.new.marks c.loop-scanned.rows c.loop-scanned.children c.loop-scanned.i c.in_ok-scanned.scanned.end c.in_ok-scanned.scanned.rows c.behind.result =
    let s = object-said in
    record { turn = object_turn s c.in_ok-scanned.was; follows = c.behind.ensures } in
    turn_close object-behind c.in-Closing.is (ap Ok c.close-in-Closing.ensures.value, c.close-in-Closing.ensures.marks_after)

pub object-loop-scanned-smaller : goal.object-loop-scanned-smaller
object-loop-scanned-smaller t c =
    let object-said : MemberSaid c.args.text.now c.args.depth c.args.at c.args.row c.args.heads.now c.args.marks.now c.member.new.heads
    c.member.new.marks c.loop-scanned.rows c.loop-scanned.children c.loop-scanned.i c.member.result =
    record {
      heads = _;
      marks = _;
      inside = c.loop-scanned.invariant;
      told = c.member.ensures;
      headed = c.member.auto.heads;
      marked = c.member.auto.marks;
    } in
    let object-behind : MemberFollowed c.args.text.now c.args.depth c.args.at c.args.row c.args.heads.now c.args.marks.now c.member.new.heads
    c.member.new.marks c.loop-scanned.rows c.loop-scanned.children c.loop-scanned.i c.in_ok-scanned.scanned.end c.in_ok-scanned.scanned.rows c.behind.result =
    let s = object-said in
    record { turn = object_turn s c.in_ok-scanned.was; follows = c.behind.ensures } in
    omega (arith, turn_on object-behind c.in-Item.is)

pub object-loop-scanned-preserved : goal.object-loop-scanned-preserved
object-loop-scanned-preserved t c =
    let object-said : MemberSaid c.args.text.now c.args.depth c.args.at c.args.row c.args.heads.now c.args.marks.now c.member.new.heads
    c.member.new.marks c.loop-scanned.rows c.loop-scanned.children c.loop-scanned.i c.member.result =
    record {
      heads = _;
      marks = _;
      inside = c.loop-scanned.invariant;
      told = c.member.ensures;
      headed = c.member.auto.heads;
      marked = c.member.auto.marks;
    } in
    let object-behind : MemberFollowed c.args.text.now c.args.depth c.args.at c.args.row c.args.heads.now c.args.marks.now c.member.new.heads
    c.member.new.marks c.loop-scanned.rows c.loop-scanned.children c.loop-scanned.i c.in_ok-scanned.scanned.end c.in_ok-scanned.scanned.rows c.behind.result =
    let s = object-said in
    record { turn = object_turn s c.in_ok-scanned.was; follows = c.behind.ensures } in
    turn_next object-behind c.in-Item.is

pub object-returns-in-Other : goal.object-returns-in-Other
object-returns-in-Other t c =
    let object-said : MemberSaid c.args.text.now c.args.depth c.args.at c.args.row c.args.heads.now c.args.marks.now c.member.new.heads
    c.member.new.marks c.loop-scanned.rows c.loop-scanned.children c.loop-scanned.i c.member.result =
    record {
      heads = _;
      marks = _;
      inside = c.loop-scanned.invariant;
      told = c.member.ensures;
      headed = c.member.auto.heads;
      marked = c.member.auto.marks;
    } in
    let object-behind : MemberFollowed c.args.text.now c.args.depth c.args.at c.args.row c.args.heads.now c.args.marks.now c.member.new.heads
    c.member.new.marks c.loop-scanned.rows c.loop-scanned.children c.loop-scanned.i c.in_ok-scanned.scanned.end c.in_ok-scanned.scanned.rows c.behind.result =
    let s = object-said in
    record { turn = object_turn s c.in_ok-scanned.was; follows = c.behind.ensures } in
    turn_bad object-behind c.in-Other.is c.unexpected.ensures

-- ---- value

pub value-leaf-requires : goal.value-leaf-requires
value-leaf-requires t c = (leaf_ready c.requires.0, c.requires.1)

pub value-returns-in_default : goal.value-returns-in_default
value-returns-in_default t c = told_leaf c.requires (opened c.in_default.in_default-own.keys2) c.leaf.ensures

pub value-returns-then-depth-eq0 : goal.value-returns-then-depth-eq0
value-returns-then-depth-eq0 t c = told_deep c.requires.1 c.in-Array.in-Array-own.keys1 c.if-depth-eq0.true

pub value-array-requires : goal.value-array-requires
value-array-requires t c =
    let value-opening : Opening c.args.text.now c.args.heads.now c.args.marks.now c.args.depth c.args.row c.args.at c.args.first =
    record { ready = c.requires.0; begun = c.requires.1; some = c.if-depth-eq0.false } in
    (omega arith, array_opens value-opening c.in-Array-first.is)

pub value-object-requires : goal.value-object-requires
value-object-requires t c =
    let value-opening : Opening c.args.text.now c.args.heads.now c.args.marks.now c.args.depth c.args.row c.args.at c.args.first =
    record { ready = c.requires.0; begun = c.requires.1; some = c.if-depth-eq0.false } in
    let value-brace : c.args.first ≡ Object =
    opens_object _ c.in-Array.in-Array-own.keys1 (opened c.in_default-first.in_default-first-own.keys2) in
    (omega arith, object_opens value-opening value-brace)

pub value-returns-in-Array-first : goal.value-returns-in-Array-first
value-returns-in-Array-first t c =
    let value-opening : Opening c.args.text.now c.args.heads.now c.args.marks.now c.args.depth c.args.row c.args.at c.args.first =
    record { ready = c.requires.0; begun = c.requires.1; some = c.if-depth-eq0.false } in
    told_array value-opening c.in-Array-first.is c.array.ensures

pub value-returns-in_default-first : goal.value-returns-in_default-first
value-returns-in_default-first t c =
    let value-opening : Opening c.args.text.now c.args.heads.now c.args.marks.now c.args.depth c.args.row c.args.at c.args.first =
    record { ready = c.requires.0; begun = c.requires.1; some = c.if-depth-eq0.false } in
    let value-brace : c.args.first ≡ Object =
    opens_object _ c.in-Array.in-Array-own.keys1 (opened c.in_default-first.in_default-first-own.keys2) in
    told_object value-opening value-brace c.object.ensures
