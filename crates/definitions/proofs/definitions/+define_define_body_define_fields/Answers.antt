use Prim.Native.Nat.{ℕ}
use mathlib.Core.Path.{sym, ◌∙◌}
use native.Mathlib.Omega.{arith}
use Rattle.std.proofs.lemmas.Result.{err_from_is_err_and}
use Rattle.rows.proofs.Facts.{in_table, quotes_read}
use Rattle.definitions.specs.Definitions.{definition_at}
use Rattle.definitions.proofs.definitions.Laws.{string_quotes, defines_other, defines_several, defines_unknown, defines_known}
use Rattle.definitions.proofs.definitions.Laws.{Single, single_read, defines_inner, defines_object, defines_no_name}
use Rattle.definitions.proofs.definitions.Body.{body_object, body_other, required_other, required_part, optional_other}
use Rattle.definitions.proofs.definitions.Body.{optional_part, Parts, shared_stops, required_stops, body_end}
use Rattle.definitions.proofs.definitions.Fields.{fields_start, field_here, field_less, field_fault, field_next, fields_end}
use Rattle.definitions.proofs.definitions.+define_define_body_define_fields.Goals as goal
use Rattle.definitions.proofs.definitions.+define_define_body_define_fields.Goals.{define-then-value-ne8-via-then-value-ne8}
use Rattle.definitions.proofs.definitions.+define_define_body_define_fields.Goals.{define-then-value-ne8-via-else-value-ne8+then-value-ne1}
use Rattle.definitions.proofs.definitions.+define_define_body_define_fields.Goals.{define-Else-value-ne1, define_body-In_ok-optional}

-- ---- define

pub define-row_at-value-requires : goal.define-row_at-value-requires
define-row_at-value-requires t c = in_table c.requires

pub define-between-requires : goal.define-between-requires
define-between-requires t c = string_quotes c.requires c.row_at-value.ensures c.if-value-eq6.true

pub define-returns-in-Some : goal.define-returns-in-Some
define-returns-in-Some t c = defines_known c.requires c.row_at-value.ensures c.if-value-eq6.true c.between.ensures c.named_type.ensures c.in-Some.is

pub define-returns-in-None : goal.define-returns-in-None
define-returns-in-None t c =
    rw c.at.ensures (defines_unknown c.requires c.row_at-value.ensures c.if-value-eq6.true c.between.ensures c.named_type.ensures c.in-None.is)

pub define-returns-then-value-ne8 : goal.define-returns-then-value-ne8
define-returns-then-value-ne8 t c =
    rw c.at-then-value-ne8.ensures
    (elim c.then-value-ne8.branch [
      | define-then-value-ne8-via-then-value-ne8 w ↦ defines_other c.requires c.row_at-value.ensures c.if-value-eq6.false w.if-value-ne8.true
      | define-then-value-ne8-via-else-value-ne8+then-value-ne1 w ↦ defines_several c.requires c.row_at-value.ensures w.if-value-ne8.false w.if-value-ne1.true
    ])

-- the one member
one_member : (t : ℕ) (c : goal.define-Else-value-ne1 t)
    → Single c.args.tree.text.now c.args.tree.table.now c.args.row (definition_at c.args.tree.text.now c.requires.tree)
one_member t c = single_read c.requires c.row_at-value.ensures c.if-value-ne8.false c.if-value-ne1.false

pub define-row_at-name-requires : goal.define-row_at-name-requires
define-row_at-name-requires t c = (one_member t c).in_table

pub define-between-requires-2 : goal.define-between-requires-2
define-between-requires-2 t c = quotes_read c.row_at-name.ensures (one_member t (goal.at.define-between-requires-2 t c).Else-value-ne1).quoted

pub define-returns-in_default : goal.define-returns-in_default
define-returns-in_default t c =
    rw c.at-in_default.ensures
    (defines_no_name c.requires (one_member t (goal.at.define-returns-in_default t c).Else-value-ne1) c.row_at-name.ensures c.between-2.ensures c.generic_name.ensures
    c.in_default.is)

pub define-define-requires : goal.define-define-requires
define-define-requires t c =
    let o = one_member t (goal.at.define-define-requires t c).Else-value-ne1 in (omega (arith, o.less, c.decreases), o.value)

pub define-define_body-requires : goal.define-define_body-requires
define-define_body-requires t c =
    let o = one_member t (goal.at.define-define_body-requires t c).Else-value-ne1 in (omega (arith, o.less, c.decreases), o.value)

pub define-returns-in-Array : goal.define-returns-in-Array
define-returns-in-Array t c =
    defines_inner c.requires (one_member t (goal.at.define-returns-in-Array t c).Else-value-ne1) c.row_at-name.ensures c.between-2.ensures c.generic_name.ensures
    c.in-Some-generic_name.is c.in-Array.is c.define.ensures

pub define-returns-in-Object : goal.define-returns-in-Object
define-returns-in-Object t c =
    defines_object c.requires (one_member t (goal.at.define-returns-in-Object t c).Else-value-ne1) c.row_at-name.ensures c.between-2.ensures c.generic_name.ensures
    c.in-Some-generic_name.is c.in-Object.is c.define_body.ensures

-- ---- define_body

pub define_body-object_at-requires : goal.define_body-object_at-requires
define_body-object_at-requires t c = in_table c.requires

pub define_body-returns-in_err-object_at : goal.define_body-returns-in_err-object_at
define_body-returns-in_err-object_at t c =
    let exit = err_from_is_err_and c.from_residual.result c.from_residual.ensures.1 in
    rw (exit.1, exit.2) (body_other c.args.tree.table.now c.args.row (sym c.object_at.ensures ∙ c.in_err-object_at.was))

pub define_body-part_under-requires : goal.define_body-part_under-requires
define_body-part_under-requires t c = body_object c.requires c.object_at.ensures c.in_ok-object_at.was

pub define_body-returns-in_err-required : goal.define_body-returns-in_err-required
define_body-returns-in_err-required t c =
    let exit = err_from_is_err_and c.from_residual-in_err-required.result c.from_residual-in_err-required.ensures.1 in
    rw (exit.1, exit.2) (required_other (body_object c.requires c.object_at.ensures c.in_ok-object_at.was) c.part_under.ensures c.in_err-required.was)

pub define_body-part_under-requires-2 : goal.define_body-part_under-requires-2
define_body-part_under-requires-2 t c = body_object c.requires c.object_at.ensures c.in_ok-object_at.was

pub define_body-returns-in_err-optional : goal.define_body-returns-in_err-optional
define_body-returns-in_err-optional t c =
    let exit = err_from_is_err_and c.from_residual-in_err-optional.result c.from_residual-in_err-optional.ensures.1 in
    let o = body_object c.requires c.object_at.ensures c.in_ok-object_at.was in
    rw (exit.1, exit.2) (optional_other o c.part_under-2.ensures (required_part o c.part_under.ensures _ c.in_ok-required.was) c.in_err-optional.was)

-- the parts of the body, behind both look-ups
body_parts : (t : ℕ) (c : goal.define_body-In_ok-optional t)
    → Parts c.args.tree.text.now c.args.tree.table.now c.args.row c.in_ok-required.required c.in_ok-optional.optional
body_parts t c =
    let o = body_object c.requires c.object_at.ensures c.in_ok-object_at.was in
    record {
      whole = o;
      first = required_part o c.part_under.ensures _ c.in_ok-required.was;
      second = optional_part o c.part_under-2.ensures _ c.in_ok-optional.was;
    }

pub define_body-first_shared-requires-clause-part_row : goal.define_body-first_shared-requires-clause-part_row
define_body-first_shared-requires-clause-part_row t c = (body_parts t c).first.at

pub define_body-first_shared-requires-clause-part_row_2 : goal.define_body-first_shared-requires-clause-part_row_2
define_body-first_shared-requires-clause-part_row_2 t c = (body_parts t c).second.at

pub define_body-returns-in_err-first_shared : goal.define_body-returns-in_err-first_shared
define_body-returns-in_err-first_shared t c =
    let exit = err_from_is_err_and c.from_residual-in_err-first_shared.result c.from_residual-in_err-first_shared.ensures.1 in
    rw (exit.1, exit.2)
    (shared_stops (body_parts t (goal.at.define_body-returns-in_err-first_shared t c).In_ok-optional) c.first_shared.ensures c.in_err-first_shared.was)

pub define_body-define_fields-requires : goal.define_body-define_fields-requires
define_body-define_fields-requires t c =
    let p = (body_parts t (goal.at.define_body-define_fields-requires t c).In_ok-optional).first in (omega (arith, p.less, c.decreases), p.at)

pub define_body-returns-in_err-define_fields : goal.define_body-returns-in_err-define_fields
define_body-returns-in_err-define_fields t c =
    let exit = err_from_is_err_and c.from_residual-in_err-define_fields.result c.from_residual-in_err-define_fields.ensures.1 in
    rw (exit.1, exit.2)
    (required_stops (body_parts t (goal.at.define_body-returns-in_err-define_fields t c).In_ok-optional) c.first_shared.ensures c.in_ok-first_shared.was
    c.define_fields.ensures c.in_err-define_fields.was)

pub define_body-define_fields-requires-2 : goal.define_body-define_fields-requires-2
define_body-define_fields-requires-2 t c =
    let p = (body_parts t (goal.at.define_body-define_fields-requires-2 t c).In_ok-optional).second in (omega (arith, p.less, c.decreases), p.at)

pub define_body-returns : goal.define_body-returns
define_body-returns t c =
    body_end (body_parts t (goal.at.define_body-returns t c).In_ok-optional) c.first_shared.ensures c.in_ok-first_shared.was
    c.define_fields.ensures c.in_ok-define_fields.was c.define_fields-2.ensures

-- ---- define_fields

pub define_fields-loop-row-init : goal.define_fields-loop-row-init
define_fields-loop-row-init t c =
    rw (c.in-Some.is, c.into_iter-row-iterator.ensures.into_iter_gives) (fields_start (rw c.in-Some.is at c.requires) c.members-row-items.ensures)

pub define_fields-define-requires : goal.define_fields-define-requires
define_fields-define-requires t c =
    let a = c.loop-row.invariant in
    let p = c.in-Some-row.ensures.steps in
    (omega (arith, field_less a p, c.decreases), (field_here a p).value)

pub define_fields-loop-row-preserved : goal.define_fields-loop-row-preserved
define_fields-loop-row-preserved t c = field_next c.loop-row.invariant c.in-Some-row.ensures.steps c.define.ensures c.in_ok-define.was

pub define_fields-returns-in_err-define : goal.define_fields-returns-in_err-define
define_fields-returns-in_err-define t c =
    let exit = err_from_is_err_and c.from_residual.result c.from_residual.ensures.1 in
    rw (exit.1, exit.2) (field_fault c.loop-row.invariant c.in-Some-row.ensures.steps c.define.ensures c.in_err-define.was)

pub define_fields-returns : goal.define_fields-returns
define_fields-returns t c = fields_end c.loop-row.invariant c.in-None.ensures.steps
