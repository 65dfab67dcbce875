-- `name` meets its contract: no quote, a string that is refused, a name that a member before has, and another name.
use mathlib.Core.Path.{sym, ◌∙◌}
use native.Mathlib.Omega.{arith}
use Rattle.std.proofs.lemmas.Result.{err_from_is_err_and}
use Rattle.tokens.proofs.Facts.{quoted_bounds}
use Rattle.syntax.proofs.Facts.{byte_in}
use Rattle.marks.proofs.names.Owners.{kept_quoted}
use Rattle.marks.proofs.names.Told.{name_read, told_bare, told_broken, told_again, told_new}
use Rattle.marks.proofs.names.name.Goals as goal

pub returns-then-peek-ne34 : goal.returns-then-peek-ne34
returns-then-peek-ne34 c = told_bare (λ q. c.if-peek-ne34.true (c.peek.ensures ∙ q)) c.unexpected.ensures

pub overflow_add-at : goal.overflow_add-at
overflow_add-at c = omega (arith, byte_in c.args.text.now c.args.at 0x22 (omega arith) (sym c.peek.ensures ∙ c.if-peek-ne34.false))

pub returns-in_err-read : goal.returns-in_err-read
returns-in_err-read c =
    let exit = err_from_is_err_and c.from_residual.result c.from_residual.ensures.1 in
    rw (exit.1, exit.2) (told_broken (sym c.peek.ensures ∙ c.if-peek-ne34.false) (sym c.hashed_end.ensures ∙ c.in_err-read.was))

pub overflow_add-own : goal.overflow_add-own
overflow_add-own c =
    let read = name_read (sym c.peek.ensures ∙ c.if-peek-ne34.false) (sym c.hashed_end.ensures ∙ c.in_ok-read.was) in
    omega (arith, c.requires.small, read.small)

pub seen-requires : goal.seen-requires
seen-requires c =
    let read = name_read (sym c.peek.ensures ∙ c.if-peek-ne34.false) (sym c.hashed_end.ensures ∙ c.in_ok-read.was) in
    let b = quoted_bounds read.quoted in
    record {
      index = (c.requires.index, kept_quoted c.requires.before c.requires.small c.requires.kept c.requires.fresh);
      at_bound = (b.0, b.1, omega arith);
    }

pub overflow_sub-result : goal.overflow_sub-result
overflow_sub-result c =
    let read = name_read (sym c.peek.ensures ∙ c.if-peek-ne34.false) (sym c.hashed_end.ensures ∙ c.in_ok-read.was) in
    omega (arith, quoted_bounds read.quoted)

pub returns-then-seen : goal.returns-then-seen
returns-then-seen c =
    let read = name_read (sym c.peek.ensures ∙ c.if-peek-ne34.false) (sym c.hashed_end.ensures ∙ c.in_ok-read.was) in
    told_again c.requires.small read c.seen.ensures c.if-seen.true

pub returns : goal.returns
returns c =
    let read = name_read (sym c.peek.ensures ∙ c.if-peek-ne34.false) (sym c.hashed_end.ensures ∙ c.in_ok-read.was) in
    told_new c.requires.small read c.seen.ensures c.if-seen.false
