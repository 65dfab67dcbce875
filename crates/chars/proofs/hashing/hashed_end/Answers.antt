use mathlib.Core.Path.{refl, sym, ◌∙◌}
use native.Mathlib.Omega.{arith}
use Rattle.std.proofs.lemmas.Result.{err_from_is_err_and}
use Rattle.chars.proofs.plain.Laws.{plain_read}
use Rattle.chars.proofs.strings.Laws.{char_next, quote_in, stands}
use Rattle.chars.proofs.hashing.Escapes.{short_char}
use Rattle.chars.proofs.hashing.Laws.{far_begin, far_next, far_end, far_stop}
use Rattle.chars.proofs.hashing.hashed_end.Goals as goal

pub loop-h-init : goal.loop-h-init
loop-h-init c = far_begin _ _

pub overflow_add-i : goal.overflow_add-i
overflow_add-i c = omega (arith, char_next _ _ _ _ (plain_read c.args.text.now c.loop-h.i c.peek-b.ensures (sym c.is_plain.ensures ∙ c.if-is_plain.true) refl))

pub loop-h-smaller-then-is_plain : goal.loop-h-smaller-then-is_plain
loop-h-smaller-then-is_plain c =
    omega (arith, char_next _ _ _ _ (plain_read c.args.text.now c.loop-h.i c.peek-b.ensures (sym c.is_plain.ensures ∙ c.if-is_plain.true) refl))

pub loop-h-preserved-then-is_plain : goal.loop-h-preserved-then-is_plain
loop-h-preserved-then-is_plain c =
    rw c.mix-h.ensures (far_next c.loop-h.invariant (plain_read _ _ c.peek-b.ensures (sym c.is_plain.ensures ∙ c.if-is_plain.true) c.from.ensures))

pub returns-in_err-value : goal.returns-in_err-value
returns-in_err-value c =
    let exit = err_from_is_err_and c.from_residual.result c.from_residual.ensures.1 in
    rw (exit.1, exit.2) (sym (far_stop c.loop-h.invariant (sym c.char_at.ensures ∙ c.in_err-value.was)))

pub loop-h-smaller : goal.loop-h-smaller
loop-h-smaller c = omega (arith, char_next _ _ _ _ (stands _ _ c.char_at.ensures c.in_ok-value.was c.in-Char.is))

pub loop-h-preserved : goal.loop-h-preserved
loop-h-preserved c = rw c.mix-h-in-Char.ensures (far_next c.loop-h.invariant (stands _ _ c.char_at.ensures c.in_ok-value.was c.in-Char.is))

pub overflow_add-result : goal.overflow_add-result
overflow_add-result c = omega (arith, quote_in _ _ (stands _ _ c.char_at.ensures c.in_ok-value.was c.in-Quote.is))

pub returns-in-Quote : goal.returns-in-Quote
returns-in-Quote c = rw c.finish.ensures (sym (far_end c.loop-h.invariant (stands _ _ c.char_at.ensures c.in_ok-value.was c.in-Quote.is)))

pub loop-h-preserved-in-Some : goal.loop-h-preserved-in-Some
loop-h-preserved-in-Some c =
    rw (c.mix-h-in-Some.ensures, c.from-in-Some.ensures)
    (far_next c.loop-h.invariant
    (short_char _ _ c.peek-b.ensures c.if-b-eq92.true (rw c.peek.ensures at (sym c.escape_of.ensures ∙ c.in-Some.is))))
