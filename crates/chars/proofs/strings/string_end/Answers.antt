use mathlib.Core.Path.{◌≡◌, sym, ◌∙◌}
use Prim.Native.Nat.{◌≤◌}
use native.Mathlib.Omega.{arith}
use Rattle.std.proofs.lemmas.Result.{err_from_is_err_and}
use Rattle.std.specs.Prelude.{Ok}
use Rattle.chars.specs.declared.characters.Step.TheVariants.{Quote}
use Rattle.chars.specs.Characters.{char_at}
use Rattle.chars.proofs.strings.Laws.{char_next, quote_in, stands, string_char, string_quote, string_stop}
use Rattle.chars.proofs.plain.Laws.{quote_char, plain_ahead, passed}
use Rattle.chars.proofs.strings.string_end.Goals as goal

pub overflow_add-result : goal.overflow_add-result
overflow_add-result c =
    let closed : char_at c.args.text.now c.wides-i.result ≡ Ok Quote =
    quote_char _ _ (sym c.peek.ensures ∙ c.if-peek-eq34.true) in
    omega (arith, quote_in _ _ closed)

pub returns-then-peek-eq34 : goal.returns-then-peek-eq34
returns-then-peek-eq34 c =
    let closed : char_at c.args.text.now c.wides-i.result ≡ Ok Quote =
    quote_char _ _ (sym c.peek.ensures ∙ c.if-peek-eq34.true) in
    sym (passed _ _ _ _ _ c.loop-at.invariant c.plain_end.ensures c.wides-i.ensures.1 ∙ string_quote _ _ closed)

pub loop-at-smaller : goal.loop-at-smaller
loop-at-smaller c =
    let ahead : c.loop-at.i ≤ c.wides-i.result =
    omega (arith, plain_ahead _ _ c.plain_end.ensures) in
    omega (arith, ahead, char_next _ _ _ _ (stands _ _ c.special.ensures c.in_ok-next.was c.in-Char.is))

pub loop-at-preserved : goal.loop-at-preserved
loop-at-preserved c =
    passed _ _ _ _ _ c.loop-at.invariant c.plain_end.ensures c.wides-i.ensures.1
    ∙ string_char _ _ _ _ (stands _ _ c.special.ensures c.in_ok-next.was c.in-Char.is)

pub overflow_add-result-in-Quote : goal.overflow_add-result-in-Quote
overflow_add-result-in-Quote c = omega (arith, quote_in _ _ (stands _ _ c.special.ensures c.in_ok-next.was c.in-Quote.is))

pub returns-in-Quote : goal.returns-in-Quote
returns-in-Quote c =
    sym (passed _ _ _ _ _ c.loop-at.invariant c.plain_end.ensures c.wides-i.ensures.1
    ∙ string_quote _ _ (stands _ _ c.special.ensures c.in_ok-next.was c.in-Quote.is))

pub returns-in_err-next : goal.returns-in_err-next
returns-in_err-next c =
    let exit = err_from_is_err_and c.from_residual.result c.from_residual.ensures.1 in
    rw (exit.1, exit.2)
    (sym (passed _ _ _ _ _ c.loop-at.invariant c.plain_end.ensures c.wides-i.ensures.1 ∙ string_stop _ _ _ (sym c.special.ensures ∙ c.in_err-next.was)))
