-- `tokens::scalars::string` meets its contract: what `string_end` answers, by its two cases.
use Rattle.std.proofs.lemmas.Result.{err_from_is_err_and}
use Rattle.tokens.proofs.scalars.Steps.{string_taken, string_broken}
use Rattle.tokens.proofs.scalars.string.Goals as goal

pub returns-in_err-end : goal.returns-in_err-end
returns-in_err-end c =
    let exit = err_from_is_err_and c.from_residual.result c.from_residual.ensures.1 in
    rw (exit.1, exit.2) (string_broken _ _ c.string_end.ensures c.in_err-end.was)

pub returns : goal.returns
returns c = string_taken _ _ c.string_end.ensures c.in_ok-end.was
