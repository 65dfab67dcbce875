-- `explain::pieces::put_char` meets its contract: each way by the law of its character.
use native.Mathlib.Omega.{arith}
use Rattle.explain.proofs.pieces.Buffers.{puts_as}
use Rattle.explain.proofs.pieces.Characters.{token_tilde, token_slash, token_plain}
use Rattle.explain.proofs.pieces.put_char.Goals as goal

pub returns-in-126 : goal.returns-in-126
returns-in-126 c = puts_as (token_tilde _ c.in-126.is) c.put_all.ensures

pub returns-in-47 : goal.returns-in-47
returns-in-47 c = puts_as (token_slash _ c.in-47.is) c.put_all-in-47.ensures

-- neither of the escaped ones
pub returns-in_default : goal.returns-in_default
returns-in_default c = puts_as (token_plain _ (λ e. omega arith) (λ e. omega arith)) c.put_utf8.ensures
