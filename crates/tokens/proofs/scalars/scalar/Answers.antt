-- `tokens::scalars::scalar` meets its contract: nothing stands behind the text, and else each case of what the value begins with.
use mathlib.Core.Logic.{inl, inr}
use Rattle.tokens.specs.Tokens.{token}
use Rattle.tokens.proofs.Bounds.{unexpected_read}
use Rattle.tokens.proofs.scalars.Laws.{by_end}
use Rattle.tokens.proofs.scalars.scalar.Goals as goal

pub returns-then-at-text : goal.returns-then-at-text
returns-then-at-text c = rw (by_end _ _ c.args.first c.if-at-text.true) (unexpected_read token _ _ c.unexpected.ensures)

pub returns-in-Quote : goal.returns-in-Quote
returns-in-Quote c = rw c.in-Quote.is c.string.ensures

pub returns-in-Number : goal.returns-in-Number
returns-in-Number c = rw c.in-Number.is c.number.ensures

pub returns-in-LetterN : goal.returns-in-LetterN
returns-in-LetterN c = rw c.in-LetterN.is c.literal.ensures

pub returns-in-LetterF : goal.returns-in-LetterF
returns-in-LetterF c = rw c.in-LetterF.is c.literal-in-LetterF.ensures

pub returns-in-LetterT : goal.returns-in-LetterT
returns-in-LetterT c = rw c.in-LetterT.is c.literal-in-LetterT.ensures

pub returns-in-Array : goal.returns-in-Array
returns-in-Array c =
    elim c.in-Array.is [
      | inl e ↦ rw e (unexpected_read token _ _ c.unexpected-in-Array.ensures)
      | inr (inl e) ↦ rw e (unexpected_read token _ _ c.unexpected-in-Array.ensures)
      | inr (inr e) ↦ rw e (unexpected_read token _ _ c.unexpected-in-Array.ensures)
    ]
