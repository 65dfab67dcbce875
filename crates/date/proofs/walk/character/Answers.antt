-- `date::walk::character` meets its contract: with a character, and without.
use Rattle.date.proofs.walk.Laws.{char_told}
use Rattle.date.proofs.walk.character.Goals as goal

pub returns : goal.returns
returns c = λ l k e. char_told _ _ _ c.character_at.ensures l k e
