-- `reader::scanning::skip_to` meets its contract: where the sign stands, there is no space to pass.
use mathlib.Core.Path.{sym, ◌∙◌}
use Rattle.reader.proofs.scanning.Closing.{sign_stops}
use Rattle.reader.proofs.scanning.skip_to.Goals as goal

pub returns-then-peek-sign : goal.returns-then-peek-sign
returns-then-peek-sign c = sym (sign_stops _ _ _ c.requires (sym c.peek.ensures ∙ c.if-peek-sign.true))

pub returns : goal.returns
returns c = c.skip.ensures
