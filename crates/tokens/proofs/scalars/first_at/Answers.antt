-- `tokens::scalars::first_at` is `begins` of the byte at the place.
use mathlib.Core.Path.{ap, ◌∙◌}
use Rattle.tokens.specs.Scalars.{first_of}
use Rattle.tokens.proofs.scalars.first_at.Goals as goal

pub returns : goal.returns
returns c = c.begins.ensures ∙ ap first_of c.peek.ensures
