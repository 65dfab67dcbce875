-- `begins` meets its contract. Invariant: the name begins with the letters where what is left of it begins with those that are left.
use mathlib.Core.Path.{◌≡◌}
use lib.ListN.{drop}
use Rattle.model.specs.Witness.{begins}
use Rattle.chars.specs.Strings.{characters, chars_at}
use Rattle.samples.proofs.fresh.begins.Given as goal

abbrev pub invariant-loop-letter : goal.invariant-loop-letter
invariant-loop-letter l = begins l.letters (characters l.name) ≡ begins (drop l.letter-index l.letters) (chars_at l.name l.at)
