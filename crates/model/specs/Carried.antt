-- When a new definition, a, is carried to an old one, b (demand 3):
-- "The values are all that there are, of any length and depth, also past every limit that we set on texts".
use Rattle.model.specs.Value.{Value, IsJson}
use Rattle.model.specs.Definition.{Def}
use Rattle.model.specs.Meeting.{Meets}

-- "exactly when every JSON value that meets the new one meets the old one"
abbrev pub Carried : Def → Def → Type 0
Carried a b = (v : Value) → IsJson v → Meets a v → Meets b v

-- "exactly when there is a JSON value that meets the new one and fails the old"
abbrev pub NotCarried : Def → Def → Type 0
NotCarried a b = (v : Value) × IsJson v × Meets a v × (¬ Meets b v)
