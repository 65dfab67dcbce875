-- An answer as it is printed.
use Rattle.std.specs.Prelude.{ℕ, List, ◌∷◌, ◌++◌}
use Rattle.std.specs.Fmt.{decimal}
use Rattle.syntax.specs.declared.answers.Answer.{Answer}

-- the four numbers in decimal, a space between
abbrev pub answer_line : Answer → List ℕ
answer_line a = decimal a.code ++ 32 ∷ (decimal a.text ++ 32 ∷ (decimal a.place ++ 32 ∷ decimal a.other))
