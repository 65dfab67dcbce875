-- An answer as four words: code, text, place, other.
use Rattle.std.specs.Prelude.{ℕ, ◌≡◌, List, [], ◌∷◌, get_or}
use Rattle.syntax.specs.declared.answers.Answer.{Answer}

abbrev pub answer_words : Answer → List ℕ
answer_words a = a.code ∷ a.text ∷ a.place ∷ a.other ∷ []

-- the code, `answer[0]`
abbrev pub code : List ℕ → ℕ
code ws = get_or ws 0 0

-- the words of an answer of which P holds
pub record Written (P : Answer → Type 0) (ws : List ℕ) : Type 0 where
  pub answer : Answer
  pub holds : P answer
  pub words : ws ≡ answer_words answer
