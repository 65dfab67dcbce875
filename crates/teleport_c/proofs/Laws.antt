-- The words ws of the answer a that a service gave: what is known of a is known of them.
use mathlib.Core.Path.{◌≡◌, ap, ◌∙◌}
use mathlib.Core.Logic.{◌↔◌}
use mathlib.Core.List.{List}
use Prim.Native.Nat.{ℕ}
use Rattle.syntax.specs.declared.answers.Answer.{Answer}
use Rattle.teleport_c.specs.Words.{answer_words, code, Written}

module _ (ws : List ℕ) (a : Answer) (e : ws ≡ answer_words a) where
  pub words_of : (b : Answer) → a ≡ b → ws ≡ answer_words b
  words_of b q = e ∙ ap answer_words q

  pub words_code : (X : Type 0) → ((a.code ≡ 0) ↔ X) → (code ws ≡ 0) ↔ X
  words_code X f = rw e f

  pub words_written : (P : Answer → Type 0) → P a → Written P ws
  words_written P h = record { answer = a; holds = h; words = e }
