-- A character of a reference token, by cases.
use Prim.Native.Nat.{ℕ, ◌≤◌}
use mathlib.Core.Path.{◌≡◌}
use mathlib.Core.List.{List, [], ◌∷◌}
use native.Mathlib.Omega.{arith}
use lib.ListN.{length}
use lib.Dec.{ltb}
use borrow.Author.Tests.{ne_eqb}
use Rattle.model.proofs.Basics.{both}
use Rattle.grammar.specs.Utf8.{utf8}
use Rattle.explain.specs.Pointers.{token_char}

module _ (c : ℕ) where
  -- a character has at most four bytes in UTF-8
  pub utf8_short : length (utf8 c) ≤ 4
  unfolding utf8
  utf8_short =
      both Short (ltb c 0x80) (λ _. omega arith)
      (λ _. both Short (ltb c 0x800) (λ _. omega arith) (λ _. both Short (ltb c 0x10000) (λ _. omega arith) (λ _. omega arith)))
    where
      Short : List ℕ → Type 0
      Short w = length w ≤ 4

  pub token_tilde : c ≡ 0x7E → token_char c ≡ 0x7E ∷ 0x30 ∷ []
  unfolding token_char
  token_tilde e = rw e

  pub token_slash : c ≡ 0x2F → token_char c ≡ 0x7E ∷ 0x31 ∷ []
  unfolding token_char
  token_slash e = rw e

  pub token_plain : (c ≡ 0x7E → ⊥) → (c ≡ 0x2F → ⊥) → token_char c ≡ utf8 c
  unfolding token_char
  token_plain n m = rw (ne_eqb c 0x7E n, ne_eqb c 0x2F m)
