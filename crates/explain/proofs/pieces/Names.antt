-- The characters of a name as a reference token, one behind the other, and how many bytes they take.
use Prim.Native.Nat.{ℕ, zero, suc, ◌*◌, ◌-◌, ◌≤◌}
use mathlib.Core.Path.{◌≡◌, refl, sym, ap, ◌∙◌}
use mathlib.Core.List.{List, [], ◌∷◌, ◌++◌, append_assoc, append-nil}
use native.Mathlib.Omega.{arith}
use lib.ListN.{length, length-append}
use lib.Dec.{eqb}
use Rattle.model.proofs.Basics.{both}
use Rattle.chars.specs.declared.characters.Step.{Step}
use Rattle.chars.specs.declared.characters.Step.TheVariants.{Char, Quote}
use Rattle.std.specs.Prelude.{Ok, Err, Some, None}
use Rattle.chars.specs.Refusals.{Reading}
use Rattle.chars.specs.declared.characters.Character.{Character}
use Rattle.chars.specs.Characters.{char_at, character_at}
use Rattle.chars.specs.Strings.{values_on, chars_from, chars_at, characters}
use Rattle.chars.proofs.Facts.{char_next, char_read, chars_char, chars_none}
use Rattle.explain.specs.Pointers.{token_char, token_chars}
use Rattle.explain.specs.Writing.{Puts}
use Rattle.explain.proofs.pieces.Buffers.{puts_none, puts_append, puts_as}
use Rattle.explain.proofs.pieces.Characters.{utf8_short}

-- ---- at most four bytes for each

pub char_short : (c : ℕ) → length (token_char c) ≤ 4
unfolding token_char
char_short c =
    let P : List ℕ → Type 0 = λ w. length w ≤ 4 in
    both P (eqb c 0x7E) (λ t. omega arith) (λ _. both P (eqb c 0x2F) (λ t. omega arith) (λ t. utf8_short c))

chars_short : (cs : List ℕ) → length (token_chars cs) ≤ 4 * length cs
chars_short [] = omega arith
chars_short (c ∷ cs) = omega (arith, char_short c, chars_short cs, length-append (token_char c) (token_chars cs))

-- a name has no more characters than bytes
values_few : (k : ℕ) (more : ℕ → List ℕ) → ((j : ℕ) → length (more j) ≤ k) → (st : Reading Step) → length (values_on more st) ≤ suc k
values_few k more h (Ok (Char v j)) = omega (arith, h j)
values_few k more h (Ok Quote) = omega arith
values_few k more h (Err r) = omega arith

from_few : (k : ℕ) (s : List ℕ) (i : ℕ) → length (chars_from k s i) ≤ k
unfolding chars_from
from_few zero s i = omega arith
from_few (suc k) s i = values_few k (λ j. chars_from k s j) (λ j. from_few k s j) (char_at s i)

pub name_short : (s : List ℕ) → length (token_chars (characters s)) ≤ 4 * length s
unfolding chars_at
name_short s = omega (arith, chars_short (characters s), from_few (length s - 0) s 0)

-- ---- the characters up to place i of a name are put, from place `at` of a buffer that held `before`

pub record Naming (name : List ℕ) (at : ℕ) (before : List ℕ) (next i : ℕ) (out : List ℕ) : Type 0 where
  pub done : List ℕ
  pub puts : Puts done at next before out
  pub few : length done ≤ 4 * i
  pub inside : i ≤ length name
  pub rest : token_chars (characters name) ≡ done ++ token_chars (chars_at name i)

pub naming_start : (name : List ℕ) (at : ℕ) (out : List ℕ) → Naming name at out at 0 out
naming_start name at out = record { done = []; puts = puts_none at out; few = omega arith; inside = omega arith; rest = refl }

module _ {name : List ℕ} {at : ℕ} {before : List ℕ} {next i : ℕ} {out : List ℕ} (g : Naming name at before next i out) where
  pub naming_next : (x : Character) → character_at name i ≡ Some x → {k : ℕ} {out₂ : List ℕ} → Puts (token_char x.value) next k out out₂
      → Naming name at before k x.next out₂
  naming_next x e p =
      let v = x.value in
      let q = char_read name i v x.next e in
      let b = char_next name i v x.next q in
      record {
        done = g.done ++ token_char v;
        puts = puts_append g.puts p;
        few = omega (arith, g.few, b.0, char_short v, length-append g.done (token_char v));
        inside = b.1;
        rest =
            g.rest
            ∙ ap (λ (cs : List ℕ). g.done ++ token_chars cs) (chars_char name i v x.next q)
            ∙ sym (append_assoc g.done (token_char v) (token_chars (chars_at name x.next)));
      }

  pub naming_end : character_at name i ≡ None → Puts (token_chars (characters name)) at next before out
  naming_end e =
      puts_as (g.rest ∙ ap (λ (cs : List ℕ). g.done ++ token_chars cs) (chars_none name i e) ∙ append-nil g.done) g.puts
