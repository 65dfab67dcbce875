-- The hash of a name as its characters are passed, and what a hashed name says of the string.
use mathlib.Core.Path.{◌≡◌, refl, sym, ap, ◌∙◌}
use mathlib.Core.List.{List, [], ◌∷◌}
use Prim.Native.Nat.{ℕ, ◌+◌, ◌-◌, ◌<◌}
use native.Mathlib.Omega.{arith}
use Rattle.model.proofs.Basics.{never}
use Rattle.chars.specs.declared.characters.Step.TheVariants.{Char, Quote}
use Rattle.chars.specs.Characters.{char_at}
use Rattle.chars.specs.Strings.{string_at, chars_at, characters, part, values_on}
use Rattle.chars.specs.Hashing.{mix, finish, hash_from, hash_of, hashed, hashed_by, hashed_at}
use Rattle.chars.proofs.strings.Laws.{string_char, string_quote, string_stop, chars_step, chars_char}
use Rattle.chars.proofs.strings.Parts.{body_characters}
use Rattle.std.specs.Prelude.{Ok, Err}
use Rattle.chars.specs.Refusals.{Reading}
use Rattle.chars.specs.declared.hashing.Hashed.{Hashed}
use Rattle.chars.specs.declared.refusals.Refusal.{Refusal}

from_small : (h : ℕ) (cs : List ℕ) → hash_from h cs < 65536
from_small h [] = omega arith
from_small h (c ∷ cs) = from_small (mix h c) cs

pub hash_small : (cs : List ℕ) → hash_of cs < 65536
hash_small cs = from_small 0 cs

-- the name is as the string ends
module _ (s : List ℕ) (i : ℕ) where
  hashed_ends : (e : ℕ) → string_at s i ≡ Ok e → hashed_at s i ≡ Ok (hashed e (hash_of (chars_at s i)))
  unfolding hashed_at
  hashed_ends e q = ap (hashed_by s i) q ∙ ap (λ (cs : List ℕ). Ok (hashed e (hash_of cs))) (body_characters s i e q)

  hashed_stops : (r : Refusal) → string_at s i ≡ Err r → hashed_at s i ≡ Err r
  unfolding hashed_at
  hashed_stops r q = ap (hashed_by s i) q

  ends_by : (e h : ℕ) (x : Reading ℕ) → hashed_by s i x ≡ Ok (hashed e h) → (x ≡ Ok e) × (h ≡ hash_of (characters (part s i (e - 1))))
  ends_by e h (Ok e₂) q =
      let n : hashed e₂ (hash_of (characters (part s i (e₂ - 1)))) ≡ hashed e h = cc in
      let l : e₂ ≡ e = ap (λ (x : Hashed). x.end) n in
      (ap Ok l, sym (ap (λ (x : Hashed). x.hash) n) ∙ ap (λ (x : ℕ). hash_of (characters (part s i (x - 1)))) l)
  ends_by e h (Err r) q = never (cc)

  stops_by : (r : Refusal) (x : Reading ℕ) → hashed_by s i x ≡ Err r → x ≡ Err r
  stops_by r (Ok e) q = never (cc)
  stops_by r (Err r₂) q = cc

  -- the string is as the name says
  pub name_hashed : (e h : ℕ) → hashed_at s i ≡ Ok (hashed e h) → (string_at s i ≡ Ok e) × (h ≡ hash_of (characters (part s i (e - 1))))
  unfolding hashed_at
  name_hashed e h q = ends_by e h (string_at s i) q

  pub name_broken : (r : Refusal) → hashed_at s i ≡ Err r → string_at s i ≡ Err r
  unfolding hashed_at
  name_broken r q = stops_by r (string_at s i) q

-- the characters from i up to j are hashed to h, and the string goes on at j
pub record SoFar (s : List ℕ) (i h j : ℕ) : Type 0 where
  pub small : h < 4294967296
  pub onward : string_at s i ≡ string_at s j
  pub agrees : hash_of (chars_at s i) ≡ hash_from h (chars_at s j)

pub far_begin : (s : List ℕ) (i : ℕ) → SoFar s i 0 i
far_begin s i = record { small = omega arith; onward = refl; agrees = refl }

module _ {s : List ℕ} {i h j : ℕ} (f : SoFar s i h j) where
  pub far_next : {v n : ℕ} → char_at s j ≡ Ok (Char v n) → SoFar s i (mix h v) n
  far_next {v} {n} e =
      record {
        small = omega arith;
        onward = f.onward ∙ string_char s j v n e;
        agrees = f.agrees ∙ ap (hash_from h) (chars_char s j v n e);
      }

  pub far_end : char_at s j ≡ Ok Quote → hashed_at s i ≡ Ok (hashed (j + 1) (finish h))
  far_end e =
      let r : hash_of (chars_at s i) ≡ finish h = f.agrees ∙ ap (hash_from h) (chars_step s j ∙ ap (values_on (chars_at s)) e) in
      hashed_ends s i (j + 1) (f.onward ∙ string_quote s j e) ∙ ap (λ (n : ℕ). Ok (hashed (j + 1) n)) r

  pub far_stop : {r : Refusal} → char_at s j ≡ Err r → hashed_at s i ≡ Err r
  far_stop {r} e = hashed_stops s i r (f.onward ∙ string_stop s j r e)
