-- A word, byte by byte from its kth on; the number behind a minus; what a value begins with, by its tag.
use mathlib.Core.Path.{◌≡◌}
use mathlib.Core.List.{List}
use Prim.Native.Nat.{ℕ, suc, ◌+◌, ◌≤◌, ◌<◌}
use native.Mathlib.Numerals.{add-one}
use native.Mathlib.Omega.{arith}
use lib.ListN.{length, drop, get_or, drop_of_length-le}
use lib.Seq.{drop-cons}
use borrow.Author.Tests.{eq-eqb, ne_eqb}
use Rattle.chars.specs.Bytes.{byte_at}
use Rattle.tokens.specs.Parse.{parsed, unexpected}
use Rattle.std.specs.Prelude.{Ok, Err}
use Rattle.chars.specs.Refusals.{Reading}
use Rattle.chars.specs.declared.refusals.Refusal.{Refusal}
use Rattle.chars.specs.Strings.{string_at}
use Rattle.tokens.specs.declared.tokens.Kind.{Kind}
use Rattle.tokens.specs.declared.tokens.Kind.TheVariants.{Quoted}
use Rattle.tokens.specs.Tokens.{token, token_of}
use Rattle.tokens.specs.Scalars.{word_at, quoted}

module _ (t : Kind) (w s : List ℕ) (i k : ℕ) where
  -- b is the byte behind k others from i on
  module _ {b : ℕ} (read : b ≡ byte_at s (i + k)) (h : k < length w) where
    pub word_next : b ≡ get_or w k 0 → word_at t (drop k w) s (i + k) ≡ word_at t (drop (k + 1) w) s (i + (k + 1))
    unfolding word_at
    word_next e =
        let next : i + suc k ≡ i + k + 1 = omega arith in rw (add-one k, drop-cons w k 0 h, ← read, eq-eqb b _ e, next)

    pub word_stop : (b ≡ get_or w k 0 → ⊥) → word_at t (drop k w) s (i + k) ≡ unexpected s (i + k)
    unfolding word_at
    word_stop n = rw (drop-cons w k 0 h, ← read, ne_eqb b _ n)

  pub word_end : k ≡ length w → word_at t (drop k w) s (i + k) ≡ parsed t (i + length w)
  unfolding word_at
  word_end h = let l : length w ≤ k = omega arith in rw (drop_of_length-le w l, h)

-- a string, of which x is where it ends
module _ (s : List ℕ) (i : ℕ) {x : Reading ℕ} (read : x ≡ string_at s i) where
  pub string_taken : {e : ℕ} → x ≡ Ok e → Ok (token Quoted e) ≡ token_of (quoted (string_at s i))
  string_taken q = rw (← read, q)

  pub string_broken : {r : Refusal} → x ≡ Err r → Err r ≡ token_of (quoted (string_at s i))
  string_broken q = rw (← read, q)
