-- The name of a member.
use Prim.Native.Nat.{ℕ, ◌+◌, ◌≤◌}
use mathlib.Core.Path.{◌≡◌, sym, ap, subst}
use mathlib.Core.List.{List, [], ◌∷◌, ◌++◌}
use native.Mathlib.Omega.{arith}
use lib.ListN.{length, set, length-append}
use Rattle.tokens.specs.Spelling.{IsQuoted}
use Rattle.tokens.proofs.Facts.{quoted_characters}
use Rattle.syntax.specs.Grammar.{name_of}
use Rattle.writer.specs.Spell.{spell_string}
use Rattle.writer.specs.Tokens.{string_end, string_bytes}
use Rattle.writer.proofs.Facts.{string-end}
use Rattle.samples.proofs.Lent.{left_of, put_back, wrote_one, Lent, lent, lent_more, lent_last}
use Rattle.samples.specs.Writing.{Writes, NameReady, NameWritten}

module _ {s : List ℕ} {i e : ℕ} (q : IsQuoted s i e) where
  pub name_quoted : IsQuoted s i (string_end s i)
  name_quoted = subst (IsQuoted s i) (string-end q) q

  pub name-bytes : string_bytes s i ≡ spell_string (name_of s i e)
  name-bytes = ap spell_string (sym (quoted_characters q))

-- behind the name, the colon is still to be written
pub name_room : {s : List ℕ} {i room lead : ℕ} → NameReady s i room lead → length (string_bytes s i) + 2 ≤ room
name_room {s} {i} r =
    let w = spell_string (name_of s i r.end) in
    omega (arith, r.fits, length-append w (0x3A ∷ []), ap length (name-bytes r.quoted))

module _ {s out : List ℕ} {i lead : ℕ} (p : NameReady s i (length out) lead) where
  -- the byte before it is written
  pub name_begun : Lent out 1 (set out 0 lead) (lead ∷ []) (length (string_bytes s i) + 1)
  name_begun = lent (wrote_one out lead (omega (arith, name_room p))) (omega (arith, name_room p))

  -- and the name behind that
  module _ {n : ℕ} {y : List ℕ} (h : Writes (string_bytes s i) n (left_of 1 (set out 0 lead)) y) where
    pub name_lent : Lent out (1 + n) (put_back 1 (set out 0 lead) y) (lead ∷ string_bytes s i) 1
    name_lent = lent_more name_begun (string_bytes s i) (omega arith) h

    pub name_written : NameWritten s i lead (1 + n + 1) out (set (put_back 1 (set out 0 lead) y) (1 + n) 0x3A)
    name_written = record {
      tells = λ e q. lent_last name_lent (omega arith) 0x3A (ap (λ (w : List ℕ). lead ∷ (w ++ (0x3A ∷ []))) (sym (name-bytes q)));
    }
