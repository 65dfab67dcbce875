-- Laws of Tokens: what stands at a place, what is written for it, and that no other bytes are.
use Prim.Native.Nat.{ℕ, ◌+◌, ◌≤◌, ◌<◌}
use mathlib.Core.Path.{◌≡◌, refl, sym, ap, ◌∙◌, subst}
use mathlib.Core.Bool.{true, false}
use mathlib.Core.List.{List, [], ◌∷◌, ◌++◌}
use native.Mathlib.Omega.{arith}
use lib.ListN.{length}
use lib.Dec.{eqb}
use borrow.Author.Tests.{eqb-true, eqb-false}
use Rattle.model.proofs.Basics.{by_test, clash, or-false}
use Rattle.chars.specs.Bytes.{byte_at}
use Rattle.tokens.specs.Space.{is_space, skip}
use Rattle.chars.specs.Strings.{part}
use Rattle.tokens.specs.Spelling.{IsQuoted}
use Rattle.chars.proofs.Facts.{in_text, run_end, run_next, run_stop, run-from, run_within}
use Rattle.tokens.proofs.Facts.{quoted_bounds, part_none, part_one, part_cons}
use Rattle.writer.specs.Runs.{is_structural, is_atom, atom_end}
use Rattle.writer.specs.Tokens.{end_of, string_end, string_bytes, token_end, token_bytes, Tokens, ended, space, quoted, copied}

-- a quote is no space
quote_no_space : {b : ℕ} → b ≡ 0x22 → is_space b ≡ false
unfolding is_space
quote_no_space e = rw e

-- a string, with its opening quote at i
pub record StringAt (s : List ℕ) (i : ℕ) (w : List ℕ) : Type 0 where
  pub rest : List ℕ
  pub splits : w ≡ string_bytes s i ++ rest
  pub is_quoted : IsQuoted s i (string_end s i)
  pub tokens : Tokens s (string_end s i) rest

-- any token
pub record TokenAt (s : List ℕ) (i : ℕ) (w : List ℕ) : Type 0 where
  pub rest : List ℕ
  pub splits : w ≡ token_bytes s i ++ rest
  pub string : byte_at s i ≡ 0x22 → IsQuoted s i (string_end s i)
  pub ahead : i < token_end s i
  pub within : token_end s i ≤ length s
  pub tokens : Tokens s (token_end s i) rest

module _ {s : List ℕ} where
  pub string-end : {i e : ℕ} → IsQuoted s i e → e ≡ string_end s i
  string-end q = sym (ap end_of q.ends)

  -- ---- what stands at i

  pub tokens_end : {i : ℕ} {w : List ℕ} → Tokens s i w → length s ≤ i → w ≡ []
  tokens_end (ended h) l = refl
  tokens_end (space h t k) l = absurd (omega arith)
  tokens_end (quoted q k) l = absurd (omega (arith, quoted_bounds q))
  tokens_end (copied h n k) l = absurd (omega arith)

  pub tokens_space : {i : ℕ} {w : List ℕ} → Tokens s i w → is_space (byte_at s i) ≡ true → Tokens s (i + 1) w
  tokens_space (ended {i} h) t = ended {i = i + 1} (omega arith)
  tokens_space (space h u k) t = k
  tokens_space (quoted q k) t = clash _ t (quote_no_space q.opens)
  tokens_space (copied h n k) t = clash _ t (or-false _ _ n).0

  pub tokens_skip : {i : ℕ} {w : List ℕ} → Tokens s i w → Tokens s (skip s i) w
  tokens_skip (ended {i} h) = rw (run_end is_space s i h) (ended h)
  tokens_skip (space {i} h t k) = rw (run_next is_space s i h t) (tokens_skip k)
  tokens_skip (quoted {i} q k) = rw (run_stop is_space s i (quote_no_space q.opens)) (quoted q k)
  tokens_skip (copied {i} h n k) = rw (run_stop is_space s i (or-false _ _ n).0) (copied h n k)

  pub tokens_string : {i : ℕ} {w : List ℕ} → Tokens s i w → byte_at s i ≡ 0x22 → StringAt s i w
  tokens_string (ended {i} h) o = absurd (omega (arith, in_text s i (omega arith)))
  tokens_string (space h t k) o = clash _ t (quote_no_space o)
  tokens_string (quoted {i} {e} {w} q k) o =
      let z = string-end q in
      record { rest = w; splits = refl; is_quoted = subst (IsQuoted s i) z q; tokens = subst (λ (j : ℕ). Tokens s j w) z k }
  tokens_string (copied {i} h n k) o = absurd (eqb-false _ _ (or-false (is_space (byte_at s i)) _ n).1 o)

  pub tokens_byte : {i : ℕ} {w : List ℕ} → Tokens s i w → i < length s → is_space (byte_at s i) ≡ false → (byte_at s i ≡ 0x22 → ⊥)
      → (rest : List ℕ) × (w ≡ byte_at s i ∷ rest) × Tokens s (i + 1) rest
  tokens_byte (ended h) l f n = absurd (omega arith)
  tokens_byte (space h t k) l f n = clash _ t f
  tokens_byte (quoted q k) l f n = absurd (n q.opens)
  tokens_byte (copied {w = w} h m k) l f n = (w, refl, k)

  -- ---- a token

  -- where no byte of a number or a literal stands
  no_atom : {i : ℕ} {w : List ℕ} → Tokens s i w → atom_end s i ≡ i → (rest : List ℕ) × (w ≡ part s i (atom_end s i) ++ rest) × Tokens s (atom_end s i) rest
  no_atom {i} {w} k z = rw (z, part_none s i) (w, refl, k)

  tokens_atoms : {i : ℕ} {w : List ℕ} → Tokens s i w → (rest : List ℕ) × (w ≡ part s i (atom_end s i) ++ rest) × Tokens s (atom_end s i) rest
  unfolding is_atom
  tokens_atoms (ended {i} h) = no_atom (ended h) (run_end is_atom s i h)
  tokens_atoms (space {i} h t k) = no_atom (space h t k) (run_stop is_atom s i (rw t))
  tokens_atoms (quoted {i} q k) = no_atom (quoted q k) (run_stop is_atom s i (rw (quote_no_space q.opens, q.opens)))
  tokens_atoms (copied {i} h n k) =
      by_test (is_atom (byte_at s i))
      (λ t. let r = tokens_atoms k in
      let l = run-from is_atom s (i + 1) in
      rw (run_next is_atom s i h t, part_cons s i (atom_end s (i + 1)) (omega arith) h) (r.0, ap (◌∷◌ (byte_at s i)) r.1, r.2))
      (λ f. no_atom (copied h n k) (run_stop is_atom s i f))

  -- a token that is copied, up to e
  copied_token : {i : ℕ} {w : List ℕ} (e : ℕ) → token_end s i ≡ e → eqb (byte_at s i) 0x22 ≡ false → i < e → e ≤ length s
      → (rest : List ℕ) × (w ≡ part s i e ++ rest) × Tokens s e rest → TokenAt s i w
  unfolding token_bytes
  copied_token {i} {w} e z f l m r = record {
    rest = r.0;
    splits = rw (f, z) r.1;
    string = λ o. absurd (eqb-false _ _ f o);
    ahead = omega arith;
    within = omega arith;
    tokens = rw z r.2;
  }

  pub tokens_token : {i : ℕ} {w : List ℕ} → Tokens s i w → i < length s → is_space (byte_at s i) ≡ false → TokenAt s i w
  unfolding token_end token_bytes is_atom
  tokens_token {i} {w} k l f =
      by_test (eqb (byte_at s i) 0x22)
      (λ t. let r = tokens_string k (eqb-true _ _ t) in
      let b = quoted_bounds r.is_quoted in
      record {
        rest = r.rest;
        splits = rw t r.splits;
        string = λ _. r.is_quoted;
        ahead = rw t (omega arith);
        within = rw t b.1;
        tokens = rw t r.tokens;
      })
      (λ t. by_test (is_structural (byte_at s i))
      (λ u. let r = tokens_byte k l f (eqb-false _ _ t) in
      copied_token (i + 1) (rw (t, u)) t (omega arith) (omega arith) (r.0, rw (part_one s i l) r.1, r.2))
      (λ u. let z = run_next is_atom s i l (rw (f, t, u)) in
      let m = run-from is_atom s (i + 1) in
      copied_token (atom_end s i) (rw (t, u)) t (omega arith) (run_within is_atom s i (omega arith)) (tokens_atoms k)))

  -- ---- what is written

  pub tokens_one : {i : ℕ} {v w : List ℕ} → Tokens s i v → Tokens s i w → v ≡ w
  tokens_one (ended h) b = sym (tokens_end b h)
  tokens_one (space h t k) b = tokens_one k (tokens_space b t)
  tokens_one (quoted {i} q k) b =
      let r = tokens_string b q.opens in
      ap (λ (x : List ℕ). string_bytes s i ++ x) (tokens_one k (subst (λ (j : ℕ). Tokens s j r.rest) (sym (string-end q)) r.tokens)) ∙ sym r.splits
  tokens_one (copied {i} h n k) b =
      let o = or-false _ _ n in
      let r = tokens_byte b h o.0 (eqb-false _ _ o.1) in
      ap (◌∷◌ (byte_at s i)) (tokens_one k r.2) ∙ sym r.1
