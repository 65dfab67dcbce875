-- Along, AlongBuffer: how far the tokens of a text are written. And one token more.
use Prim.Native.Nat.{ℕ, ◌+◌, ◌-◌, ◌≤◌, ◌<◌}
use mathlib.Core.Path.{◌≡◌, refl, sym, ap, ◌∙◌, subst}
use mathlib.Core.Bool.{false}
use mathlib.Core.List.{List, [], ◌∷◌, ◌++◌, append_assoc, append-nil}
use native.Mathlib.Omega.{arith}
use lib.ListN.{length, length-append}
use borrow.Rule.Slice.PartMut.{mid_of, put_mid}
use Rattle.chars.specs.Bytes.{byte_at}
use Rattle.tokens.specs.Space.{is_space, skip}
use Rattle.chars.proofs.Facts.{run-from, run_ended}
use Rattle.writer.specs.Compact.{over}
use Rattle.writer.specs.Tokens.{string_end, string_bytes, token_end, token_bytes, piece, Tokens, TokenReady, Writable, Measures, Writes}
use Rattle.writer.specs.declared.pieces.Piece.{Piece}
use Rattle.writer.proofs.Over.{Wrote, wrote_none, wrote_length, left_length, wrote_more}
use Rattle.writer.proofs.Tokens.{TokenAt, tokens_end, tokens_skip, tokens_byte, tokens_token, tokens_one}
use Rattle.writer.proofs.Texts.{tokens_short}
use Rattle.writer.proofs.pieces.Laws.{string_piece}

-- the n bytes of `done` are written for the tokens up to i, where the next one stands
pub record Along (s : List ℕ) (i n : ℕ) : Type 0 where
  pub done : List ℕ
  pub rest : List ℕ
  pub all : Tokens s 0 (done ++ rest)
  pub tokens : Tokens s i rest
  pub count : n ≡ length done
  pub small : n + length rest ≤ length s
  pub no_space : i < length s → is_space (byte_at s i) ≡ false

module _ {s : List ℕ} where
  -- where the space behind j ends
  at_token : {j : ℕ} (done rest : List ℕ) → Tokens s 0 (done ++ rest) → Tokens s j rest → {i n : ℕ} → i ≡ skip s j → n ≡ length done → Along s i n
  at_token {j} done rest k t e c = record {
    done = done;
    rest = rest;
    all = k;
    tokens = rw e (tokens_skip t);
    count = c;
    small = omega (arith, length-append done rest, tokens_short s k (omega arith));
    no_space = rw e (run_ended is_space s j);
  }

  pub along_none : {w : List ℕ} → Tokens s 0 w → {i : ℕ} → i ≡ skip s 0 → Along s i 0
  along_none {w} k e = at_token [] w k k e refl

  module _ {i n : ℕ} (g : Along s i n) where
    done_all : length s ≤ i → {w : List ℕ} → Tokens s 0 w → g.done ≡ w
    done_all h k = sym (append-nil g.done) ∙ ap (λ (r : List ℕ). g.done ++ r) (sym (tokens_end g.tokens h)) ∙ tokens_one g.all k

    pub along_end : length s ≤ i → Measures s n
    along_end h w k = g.count ∙ ap length (done_all h k)

    -- w more, up to j, with the space behind it
    more : (w r : List ℕ) (j : ℕ) → g.rest ≡ w ++ r → Tokens s j r → {k m : ℕ} → k ≡ length w → m ≡ skip s j → Along s m (n + k)
    more w r j e t z q =
        at_token (g.done ++ w) r (rw append_assoc (subst (λ (x : List ℕ). Tokens s 0 (g.done ++ x)) e g.all)) t q
        (omega (arith, g.count, length-append g.done w))

    module _ (l : i < length s) where
      token : TokenAt s i g.rest
      token = tokens_token g.tokens l (g.no_space l)

      -- one token, by the piece that was told, and the space behind it
      module _ {p : Piece} (e : p ≡ piece (token_end s i) (token_bytes s i)) {m : ℕ} (q : m ≡ skip s p.next) where
        pub along_token : Along s m (n + p.len)
        along_token =
            more (token_bytes s i) token.rest (token_end s i) token.splits token.tokens (ap (λ (p : Piece). p.len) e)
            (q ∙ ap (λ (p : Piece). skip s p.next) e)

        -- less of the text is left
        pub token_less : length s - m < length s - i
        token_less = omega (arith, token.ahead, ap (λ (p : Piece). p.next) e, run-from is_space s p.next)

      -- a string
      module _ (b : byte_at s i ≡ 0x22) {p : Piece} (e : p ≡ piece (string_end s i) (string_bytes s i)) {m : ℕ} (q : m ≡ skip s p.next) where
        pub along_string : Along s m (n + p.len)
        along_string = along_token (string_piece s i b e) q

        pub string_less : length s - m < length s - i
        string_less = token_less (string_piece s i b e) q

      -- one byte that is no quote
      module _ (b : byte_at s i ≡ 0x22 → ⊥) {m : ℕ} (q : m ≡ skip s (i + 1)) where
        pub along_byte : Along s m (n + 1)
        along_byte = let t = tokens_byte g.tokens l (g.no_space l) b in more (byte_at s i ∷ []) t.0 (i + 1) t.1 t.2 refl q

        pub byte_less : length s - m < length s - i
        byte_less = omega (arith, run-from is_space s (i + 1))

-- ---- the same, written to a buffer that held `before` and has room for what is left

pub record AlongBuffer (s before : List ℕ) (i n : ℕ) (out : List ℕ) : Type 0 where
  pub along : Along s i n
  pub wrote : Wrote before n out along.done
  pub room : n + length along.rest ≤ length before
  pub same : length out ≡ length before

pub buffer_none : {s before : List ℕ} → Writable s (length before) → {i : ℕ} → i ≡ skip s 0 → AlongBuffer s before i 0 before
unfolding along_none at_token
buffer_none {s} {before} h e =
    record { along = along_none h.tokens e; wrote = wrote_none before; room = omega (arith, h.fits); same = refl }

module _ {s before : List ℕ} {i n : ℕ} {out : List ℕ} (g : AlongBuffer s before i n out) where
  pub buffer_end : length s ≤ i → Writes s n before out
  buffer_end h w k = (along_end g.along h w k, g.wrote.holds ∙ ap (λ (x : List ℕ). over x before) (done_all g.along h k))

  -- what is left of the buffer is lent to the writer of a token
  module _ (l : i < length s) where
    pub buffer_lends : TokenReady s i (length (mid_of n (length out - n) out))
    buffer_lends =
        let t = token g.along l in
        let e = left_length g.wrote (omega (arith, g.room)) in
        record {
          inside = l;
          string = t.string;
          fits = omega (arith, e, g.room, ap length t.splits, length-append (token_bytes s i) t.rest);
        }

    pub buffer_token : {p : Piece} {y : List ℕ}
        → (p ≡ piece (token_end s i) (token_bytes s i)) × (y ≡ over (token_bytes s i) (mid_of n (length out - n) out))
        → {m : ℕ} → m ≡ skip s p.next → AlongBuffer s before m (n + p.len) (put_mid n (length out - n) out y)
    unfolding along_token more at_token
    buffer_token {p} h q =
        let t = token g.along l in
        let z : p.len ≡ length (token_bytes s i) = ap (λ (p : Piece). p.len) h.0 in
        let w = wrote_more g.wrote (omega (arith, g.room)) (token_bytes s i) z h.1 in
        let r : n + p.len + length t.rest ≤ length before =
        omega (arith, g.room, ap length t.splits, length-append (token_bytes s i) t.rest) in
        record { along = along_token g.along l h.0 q; wrote = w; room = r; same = wrote_length w (omega arith) }
