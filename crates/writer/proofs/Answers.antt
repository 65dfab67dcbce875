-- What an answer of Compact with code 0 tells: the table and the buffer have room, and the spelling of the tree is written.
use Prim.Native.Nat.{ℕ, ◌≤◌, ◌<◌}
use mathlib.Core.Path.{◌≡◌, refl, ap, ◌∙◌}
use mathlib.Core.List.{List}
use native.Mathlib.Omega.{arith}
use lib.ListN.{length, length-append, length-drop}
use lib.Dec.{leb}
use borrow.Author.Tests.{leb-true, le-leb, lt-leb}
use Rattle.model.proofs.Basics.{both, by_test}
use Rattle.tokens.specs.Parse.{Parse, refused, parsed}
use Rattle.syntax.specs.Tree.{Node}
use Rattle.syntax.specs.Rows.{size}
use Rattle.syntax.specs.Answer.{document_limits, read_within, answer, rows_in, answer_of}
use Rattle.syntax.specs.declared.answers.Answer.{Answer}
use Rattle.syntax.specs.Spelling.{value_of}
use Rattle.syntax.proofs.Theorems.{read_code, read_short}
use Rattle.grammar.proofs.Theorems.{reads_written}
use Rattle.writer.specs.Compact.{spelled, over, written_answer, written_buffer, answer_by, buffer_by, compact_answer, compact_buffer}
use Rattle.writer.specs.Tokens.{Tokens, Writable, Measures, Writes, Answers}
use Rattle.writer.proofs.Tokens.{tokens_one}
use Rattle.writer.proofs.Texts.{text_tokens, tokens_short}

-- of the text s, with a table of w words and a buffer of b bytes
pub record Compacted (w b : ℕ) (s : List ℕ) : Type 0 where
  pub node : Node
  pub end : ℕ
  pub reads : read_within document_limits s ≡ parsed node end
  pub rows : size node ≤ rows_in w
  pub fits : length (spelled s node) ≤ b

module _ (w b : ℕ) (s : List ℕ) where
  by_outcome : (o : Parse Node) → read_within document_limits s ≡ o → (answer_by w b s o).code ≡ 0 → Compacted w b s
  unfolding answer_by answer_of
  by_outcome (refused c p) q h = absurd (omega (arith, read_code 65536 32 s c p q))
  by_outcome (parsed n e) q h =
      let P : Answer → Type 0 = λ a. a.code ≡ 0 → Compacted w b s in
      both P (leb (size n) (rows_in w))
      (λ r. both P (leb (length (spelled s n)) b) (λ f _. record { node = n; end = e; reads = q; rows = leb-true _ _ r; fits = leb-true _ _ f })
      (λ _ z. absurd (omega arith)))
      (λ r z. let z : ◌≡◌ {A = ℕ} 8 0 = rw r at z in absurd (omega arith)) h

  pub compacted : (compact_answer w b s).code ≡ 0 → Compacted w b s
  compacted = by_outcome (read_within document_limits s) refl

  pub compacted_answer : (c : Compacted w b s) → compact_answer w b s ≡ answer 0 0 0 (length (spelled s c.node))
  unfolding answer_by
  compacted_answer c = rw (c.reads, le-leb _ _ c.rows, le-leb _ _ c.fits)

  -- with 0, the length that is given lies within the buffer
  pub compact_fits : (compact_answer w b s).code ≡ 0 → (compact_answer w b s).other ≤ b
  compact_fits h = let c = compacted h in rw (compacted_answer c) c.fits

module _ (w : ℕ) (buffer s : List ℕ) (c : Compacted w (length buffer) s) where
  pub compacted_buffer : compact_buffer w buffer s ≡ over (spelled s c.node) buffer
  unfolding buffer_by
  compacted_buffer = rw (c.reads, le-leb _ _ c.rows, le-leb _ _ c.fits)

  -- the buffer keeps its length
  pub compacted_length : length (compact_buffer w buffer s) ≡ length buffer
  compacted_length = rw compacted_buffer (simp (length-append, length-drop) (let f = c.fits in omega arith))

-- no buffer is too short that has room for the spelling
pub no_short : (w b : ℕ) (s : List ℕ) → ((n : Node) (e : ℕ) → read_within document_limits s ≡ parsed n e → length (spelled s n) ≤ b)
    → (compact_answer w b s).code ≡ 60 → ⊥
unfolding answer_by answer_of
no_short w b s f = go (read_within document_limits s) refl
  where
    go : (o : Parse Node) → read_within document_limits s ≡ o → (answer_by w b s o).code ≡ 60 → ⊥
    go (refused c p) q h = omega (arith, read_code 65536 32 s c p q)
    go (parsed n e) q h =
        by_test (leb (size n) (rows_in w))
        (λ r. let z : ◌≡◌ {A = ℕ} 0 60 = rw (r, le-leb _ _ (f n e q)) at h in omega arith)
        (λ r. let z : ◌≡◌ {A = ℕ} 8 60 = rw r at h in omega arith)

-- ---- by the room in the buffer

module _ (out w : List ℕ) {n : ℕ} (e : n ≡ length w) where
  has_room : n ≤ length out → (answer 0 0 0 n ≡ written_answer (length out) w) × (over w out ≡ written_buffer out w)
  has_room l = rw (e, le-leb (length w) (length out) (omega arith)) (refl, refl)

  has_none : length out < n → (answer 60 0 0 n ≡ written_answer (length out) w) × (out ≡ written_buffer out w)
  has_none l = rw (e, lt-leb (length w) (length out) (omega arith)) (refl, refl)

-- a text of tokens: n bytes are written for it, and there is room for them or not
module _ {s : List ℕ} {m : ℕ} (t : Writable s m) {n : ℕ} where
  pub measured_most : Measures s n → n ≤ m
  measured_most h = omega (arith, h t.bytes t.tokens, t.fits)

  pub measured_fits : Measures s n → {k : ℕ} → n ≤ k → Writable s k
  measured_fits h l = record { bytes = t.bytes; tokens = t.tokens; fits = omega (arith, h t.bytes t.tokens) }

  module _ {out o : List ℕ} (h : Writes s n out o) where
    pub written_short : n ≤ length s
    written_short = omega (arith, (h t.bytes t.tokens).0, tokens_short s t.tokens (omega arith))

    pub written_whole : {a : Answer} → a ≡ answer 0 0 0 n → m ≡ length out → Answers s a out o
    written_whole e z w k =
        let x = h w k in
        let r = has_room out w x.0 (omega (arith, t.fits, x.0, ap length (tokens_one k t.tokens))) in
        (e ∙ r.0, x.1 ∙ r.1)

pub measured_none : {s out : List ℕ} {n : ℕ} → Measures s n → length out < n → {a : Answer} → a ≡ answer 60 0 0 n → Answers s a out out
measured_none {s} {out} h l e w k = let r = has_none out w (h w k) l in (e ∙ r.0, r.1)

-- ---- by the answer of Read

module _ (t : ℕ) (s : List ℕ) where
  -- a refusal stays as it is
  pub refused_stays : (o : Parse Node) → ((answer_of 1 t o).code ≡ 0 → ⊥)
      → ((b : ℕ) → answer_of 1 t o ≡ answer_by t b s o) × ((buffer : List ℕ) → buffer ≡ buffer_by t buffer s o)
  unfolding answer_by buffer_by answer_of
  refused_stays (refused c p) n = (λ b. refl, λ buffer. refl)
  refused_stays (parsed m e) n =
      by_test (leb (size m) (rows_in t)) (λ r. absurd (n (rw r))) (λ r. (λ b. rw r, λ buffer. rw r))

  -- a text that was read: its tokens, and what is said of the bytes that are written for them
  pub record Read : Type 0 where
    pub bytes : List ℕ
    pub tokens : Tokens s 0 bytes
    pub short : length s ≤ 65536
    pub answers : (b : ℕ) → written_answer b bytes ≡ compact_answer t b s
    pub buffers : (buffer : List ℕ) → written_buffer buffer bytes ≡ compact_buffer t buffer s

  done : (o : Parse Node) → read_within document_limits s ≡ o → (answer_of 1 t o).code ≡ 0 → Read
  unfolding answer_by buffer_by answer_of
  done (refused c p) q h = absurd (omega (arith, read_code 65536 32 s c p q))
  done (parsed n e) q h =
      by_test (leb (size n) (rows_in t))
      (λ r. record {
        bytes = spelled s n;
        tokens = text_tokens 32 s (value_of s n) (reads_written 65536 32 s n e q);
        short = read_short 65536 32 s n e q;
        answers = λ b. rw (q, r);
        buffers = λ buffer. rw (q, r);
      })
      (λ r. let z : ◌≡◌ {A = ℕ} 8 0 = rw r at h in absurd (omega arith))

  -- what was read is made of tokens, and is not written longer
  pub read_ready : Read → {m : ℕ} → length s ≤ m → Writable s m × (length s ≤ 65536)
  read_ready r l = (record { bytes = r.bytes; tokens = r.tokens; fits = omega (arith, tokens_short s r.tokens (omega arith)) }, r.short)

  -- and Compact answers what was written for it
  pub read_answers : Read → {a : Answer} (out : List ℕ) {o : List ℕ} → Answers s a out o → {u v : List ℕ} → u ≡ v
      → (a ≡ compact_answer t (length out) s) × ((u ≡ v) × (o ≡ compact_buffer t out s))
  read_answers r out h rows = let e = h r.bytes r.tokens in (e.0 ∙ r.answers (length out), (rows, e.1 ∙ r.buffers out))

  pub read_done : (answer_of 1 t (read_within document_limits s)).code ≡ 0 → Read
  read_done = done (read_within document_limits s) refl
