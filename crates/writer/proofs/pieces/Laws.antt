-- InString: how far the string at a place is written. And a character, a stretch and the closing quote more.
use Prim.Native.Nat.{ℕ, ◌+◌, ◌-◌, ◌≤◌, ◌<◌}
use mathlib.Core.Path.{◌≡◌, refl, sym, ap, ◌∙◌, subst}
use mathlib.Core.Bool.{true, false}
use mathlib.Core.List.{List, [], ◌∷◌, ◌++◌, append_assoc}
use native.Mathlib.Omega.{arith}
use lib.ListN.{length, set, length-append, length-set}
use lib.Seq.{sets}
use lib.Dec.{eqb}
use borrow.Rule.Slice.PartMut.{mid_of, put_mid}
use borrow.Author.Tests.{ne_eqb, eqb-false}
use Rattle.model.proofs.Basics.{by_test}
use Rattle.chars.specs.Bytes.{byte_at}
use Rattle.chars.specs.declared.characters.Step.{Step}
use Rattle.chars.specs.declared.characters.Step.TheVariants.{Char, Quote}
use Rattle.chars.specs.declared.characters.Character.{Character}
use Rattle.chars.specs.Characters.{char_at, character_in, character_at}
use Rattle.chars.specs.Strings.{string_at, chars_at, part}
use Rattle.tokens.specs.Spelling.{IsQuoted}
use Rattle.chars.proofs.Facts.{run_next, run-from, char_next, char_read, string_bounds, string_char, chars_char}
use Rattle.tokens.proofs.Facts.{part_one}
use Rattle.grammar.proofs.Facts.{char_quote}
use Rattle.writer.specs.Spell.{spell_char, spell_chars}
use Rattle.writer.specs.Compact.{over}
use Rattle.writer.specs.Runs.{is_ordinary, ordinary_end, is_structural, is_atom, atom_end}
use Rattle.writer.specs.Tokens.{next_of, bytes_of, stretch_end, stretch_bytes, string_end, string_bytes, token_end, token_bytes, piece, TokenReady}
use Rattle.writer.specs.declared.pieces.Piece.{Piece}
use Rattle.writer.proofs.runs.Laws.{run_length, run_room}
use Rattle.writer.proofs.Over.{over_as, over_first, Wrote, wrote_byte, wrote_length, left_length, wrote_more, wrote_last}
use Rattle.writer.proofs.Copied.{ordinary, value_most}
use Rattle.writer.proofs.Stretches.{stretch, string_short, not_refused, quote_ends, quote_byte}
use Rattle.std.specs.Prelude.{Ok, Err, Option, Some, None}
use Rattle.chars.specs.Refusals.{Reading}

-- a piece by its numbers
piece_is : (w : List ℕ) {e k n : ℕ} → k ≡ e → n ≡ length w → ◌≡◌ {A = Piece} (record { next = k; len = n }) (piece e w)
piece_is w p q = rw (p, q)

-- ---- an escape or a stretch of bytes, at i

module _ (s : List ℕ) (i : ℕ) where
  -- its piece, with these numbers
  abbrev IsStretch : ℕ → ℕ → Type 0
  IsStretch k n = ◌≡◌ {A = Piece} (record { next = k; len = n }) (piece (stretch_end s i) (stretch_bytes s i))

  -- and its bytes are written
  abbrev WritesStretch : ℕ → ℕ → List ℕ → List ℕ → Type 0
  WritesStretch k n o out = IsStretch k n × (o ≡ over (stretch_bytes s i) out)

  -- bytes that are copied
  module _ (b : byte_at s i ≡ 0x5C → ⊥) where
    ordinary_bytes : stretch_bytes s i ≡ part s i (ordinary_end s i)
    unfolding stretch_bytes
    ordinary_bytes = rw (ne_eqb (byte_at s i) 0x5C b)

    pub ordinary_piece : {k : ℕ} → k ≡ ordinary_end s i → IsStretch k (k - i)
    unfolding stretch_end
    ordinary_piece e = piece_is (stretch_bytes s i) (rw (ne_eqb (byte_at s i) 0x5C b) e) (rw (ordinary_bytes, e) (sym (run_length is_ordinary s i)))

    -- there is room for them
    pub ordinary_room : {m : ℕ} → length (stretch_bytes s i) ≤ m → ordinary_end s i ≤ i + m
    ordinary_room {m} h = run_room is_ordinary s i m (rw ordinary_bytes at h)

    pub ordinary_written : (out : List ℕ) {k : ℕ} {o : List ℕ} → (k ≡ ordinary_end s i) × (o ≡ over (part s i (ordinary_end s i)) out)
        → WritesStretch k (k - i) o out
    ordinary_written out e = (ordinary_piece e.0, rw ordinary_bytes e.1)

  -- an escape
  module _ (b : byte_at s i ≡ 0x5C) {o : Option Character} (q : o ≡ character_at s i) where
    escape_bytes : stretch_bytes s i ≡ bytes_of o
    unfolding stretch_bytes
    escape_bytes = rw (b, ← q)

    of_escape : (n : ℕ) → n ≡ length (bytes_of o) → IsStretch (next_of i o) n
    unfolding stretch_end
    of_escape n e = piece_is (stretch_bytes s i) (rw (b, ← q)) (rw escape_bytes e)

    -- of a character
    module _ {x : Character} (c : o ≡ Some x) where
      is_char : stretch_bytes s i ≡ spell_char x.value
      is_char = escape_bytes ∙ ap bytes_of c

      pub escape_piece : {n : ℕ} → n ≡ length (spell_char x.value) → IsStretch x.next n
      escape_piece {n} e = subst (λ (x : Option Character). n ≡ length (bytes_of x) → IsStretch (next_of i x) n) c (of_escape n) e

      pub escape_ready : {m : ℕ} → length (stretch_bytes s i) ≤ m → (x.value ≤ 0x10FFFF) × (length (spell_char x.value) ≤ m)
      escape_ready h = (value_most s i x.value x.next (char_read s i x.value x.next (sym q ∙ c)), rw is_char at h)

      pub escape_written : (out : List ℕ) {n : ℕ} {u : List ℕ} → (n ≡ length (spell_char x.value)) × (u ≡ over (spell_char x.value) out)
          → WritesStretch x.next n u out
      escape_written out e = (escape_piece e.0, rw is_char e.1)

    -- where no character stands
    pub no_bytes : o ≡ None → (out : List ℕ) → WritesStretch i 0 out out
    no_bytes z out = (subst (λ (x : Option Character). 0 ≡ length (bytes_of x) → IsStretch (next_of i x) 0) z (of_escape 0) refl, rw (escape_bytes ∙ ap bytes_of z))

-- ---- a string

-- of the string whose opening quote is at `at`, the n bytes of `done` are written where it goes on at i
pub record InString (s : List ℕ) (at i n : ℕ) : Type 0 where
  pub done : List ℕ
  pub is_quoted : IsQuoted s at (string_end s at)
  pub count : n ≡ length done
  pub goes-on : string_at s i ≡ Ok (string_end s at)
  pub splits : string_bytes s at ≡ done ++ (spell_chars (chars_at s i) ++ (0x22 ∷ []))
  -- the closing quote is still to be written; places and counts lie within the text
  pub room : n + length (spell_chars (chars_at s i)) + 1 ≡ length (string_bytes s at)
  pub inside : i < length s
  pub small : n < length s

module _ {s : List ℕ} {at : ℕ} where
  in_string : (i n : ℕ) (done : List ℕ) → IsQuoted s at (string_end s at) → n ≡ length done → string_at s i ≡ Ok (string_end s at)
      → string_bytes s at ≡ done ++ (spell_chars (chars_at s i) ++ (0x22 ∷ [])) → InString s at i n
  in_string i n done q c h e =
      let u = spell_chars (chars_at s i) in
      let z : n + length u + 1 ≡ length (string_bytes s at) =
      omega (arith, ap length e, length-append done (u ++ (0x22 ∷ [])), length-append u (0x22 ∷ [])) in
      let b = string_bounds s i (string_end s at) h in
      record {
        done = done;
        is_quoted = q;
        count = c;
        goes-on = h;
        splits = e;
        room = z;
        inside = omega arith;
        small = omega (arith, string_short s at (string_end s at) q);
      }

  pub in_opened : IsQuoted s at (string_end s at) → InString s at (at + 1) 1
  in_opened q = in_string (at + 1) 1 (0x22 ∷ []) q refl q.ends refl

  module _ {i n : ℕ} (g : InString s at i n) where
    -- the closing quote
    closed : byte_at s i ≡ 0x22 → (string_end s at ≡ i + 1) × (string_bytes s at ≡ g.done ++ (0x22 ∷ []))
    closed b = let r = quote_ends s i (string_end s at) (char_quote s i b) g.goes-on in (r.0, g.splits ∙ rw r.1)

    pub in_whole : byte_at s i ≡ 0x22 → ◌≡◌ {A = Piece} (record { next = i + 1; len = n + 1 }) (piece (string_end s at) (string_bytes s at))
    in_whole b =
        let r = closed b in
        piece_is (string_bytes s at) (sym r.0) (omega (arith, g.count, ap length r.1, length-append g.done (0x22 ∷ [])))

    -- what stands before it
    module _ (b : byte_at s i ≡ 0x22 → ⊥) where
      -- w is written for what stands there, and the string goes on at j
      record Passed (j : ℕ) (w : List ℕ) : Type 0 where
        pub further : i < j
        pub goes-on : string_at s j ≡ Ok (string_end s at)
        pub splits : spell_chars (chars_at s i) ≡ w ++ spell_chars (chars_at s j)

      escaped : (o : Reading Step) → char_at s i ≡ o → Passed (next_of i (character_in o)) (bytes_of (character_in o))
      escaped (Ok (Char v j)) q = record {
        further = (char_next s i v j q).0;
        goes-on = sym (string_char s i v j q) ∙ g.goes-on;
        splits = ap spell_chars (chars_char s i v j q);
      }
      escaped (Ok Quote) q = absurd (b (quote_byte s i (string_end s at) q g.goes-on))
      escaped (Err r) q = absurd (not_refused s i (string_end s at) q g.goes-on)

      copied : eqb (byte_at s i) 0x5C ≡ false → Passed (ordinary_end s i) (part s i (ordinary_end s i))
      copied f =
          let r = stretch s i (string_end s at) g.goes-on in
          let z = run_next is_ordinary s i g.inside (ordinary (byte_at s i) b (eqb-false _ _ f)) in
          record { further = omega (arith, run-from is_ordinary s (i + 1)); goes-on = r.goes-on; splits = r.copied }

      passed : Passed (stretch_end s i) (stretch_bytes s i)
      unfolding stretch_end stretch_bytes
      passed = by_test (eqb (byte_at s i) 0x5C) (λ t. rw t (escaped (char_at s i) refl)) (λ f. rw f (copied f))

      -- by the piece that was told
      module _ {p : Piece} (e : p ≡ piece (stretch_end s i) (stretch_bytes s i)) where
        -- less of the text is left
        pub in_less : length s - p.next < length s - i
        in_less = rw e (omega (arith, passed.further, g.inside))

        pub in_piece : InString s at p.next (n + p.len)
        in_piece =
            in_string p.next (n + p.len) (g.done ++ stretch_bytes s i) g.is_quoted
            (omega (arith, g.count, ap (λ (p : Piece). p.len) e, length-append g.done (stretch_bytes s i)))
            (rw e passed.goes-on) (g.splits ∙ rw (e, passed.splits) (simp append_assoc))

-- the same, written to a buffer that held `before` and has room for all of it
pub record InBuffer (s : List ℕ) (at : ℕ) (before : List ℕ) (i n : ℕ) (out : List ℕ) : Type 0 where
  pub string : InString s at i n
  pub wrote : Wrote before n out string.done
  pub room : length (string_bytes s at) ≤ length before
  pub same : length out ≡ length before
  pub fits : n < length out

in_buffer : {s : List ℕ} {at : ℕ} {before : List ℕ} {i n : ℕ} {out : List ℕ} (g : InString s at i n) → Wrote before n out g.done
    → length (string_bytes s at) ≤ length before → InBuffer s at before i n out
in_buffer g w r = let z = wrote_length w (omega (arith, g.room)) in record { string = g; wrote = w; room = r; same = z; fits = omega (arith, g.room) }

pub buffer_opened : {s : List ℕ} {at : ℕ} (out : List ℕ) → IsQuoted s at (string_end s at) × (length (string_bytes s at) ≤ length out)
    → InBuffer s at (set out 0 0x22) (at + 1) 1 (set out 0 0x22)
unfolding in_opened in_string
buffer_opened out h = in_buffer (in_opened h.0) (wrote_byte out 0x22 (omega arith)) (simp length-set h.1)

module _ {s : List ℕ} {at : ℕ} {before : List ℕ} {i n : ℕ} {out : List ℕ} (g : InBuffer s at before i n out) where
  -- the rest of the buffer is lent to the writer of a stretch
  module _ (b : byte_at s i ≡ 0x22 → ⊥) where
    pub buffer_lends : length (stretch_bytes s i) ≤ length (mid_of n (length out - n) out)
    buffer_lends = omega (arith, left_length g.wrote (omega arith), (in_piece g.string b refl).room)

    pub buffer_piece : {p : Piece} {y : List ℕ}
        → (p ≡ piece (stretch_end s i) (stretch_bytes s i)) × (y ≡ over (stretch_bytes s i) (mid_of n (length out - n) out))
        → InBuffer s at before p.next (n + p.len) (put_mid n (length out - n) out y)
    unfolding in_piece in_string
    buffer_piece h =
        in_buffer (in_piece g.string b h.0)
        (wrote_more g.wrote (omega arith) (stretch_bytes s i) (ap (λ (p : Piece). p.len) h.0) h.1) g.room

  -- the closing quote; the opening one is written again
  pub buffer_whole : byte_at s i ≡ 0x22 → (first : List ℕ) → before ≡ set first 0 0x22
      → (◌≡◌ {A = Piece} (record { next = i + 1; len = n + 1 }) (piece (string_end s at) (string_bytes s at))) × (set out n 0x22 ≡ over (string_bytes s at) first)
  buffer_whole b first e = (
    in_whole g.string b,
    wrote_last g.wrote (omega arith) 0x22 (omega arith)
        ∙ ap (λ (w : List ℕ). over w before) (sym (closed g.string b).1)
        ∙ ap (over (string_bytes s at)) e
        ∙ over_first first (string_bytes s at) 0x22 (omega arith),
  )

-- ---- any token, at i

module _ (s : List ℕ) (i : ℕ) where
  -- its piece, and its bytes are written
  abbrev WritesToken : Piece → List ℕ → List ℕ → Type 0
  WritesToken p o out = (p ≡ piece (token_end s i) (token_bytes s i)) × (o ≡ over (token_bytes s i) out)

  -- a string
  module _ (e : byte_at s i ≡ 0x22) where
    string_token : (token_end s i ≡ string_end s i) × (token_bytes s i ≡ string_bytes s i)
    unfolding token_end token_bytes
    string_token = rw e (refl, refl)

    pub string_piece : {p : Piece} → p ≡ piece (string_end s i) (string_bytes s i) → p ≡ piece (token_end s i) (token_bytes s i)
    string_piece h = rw (string_token.0, string_token.1) h

    pub string_ready : {m : ℕ} → TokenReady s i m → IsQuoted s i (string_end s i) × (length (string_bytes s i) ≤ m)
    string_ready p = (p.string e, rw string_token.1 at p.fits)

    pub string_written : (out : List ℕ) {p : Piece} {o : List ℕ} → (p ≡ piece (string_end s i) (string_bytes s i)) × (o ≡ over (string_bytes s i) out)
        → WritesToken p o out
    string_written out h = (string_piece h.0, rw string_token.1 h.1)

  module _ (b : byte_at s i ≡ 0x22 → ⊥) where
    -- a structural byte
    module _ (t : is_structural (byte_at s i) ≡ true) (l : i < length s) where
      structural_bytes : token_bytes s i ≡ byte_at s i ∷ []
      unfolding token_bytes token_end
      structural_bytes = rw (ne_eqb (byte_at s i) 0x22 b, t) (part_one s i l)

      pub structural_written : (out : List ℕ) → length (token_bytes s i) ≤ length out
          → WritesToken (record { next = i + 1; len = 1 }) (sets out 0 (byte_at s i ∷ [])) out
      unfolding token_end
      structural_written out h =
          let r = over_as out structural_bytes h in
          (piece_is (token_bytes s i) (rw (ne_eqb (byte_at s i) 0x22 b, t)) r.0, r.1)

    -- a number or a literal
    module _ (f : is_structural (byte_at s i) ≡ false) where
      atom_bytes : token_bytes s i ≡ part s i (atom_end s i)
      unfolding token_bytes token_end
      atom_bytes = rw (ne_eqb (byte_at s i) 0x22 b, f)

      pub atom_room : {m : ℕ} → length (token_bytes s i) ≤ m → atom_end s i ≤ i + m
      atom_room {m} h = run_room is_atom s i m (rw atom_bytes at h)

      pub atom_written : (out : List ℕ) {k : ℕ} {o : List ℕ} → (k ≡ atom_end s i) × (o ≡ over (part s i (atom_end s i)) out)
          → WritesToken (record { next = k; len = k - i }) o out
      unfolding token_end
      atom_written out e = (
        piece_is (token_bytes s i) (rw (ne_eqb (byte_at s i) 0x22 b, f) e.0) (rw (atom_bytes, e.0) (sym (run_length is_atom s i))),
        rw atom_bytes e.1,
      )

-- there is room for a structural byte
pub structural_room : {s : List ℕ} {i m : ℕ} → TokenReady s i m → (byte_at s i ≡ 0x22 → ⊥) → is_structural (byte_at s i) ≡ true → 0 < m
structural_room {s} {i} p b t = omega (arith, ap length (structural_bytes s i b t p.inside), p.fits)
