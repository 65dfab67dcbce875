-- What is proved of the written grammar: Read reads exactly its texts, to the values that they spell (demands 1 and 2), and what places mean (request L14).
use Prim.Native.Nat.{ℕ, ◌+◌, ◌≤◌}
use mathlib.Core.Path.{◌≡◌, refl, sym, ap, ◌∙◌, subst}
use mathlib.Core.Bool.{true}
use mathlib.Core.List.{List}
use native.Mathlib.Omega.{arith}
use lib.ListN.{length, take}
use lib.Dec.{ltb}
use Rattle.model.specs.Text.{all}
use Rattle.model.specs.Value.{Value, IsJson}
use Rattle.chars.specs.Refusals.{number}
use Rattle.chars.specs.declared.refusals.Code.{Code}
use Rattle.tokens.specs.Parse.{Parse, refused, parsed}
use Rattle.syntax.specs.Tree.{Node}
use Rattle.syntax.specs.Grammar.{read_text}
use Rattle.syntax.specs.Spelling.{value_of}
use Rattle.syntax.specs.Answer.{document_limits, read_within, answer_of}
use Rattle.syntax.specs.declared.limits.Limits.{Limits}
use Rattle.syntax.specs.declared.answers.Answer.{Answer}
use Rattle.syntax.proofs.Theorems.{read_json, read_short, read_code}
use Rattle.grammar.specs.Written.{IsJsonText}
use Rattle.grammar.specs.Places.{bytes_within, depth_within, IsRead, ReadsExactly, PlaceMeans}
use Rattle.grammar.proofs.TrimmedTexts.{text_trim, text_spread}
use Rattle.grammar.proofs.Texts.{reads_trimmed, trimmed_reads, short_whole}
use Rattle.grammar.proofs.Bytes.{text_bytes}
use Rattle.grammar.proofs.ReadAnswers.{answer_read, refused_unread, answer_refused}
use Rattle.grammar.proofs.Places.{place_begins, place_ends, end_place, byte_place, place_alike, agree_take}

-- ---- texts and values

module _ (bytes d : ℕ) (s : List ℕ) where
  -- what is read is a text of the grammar, and spells the value of its tree
  pub reads_written : (n : Node) (e : ℕ) → read_text bytes d s ≡ parsed n e → IsJsonText d s (value_of s n)
  reads_written n e q = text_spread (reads_trimmed d s bytes n e q)

  -- a text of the grammar within the length is read, to a tree of the value that it spells
  pub written_reads : (v : Value) → IsJsonText d s v → length s ≤ bytes → (n : Node) × (e : ℕ) × (read_text bytes d s ≡ parsed n e) × (value_of s n ≡ v)
  written_reads v t l = trimmed_reads d s bytes v (text_trim t) l

module _ (d : ℕ) (s : List ℕ) where
  -- a text spells one value
  pub written_one : (u v : Value) → IsJsonText d s u → IsJsonText d s v → u ≡ v
  written_one u v a b =
      let x = written_reads (length s) d s u a (omega arith) in
      let y = written_reads (length s) d s v b (omega arith) in
      let z : parsed x.0 x.1 ≡ parsed y.0 y.1 = sym x.2 ∙ y.2 in
      let n : x.0 ≡ y.0 = cc in
      sym x.3 ∙ ap (value_of s) n ∙ y.3

  -- a JSON value
  pub written_json : (v : Value) → IsJsonText d s v → IsJson v
  written_json v t = let x = written_reads (length s) d s v t (omega arith) in subst IsJson x.3 (read_json (length s) d s x.0 x.1 x.2)

  -- and is made of bytes
  pub written_bytes : (v : Value) → IsJsonText d s v → all (λ b. ltb b 256) s ≡ true
  written_bytes v t = text_bytes d s v (text_trim t)

-- ---- the answer of Read, as its contract gives it: by the limits l, on text number `which`, with a table of w words

module _ (l : Limits) (which w : ℕ) (s : List ℕ) where
  abbrev answered : Answer
  answered = answer_of which w (read_within l s)

  -- demand 1: read are exactly the texts of the grammar within the length
  pub read_exactly : ReadsExactly l s (answer_of which w (read_within l s))
  read_exactly = record {
    sound = sound (read_within l s) refl;
    complete = λ h v t. let x = written_reads (bytes_within l) (depth_within l) s v t h in rw x.2 (answer_read which w x.0 x.1);
  }
    where
      sound : (o : Parse Node) → read_within l s ≡ o → IsRead (answer_of which w o) → (length s ≤ bytes_within l) × ((v : Value) × IsJsonText (depth_within l) s v)
      sound (refused c p) q h = let b = read_code (bytes_within l) (depth_within l) s c p q in absurd (refused_unread which w c p b.0 b.1 h)
      sound (parsed n e) q h = (read_short (bytes_within l) (depth_within l) s n e q, (value_of s n, reads_written (bytes_within l) (depth_within l) s n e q))

  -- the refusal that an answer from 2 to 7 gives
  refusal : 2 ≤ answered.code → answered.code ≤ 7
      → (c : Code) × (number c ≡ answered.code) × (read_text (bytes_within l) (depth_within l) s ≡ refused c answered.place)
  refusal = answer_refused which w (read_within l s)

  -- L14: what its place means
  pub place_means : PlaceMeans l s (answer_of which w (read_within l s))
  place_means = record {
    begins = λ m h. let r = refusal m h in place_begins (bytes_within l) (depth_within l) s r.0 _ r.2 (omega (arith, r.1));
    ends = λ m h. let r = refusal (omega arith) h in place_ends (bytes_within l) (depth_within l) s r.0 _ r.2 (omega (arith, r.1));
    at_end = λ e. let r = refusal (omega arith) (omega arith) in end_place (bytes_within l) (depth_within l) s r.0 _ r.2 (omega (arith, r.1)) (r.1 ∙ e);
    at_byte = λ m h. let r = refusal (omega arith) h in byte_place (bytes_within l) (depth_within l) s r.0 _ r.2 (omega (arith, r.1)) (omega (arith, r.1));
  }

  -- a text with the same bytes up to the place of a refusal with 3 to 7 is refused alike, unless it is too long
  pub refused_alike : (t : List ℕ) → 3 ≤ answered.code → answered.code ≤ 7 → take (answered.place + 1) t ≡ take (answered.place + 1) s
      → length t ≤ bytes_within l
      → answer_of which w (read_within l t) ≡ answered
  refused_alike t m h e k =
      let r = refusal (omega arith) h in
      let above : 3 ≤ number r.0 = omega (arith, r.1) in
      let i = byte_place (bytes_within l) (depth_within l) s r.0 _ r.2 (omega arith) above in
      let g = agree_take s t (answered.place + 1) (omega arith) e in
      ap (answer_of which w) (short_whole (depth_within l) t (bytes_within l) k ∙ place_alike (bytes_within l) (depth_within l) s r.0 _ r.2 above t g ∙ sym r.2)

-- by a document's limits, as Read has it
pub document_places : (w : ℕ) (s : List ℕ) → PlaceMeans document_limits s (answer_of 1 w (read_within document_limits s))
document_places w s = place_means document_limits 1 w s
