-- What is proved of the one spelling and of Compact (02, L6).
use Prim.Native.Nat.{ℕ, max, ◌≤◌}
use mathlib.Core.Path.{◌≡◌, sym, ap, ◌∙◌, subst}
use mathlib.Core.Logic.{◌↔◌}
use mathlib.Core.List.{List}
use native.Mathlib.Omega.{arith}
use lib.ListN.{length, take}
use lib.Seq.{take-append_seam, drop-append_seam}
use Rattle.model.specs.Value.{Value, IsJson}
use Rattle.tokens.specs.Parse.{parsed}
use Rattle.syntax.specs.Tree.{Node}
use Rattle.syntax.specs.Grammar.{read_text}
use Rattle.syntax.specs.Spelling.{value_of}
use Rattle.syntax.specs.Rows.{size}
use Rattle.syntax.specs.Answer.{document_limits, read_within, answer}
use Rattle.syntax.proofs.Theorems.{read_json, read_short}
use Rattle.grammar.specs.Written.{IsJsonText}
use Rattle.grammar.proofs.Theorems.{reads_written, written_reads, written_one}
use Rattle.writer.specs.Spell.{spell}
use Rattle.writer.specs.Depth.{depth_of}
use Rattle.writer.specs.Compact.{spelled, over, compact_answer, compact_buffer}
use Rattle.writer.proofs.Depths.{text_depth}
use Rattle.writer.proofs.Sizes.{same_size}
use Rattle.writer.proofs.Answers.{no_short, Compacted, compacted, compacted_answer, compacted_buffer, compacted_length}
-- the spelling of a JSON value is a text of the written grammar that spells this value, with no more brackets open than the value is deep
pub use Rattle.writer.proofs.Spelled.{spell_text}
-- what is written for a text is never longer than the text
pub use Rattle.writer.proofs.Texts.{spelled_short}

-- ---- the spelling of a value

-- it is read, to a tree of this value
pub spell_reads : (bytes depth : ℕ) (v : Value) → IsJson v → depth_of v ≤ depth → length (spell v) ≤ bytes
    → (n : Node) × (e : ℕ) × (read_text bytes depth (spell v) ≡ parsed n e) × (value_of (spell v) n ≡ v)
spell_reads bytes depth v j h l = written_reads bytes depth (spell v) v (spell_text depth v j h) l

-- one spelling for each JSON value, and no other value has it
pub spell_same : (v w : Value) → IsJson v → IsJson w → (spell v ≡ spell w) ↔ (v ≡ w)
spell_same v w j k = (
  λ e. let d = max (depth_of v) (depth_of w) in
      written_one d (spell w) v w (subst (λ (s : List ℕ). IsJsonText d s v) e (spell_text d v j (omega arith))) (spell_text d w k (omega arith)),
  ap spell,
)

-- ---- two texts

-- what is written for two texts that were read is equal "exactly when they are the same JSON value"
pub spelled_same : (bytes depth : ℕ) (s t : List ℕ) (n m : Node) (e f : ℕ) → read_text bytes depth s ≡ parsed n e → read_text bytes depth t ≡ parsed m f
    → (spelled s n ≡ spelled t m) ↔ (value_of s n ≡ value_of t m)
spelled_same bytes depth s t n m e f q r = spell_same (value_of s n) (value_of t m) (read_json bytes depth s n e q) (read_json bytes depth t m f r)

-- the bytes that Compact writes with a table of w words: "From byte 0", and "The length is "other""
abbrev pub written : ℕ → List ℕ → List ℕ → List ℕ
written w buffer s = take (compact_answer w (length buffer) s).other (compact_buffer w buffer s)

-- with code 0 they are the spelling of the value that was read
pub compact_writes : (w : ℕ) (buffer s : List ℕ) → (compact_answer w (length buffer) s).code ≡ 0 → (n : Node) (e : ℕ) → read_within document_limits s ≡ parsed n e
    → written w buffer s ≡ spelled s n
compact_writes w buffer s h n e q =
    let c = compacted w (length buffer) s h in
    let z : parsed n e ≡ parsed c.node c.end = sym q ∙ c.reads in
    let y : n ≡ c.node = cc in
    rw (compacted_answer w (length buffer) s c, compacted_buffer w buffer s c, y) (take-append_seam _ _)

-- "Two documents that it writes come out equal exactly when they are the same JSON value as 01 has it, members in the same order."
pub compact_same : (w x : ℕ) (b c s t : List ℕ) → (compact_answer w (length b) s).code ≡ 0 → (compact_answer x (length c) t).code ≡ 0
    → (n m : Node) (e f : ℕ) → read_within document_limits s ≡ parsed n e → read_within document_limits t ≡ parsed m f
    → (written w b s ≡ written x c t) ↔ (value_of s n ≡ value_of t m)
compact_same w x b c s t g h n m e f q r = rw (compact_writes w b s g n e q, compact_writes x c t h m f r) (spelled_same 65536 32 s t n m e f q r)

-- ---- a text and what is written for it

over_again : (w buffer : List ℕ) → over w (over w buffer) ≡ over w buffer
over_again w buffer = rw drop-append_seam

module _ (bytes depth : ℕ) (s : List ℕ) (n : Node) (e : ℕ) (q : read_text bytes depth s ≡ parsed n e) where
  -- it is read within the same limits, to a tree of the same value
  pub spelled_reads : (m : Node) × (f : ℕ) × (read_text bytes depth (spelled s n) ≡ parsed m f) × (value_of (spelled s n) m ≡ value_of s n)
  spelled_reads =
      spell_reads bytes depth (value_of s n) (read_json bytes depth s n e q) (text_depth depth s (value_of s n) (reads_written bytes depth s n e q))
      (omega (arith, spelled_short bytes depth s n e q, read_short bytes depth s n e q))

  -- and is spelled the same
  pub spelled_again : (m : Node) (f : ℕ) → read_text bytes depth (spelled s n) ≡ parsed m f → spelled (spelled s n) m ≡ spelled s n
  spelled_again m f r =
      let x = spelled_reads in
      let z : parsed m f ≡ parsed x.0 x.1 = sym r ∙ x.2 in
      let y : m ≡ x.0 = cc in
      ap spell (ap (value_of (spelled s n)) y ∙ x.3)

-- a buffer as long as the text is not too short
pub compact_room : (t b : ℕ) (s : List ℕ) → length s ≤ b → (compact_answer t b s).code ≡ 60 → ⊥
compact_room t b s l = no_short t b s (λ n e q. omega (arith, spelled_short 65536 32 s n e q))

-- "Writing what was written changes nothing.": with the same table and in the same buffer, it gives the same answer and leaves the buffer as it is
pub compact_again : (w : ℕ) (buffer s : List ℕ) → (compact_answer w (length buffer) s).code ≡ 0
    → (compact_answer w (length (compact_buffer w buffer s)) (written w buffer s) ≡ compact_answer w (length buffer) s)
    × (compact_buffer w (compact_buffer w buffer s) (written w buffer s) ≡ compact_buffer w buffer s)
compact_again w buffer s h =
    let c = compacted w (length buffer) s h in
    let n = c.node in
    let x = spelled_reads 65536 32 s n c.end c.reads in
    let m = x.0 in
    let out = compact_buffer w buffer s in
    let t = spelled s n in
    let again : spelled t m ≡ t = spelled_again 65536 32 s n c.end c.reads m x.1 x.2 in
    let rows : size m ≡ size n = same_size t s m n x.3 in
    let d : Compacted w (length out) t = record {
      node = m;
      end = x.1;
      reads = x.2;
      rows = omega arith;
      fits = omega (arith, ap length again, compacted_length w buffer s c);
    } in
    let same : compact_buffer w buffer s ≡ over t buffer = compacted_buffer w buffer s c in
    rw (compact_writes w buffer s h n c.end c.reads) (
      compacted_answer w (length out) t d ∙ ap (λ (u : List ℕ). answer 0 0 0 (length u)) again ∙ sym (compacted_answer w (length buffer) s c),
      compacted_buffer w out t d ∙ ap (λ (u : List ℕ). over u out) again ∙ ap (over t) same ∙ over_again t buffer ∙ sym same,
    )
