-- The spelling of the witness is "a document that meets the new schema and fails the old", and Check confirms both (02, L1).
use Prim.Native.Nat.{ℕ, ◌≤◌}
use mathlib.Core.Path.{◌≡◌, sym, ap, ◌∙◌, subst}
use mathlib.Core.Bool.{false}
use mathlib.Core.Option.{some}
use mathlib.Core.List.{List}
use native.Mathlib.Omega.{arith}
use borrow.Author.Tests.{le-leb}
use Rattle.model.specs.Definition.{Def, definition_of}
use Rattle.model.specs.Meeting.{Meets}
use Rattle.model.specs.Subtype.{subtype}
use Rattle.model.specs.Witness.{witness}
use Rattle.model.proofs.Formed.{WellFormed, definition_formed}
use Rattle.model.proofs.Complete.{witness_works}
use Rattle.tokens.specs.Parse.{parsed}
use Rattle.syntax.specs.Tree.{Node}
use Rattle.syntax.specs.Rows.{size}
use Rattle.syntax.specs.Spelling.{value_of}
use Rattle.syntax.specs.Answer.{answer, rows_in}
use Rattle.syntax.proofs.Theorems.{read_json, read_placed}
use Rattle.writer.specs.Spell.{spell}
use Rattle.writer.proofs.Theorems.{spell_reads}
use Rattle.definitions.specs.Definitions.{Located, bare}
use Rattle.schema.specs.Judging.{nothing, mismatch_at}
use Rattle.schema.specs.Checking.{read_document, mismatch_answer, check_answer}
use Rattle.definitions.specs.Accepting.{accept}
use Rattle.comparison.specs.Comparing.{Schema}
use Rattle.schema.proofs.Facts.{mismatch_codes, meets_nothing, nothing_meets}
use Rattle.definitions.proofs.Facts.{some_defined}
use Rattle.counterexample.specs.Counterexample.{Shows}
use Rattle.counterexample.proofs.Shown.{shown_size, fits}

-- ---- one schema

-- it has one definition, whatever the table
pub one_definition : {w₁ w₂ : ℕ} {s : List ℕ} {a b : Def} → Schema w₁ s a → Schema w₂ s b → a ≡ b
one_definition {s = s} {a} {b} x y =
    let z : parsed x.tree x.read.end ≡ parsed y.tree y.read.end = sym x.read.reads ∙ y.read.reads in
    let t : x.tree ≡ y.tree = cc in
    let d : some a ≡ some b = sym x.defines ∙ ap (λ (n : Node). definition_of (value_of s n)) t ∙ y.defines in
    cc

formed : {w : ℕ} {s : List ℕ} {a : Def} → Schema w s a → WellFormed a
formed {s = s} {a} x = definition_formed (value_of s x.tree) (read_json 16384 24 s x.tree x.read.end x.read.reads) a x.defines

-- ---- what Check answers on a document that is read as the tree n, with room, under a schema with the definition a

module _ (d : List ℕ) (n : Node) (e : ℕ) (q : read_document d ≡ parsed n e) (w₁ : ℕ) (room : size n ≤ rows_in w₁)
    {w₂ : ℕ} {s : List ℕ} {a : Def} (x : Schema w₂ s a) where
  located : (l : Located) × (check_answer w₁ w₂ d s ≡ mismatch_answer (mismatch_at d l n)) × (bare l ≡ a)
  unfolding check_answer accept
  located =
      let l = some_defined s x.tree a x.defines in
      (l.0, rw (x.read.reads, le-leb (size x.tree) (rows_in w₂) x.read.room, l.1, q, le-leb (size n) (rows_in w₁) room), l.2)

  check_meets : Meets a (value_of d n) → check_answer w₁ w₂ d s ≡ answer 0 0 0 0
  check_meets m =
      let l = located in
      l.1 ∙ ap mismatch_answer (meets_nothing d l.0 n (read_placed 65536 32 d n e q) (read_json 65536 32 d n e q) (rw l.2 m))

  check_fails : (¬ Meets a (value_of d n)) → (20 ≤ (check_answer w₁ w₂ d s).code) × ((check_answer w₁ w₂ d s).code ≤ 22)
  check_fails m =
      let l = located in
      let f : mismatch_at d l.0 n ≡ nothing → ⊥ =
      λ z. m (subst (λ (c : Def). Meets c (value_of d n)) l.2 (nothing_meets d l.0 n (read_placed 65536 32 d n e q) (read_json 65536 32 d n e q) z)) in
      rw l.1 (mismatch_codes (mismatch_at d l.0 n) f)

-- ---- the document

pub shows : (new old : List ℕ) (a b : Def) {w₁ w₂ : ℕ} → Schema w₁ new a → Schema w₂ old b → subtype a b ≡ false → Shows new old (spell (witness a b))
shows new old a b x y z =
    let d = spell (witness a b) in
    let k = witness_works b a (formed y) (formed x) z in
    let r = spell_reads 65536 32 (witness a b) k.0 (omega (arith, (shown_size new old a b x y).1)) (fits new old a b x y) in
    let m : (w : ℕ) (c : Def) → Schema w new c → Meets c (value_of d r.0) = λ w c h. rw (one_definition h x, r.3) k.1 in
    let f : (w : ℕ) (c : Def) → Schema w old c → ¬ Meets c (value_of d r.0) = λ w c h. rw (one_definition h y, r.3) k.2 in
    record {
      tree = r.0;
      end = r.1;
      reads = r.2;
      meets = m;
      fails = f;
      confirms_new = λ w₁ w₂ c l h. check_meets d r.0 r.1 r.2 w₁ l h (m w₂ c h);
      confirms_old = λ w₁ w₂ c l h. check_fails d r.0 r.1 r.2 w₁ l h (f w₂ c h);
    }
