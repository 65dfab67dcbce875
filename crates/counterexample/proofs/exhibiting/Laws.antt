-- Compare's sister on plain values: its promise from Compare's and from the document that is written, one law for each way out (02, L1).
use Prim.Native.Nat.{ℕ, ◌≤◌, ◌<◌}
use mathlib.Core.Path.{◌≡◌, refl, sym, ap, ◌∙◌}
use mathlib.Core.Bool.{false}
use mathlib.Core.Logic.{inl, inr}
use mathlib.Core.List.{List, []}
use native.Mathlib.Omega.{arith}
use lib.ListN.{length}
use borrow.Author.Tests.{lt-ltb, le-ltb, eq-eqb, ne_eqb}
use Rattle.model.specs.Definition.{Def}
use Rattle.model.specs.Carried.{NotCarried}
use Rattle.model.specs.Subtype.{subtype}
use Rattle.model.specs.Witness.{witness}
use Rattle.model.proofs.Basics.{by_test}
use Rattle.model.proofs.Theorem.{subtype_true}
use Rattle.syntax.specs.Answer.{schema_limits, answer, table_of}
use Rattle.syntax.specs.declared.answers.Answer.{Answer}
use Rattle.writer.specs.Spell.{spell}
use Rattle.definitions.specs.Definitions.{Located, bare}
use Rattle.definitions.specs.Accepting.{read_schema, Accepted, not_accepted, accepted, accept}
use Rattle.comparison.specs.Comparing.{Schema, Answers, Compares, compare_table}
use Rattle.definitions.specs.Shapes.{DefinedRow}
use Rattle.comparison.specs.Carrying.{Pairing}
use Rattle.definitions.proofs.Facts.{defined_plain, Takes, Way, accept_way, HasRead, has_rows}
use Rattle.counterexample.specs.Counterexample.{Shows, example_answer, example_buffer, Promises, table_unless_short}
use Rattle.samples.specs.Writing.{Writes}
use Rattle.counterexample.specs.Writing.{WitnessReady, WitnessWritten}
use Rattle.counterexample.proofs.Shown.{fits}
use Rattle.counterexample.proofs.Confirming.{shows}

-- ---- one schema that is accepted

-- the value that it spells has its definition
as_schema : {w : ℕ} {s : List ℕ} {e : Located} → Takes w s e → Schema w s (bare e)
as_schema {s = s} {e = e} h = record { tree = h.tree; read = h.read; defines = defined_plain s h.tree e h.defines }

-- its table holds it
abbrev as_row : {s : List ℕ} {e : Located} (t : List ℕ) → Takes (length t) s e → DefinedRow s (table_of t (read_schema s)) 0
as_row {s} {e} t h =
    let r : HasRead schema_limits s t = record { tree = h.tree; end = h.read.end; reads = h.read.reads; room = h.read.room } in
    record { row = has_rows r; definition = e; defines = h.defines }

-- ---- both schemas: Compare answers 30

not_subtype : (a b : Def) → NotCarried a b → subtype a b ≡ false
not_subtype a b k = by_test (subtype a b) (λ t. absurd (k.3 (subtype_true a b t k.0 k.1 k.2))) (λ f. f)

-- both are accepted, and the new definition is not carried to the old one
record Apart (w₁ w₂ : ℕ) (s₁ s₂ : List ℕ) (r : Answer) : Type 0 where
  is : r ≡ answer 30 0 0 0
  pub new : Located
  pub old : Located
  accepts : accept 1 w₁ s₁ ≡ accepted new
  takes_new : Takes w₁ s₁ new
  takes_old : Takes w₂ s₂ old
  differs : subtype (bare new) (bare old) ≡ false

-- a refusal has another code
apart : {w₁ w₂ : ℕ} {s₁ s₂ : List ℕ} {r : Answer} → Compares w₁ w₂ s₁ s₂ r → r.code ≡ 30 → Apart w₁ w₂ s₁ s₂ r
apart {w₁} {w₂} {s₁} {s₂} {r} h z = go (accept 1 w₁ s₁) (accept 2 w₂ s₂) refl (accept_way 1 w₁ s₁) (accept_way 2 w₂ s₂) h.answers
  where
    go : (x y : Accepted) → accept 1 w₁ s₁ ≡ x → Way 1 w₁ s₁ x → Way 2 w₂ s₂ y → Answers x y r → Apart w₁ w₂ s₁ s₂ r
    go (not_accepted a) y i f g k = absurd (omega (arith, f.0, ap (λ (b : Answer). b.code) k))
    go (accepted d) (not_accepted a) i f g k = absurd (omega (arith, g.0, ap (λ (b : Answer). b.code) k))
    go (accepted d) (accepted e) i f g (inl k) = absurd (omega (arith, ap (λ (b : Answer). b.code) k.0))
    go (accepted d) (accepted e) i f g (inr k) = record {
      is = k.0;
      new = d;
      old = e;
      accepts = i;
      takes_new = f.0;
      takes_old = g.0;
      differs = not_subtype (bare d) (bare e) k.1;
    }

-- ---- the promise

module _ (s₁ s₂ t₁ t₂ buffer : List ℕ) where
  -- of an answer, of the tables and of the buffer
  abbrev pub Promised : Answer → List ℕ → List ℕ → List ℕ → Type 0
  Promised r u₁ u₂ buffer₂ =
      Promises (length t₁) (length t₂) s₁ s₂ r buffer buffer₂
      × ((u₁ ≡ table_unless_short (length buffer) t₁ (table_of t₁ (read_schema s₁)))
      × (u₂ ≡ table_unless_short (length buffer) t₂ (compare_table (length t₁) t₂ s₁ s₂)))

  pub short : length buffer < 65536 → {r : Answer} → r ≡ answer 31 0 0 0 → Promised r t₁ t₂ buffer
  short l e = rw (lt-ltb (length buffer) 65536 l) (record { short = λ _. (e, refl); long = λ m. absurd (omega arith) }, (refl, refl))

-- the buffer is long enough: c is Compare's answer, and the tables are as it leaves them
module _ (t₁ t₂ buffer : List ℕ) (long : 65536 ≤ length buffer) {s₁ s₂ : List ℕ} {c : Answer} (compares : Compares (length t₁) (length t₂) s₁ s₂ c)
    {u₁ u₂ : List ℕ} (rows₁ : u₁ ≡ table_of t₁ (read_schema s₁)) (rows₂ : u₂ ≡ compare_table (length t₁) t₂ s₁ s₂) where
  -- the document d is shown on 30
  promised : (d : List ℕ) → (c.code ≡ 30 → Shows s₁ s₂ d) → {r : Answer} → r ≡ example_answer c d → {buffer₂ : List ℕ} → buffer₂ ≡ example_buffer c d buffer
      → Promised s₁ s₂ t₁ t₂ buffer r u₁ u₂ buffer₂
  promised d f e g =
      let x : Promises (length t₁) (length t₂) s₁ s₂ _ buffer _ = record {
        short = λ l. absurd (omega (arith, long));
        long = λ _. record { comparison = c; compares = compares; document = d; shows = f; answers = e; writes = g };
      } in
      rw (le-ltb (length buffer) 65536 long) (x, (rows₁, rows₂))

  pub as_compared : (c.code ≡ 30 → ⊥) → Promised s₁ s₂ t₁ t₂ buffer c u₁ u₂ buffer
  as_compared n = promised [] (λ z. absurd (n z)) (rw (ne_eqb c.code 30 n) refl) (rw (ne_eqb c.code 30 n) refl)

  module _ (z : c.code ≡ 30) where
    both : Apart (length t₁) (length t₂) s₁ s₂ c
    both = apart compares z

    -- the document
    abbrev shown : List ℕ
    shown = spell (witness (bare both.new) (bare both.old))

    shown_fits : length shown ≤ 65536
    shown_fits = fits s₁ s₂ (bare both.new) (bare both.old) (as_schema both.takes_new) (as_schema both.takes_old)

    -- the old schema was reached
    old_rows : u₂ ≡ table_of t₂ (read_schema s₂)
    unfolding compare_table
    old_rows = rw both.accepts at rows₂

    pair : Pairing s₁ s₂ (table_of t₁ (read_schema s₁)) (table_of t₂ (read_schema s₂)) 0 0
    pair = record { new = as_row t₁ both.takes_new; old = as_row t₂ both.takes_old }

    pub ready : WitnessReady s₁ s₂ u₁ u₂ 0 0 (length buffer)
    unfolding pair
    ready = rw (rows₁, old_rows) (record { pair = pair; fits = omega (arith, shown_fits, long) })

    -- and n bytes are written
    module _ {n : ℕ} {buffer₂ : List ℕ} (k : WitnessWritten s₁ s₂ u₁ u₂ 0 0 n buffer buffer₂) where
      written : Writes shown n buffer buffer₂
      unfolding pair
      written = (rw (rows₁, old_rows) at k).tells pair

      pub written_fits : n ≤ 65536
      written_fits = omega (arith, written.0, shown_fits)

      pub as_shown : {r : Answer} → r ≡ answer 30 0 0 n → Promised s₁ s₂ t₁ t₂ buffer r u₁ u₂ buffer₂
      as_shown e =
          promised shown (λ _. shows s₁ s₂ (bare both.new) (bare both.old) (as_schema both.takes_new) (as_schema both.takes_old) both.differs)
          (e ∙ ap (answer 30 0 0) written.0 ∙ sym (ap (λ (c : Answer). example_answer c shown) both.is)) (rw (eq-eqb c.code 30 z) written.1)
