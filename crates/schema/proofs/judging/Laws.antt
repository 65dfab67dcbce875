-- What is judged of a value by a definition, on plain values: one thing behind the other, and how the whole answer is concluded (01, "First misfit").
use Prim.Native.Nat.{ℕ}
use mathlib.Core.Path.{◌≡◌, refl, sym, ap, ap₂, subst, ◌∙◌}
use mathlib.Core.Bool.{Bool, true, false}
use mathlib.Core.List.{List, [], ◌∷◌, ◌++◌, append_assoc, append-nil}
use lib.IntN.{ℤ}
use Rattle.std.specs.Prelude.{Ok, Err}
use Rattle.model.proofs.Basics.{never}
use Rattle.syntax.specs.Tree.{place_of}
use Rattle.definitions.specs.Shapes.{DefinedRow}
use Rattle.schema.specs.Judging.{Judgement, nothing, or_else, unless, Visit, value-by, mismatch_of, visits, first_mismatch}
use Rattle.schema.specs.Dates.{visit_moment, moments}
use Rattle.schema.specs.Walks.{Tallied, Counted, Walks, Judgeable, Judged}
use Rattle.rows.specs.Records.{Reads}
use Rattle.rows.specs.declared.records.Record.{Record}
use Rattle.schema.specs.declared.dates.Dates.{Dates}
use Rattle.schema.specs.declared.judging.Mismatch.{Mismatch}
use Rattle.definitions.proofs.Facts.{first_byte, located_first, same_definition}
use Rattle.rows.proofs.Facts.{row, place_read, same_tree}
use Rattle.schema.proofs.judging.Visits.{first_append, moments_append, itself_first}

-- ---- a test

-- it holds where there is no mismatch
pub passed : (b : Bool) (f p : ℕ) {m : Judgement} {u : Unit {0}} → m ≡ unless b f p → m ≡ Ok u → b ≡ true
passed true f p e q = refl
passed false f p e q = never (cc)

-- ---- what is judged first counts

module _ {s : List ℕ} {d : Dates} where
  pub walks_none : Walks s [] nothing d d
  walks_none = record { first = refl; counts = λ _ ms h. subst (Tallied d) (sym (append-nil ms)) h }

  module _ {v : Visit} where
    -- what fails; what passes and is no date; a date
    pub walks_fails : {x : Mismatch} → mismatch_of s v ≡ Err x → (vs : List Visit) {d₂ : Dates} → Walks s (v ∷ vs) (Err x) d d₂
    walks_fails e vs = record { first = rw e; counts = λ z. never (cc) }

    pub walks_passes : {vs : List Visit} {m : Judgement} {d₂ : Dates} → mismatch_of s v ≡ nothing → visit_moment s v ≡ [] → Walks s vs m d d₂
        → Walks s (v ∷ vs) m d d₂
    walks_passes e k w = record { first = rw e w.first; counts = λ z ms h. rw k (w.counts z ms h) }

    pub walks_date : (k : ℤ) {d₂ : Dates} → mismatch_of s v ≡ nothing → visit_moment s v ≡ k ∷ [] → Counted k d d₂ → Walks s (v ∷ []) nothing d d₂
    walks_date k e q c = record { first = rw e; counts = λ _ ms h. rw q (c ms h) }

    -- what is judged by a test alone
    pub walks_unless : {m : Judgement} (b : Bool) (f p : ℕ) → mismatch_of s v ≡ unless b f p → visit_moment s v ≡ [] → m ≡ unless b f p
        → Walks s (v ∷ []) m d d
    walks_unless true f p h k e = rw e (walks_passes h k walks_none)
    walks_unless false f p h k e = rw e (walks_fails h [])

  module _ {xs : List Visit} {m : Judgement} {d₂ : Dates} (w : Walks s xs m d d₂) where
    pub walks_stops : {x : Mismatch} → m ≡ Err x → (ys : List Visit) → Walks s (xs ++ ys) (Err x) d d₂
    walks_stops {x} e ys = record {
      first = ap (λ (a : Judgement). or_else a (first_mismatch s ys)) (sym e ∙ w.first) ∙ sym (first_append s xs ys);
      counts = λ z. never (cc);
    }

    pub walks_on : m ≡ nothing → {ys : List Visit} {n : Judgement} {d₃ : Dates} → Walks s ys n d₂ d₃ → Walks s (xs ++ ys) n d d₃
    walks_on e {ys} u = record {
      first = u.first ∙ ap (λ (a : Judgement). or_else a (first_mismatch s ys)) (sym e ∙ w.first) ∙ sym (first_append s xs ys);
      counts = λ z ms h. rw (moments_append s xs ys, ← append_assoc ms (moments s xs) (moments s ys)) (u.counts z (ms ++ moments s xs) (w.counts e ms h));
    }

-- ---- a value against a definition

module _ {s₁ s₂ t₁ t₂ : List ℕ} {r₁ r₂ : ℕ} (j : Judgeable s₁ s₂ t₁ t₂ r₁ r₂) where
  -- the definition at its row
  abbrev pub defined : DefinedRow s₂ t₂ r₂
  defined = record { row = j.schema; definition = j.definition; defines = j.defines }

  -- all that is judged
  abbrev pub judged : List Visit
  judged = visits s₁ j.definition j.document.tree

module _ {s₁ s₂ t₁ t₂ : List ℕ} {r₁ r₂ : ℕ} (j : Judgeable s₁ s₂ t₁ t₂ r₁ r₂) {d d₂ : Dates} where
  -- any trees there are those that are given, and so is the definition
  pub conclude : {m : Judgement} → Walks s₁ (judged j) m d d₂ → Judged s₁ s₂ t₁ t₂ r₁ r₂ m d d₂
  conclude {m} w = record {
    tells = λ i.
        subst (λ (vs : List Visit). Walks s₁ vs m d d₂)
        (ap₂ (visits s₁) (same_definition (defined j) (defined i)) (same_tree j.document i.document)) w;
  }

  -- a test of the value's kind fails; a definition's first byte is that of its value
  pub wrong_kind : {x y : Record} → Reads t₁ r₁ x → Reads t₂ r₂ y → {b c : Bool} → c ≡ b
      → mismatch_of s₁ (value-by j.definition j.document.tree) ≡ unless c (place_of j.document.tree) (first_byte j.definition)
      → {m : Judgement} → m ≡ unless b x.first y.first → {z : Mismatch} → m ≡ Err z → Judged s₁ s₂ t₁ t₂ r₁ r₂ (Err z) d d₂
  wrong_kind {x} {y} p q k h {m} e {z} n =
      let a : place_of j.document.tree ≡ x.first = sym (place_read j.document p) in
      let b : first_byte j.definition ≡ y.first = located_first s₂ j.schema.tree j.definition j.defines ∙ sym (row j.schema).first ∙ sym q.first in
      let w : mismatch_of s₁ (value-by j.definition j.document.tree) ≡ Err z = h ∙ rw (k, a, b) (sym e ∙ n) in
      conclude (rw (itself_first s₁ j.definition j.document.tree) (walks_fails w _))
