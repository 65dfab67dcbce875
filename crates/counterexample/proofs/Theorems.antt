-- What the promise of Compare's sister says of the four numbers and of the buffer's bytes (02, L1).
use Prim.Native.Nat.{ℕ, ◌≤◌}
use mathlib.Core.Path.{◌≡◌, refl, sym, ap, ◌∙◌, subst}
use mathlib.Core.Bool.{Bool, true, false, cond}
use mathlib.Core.List.{List}
use lib.ListN.{length, take, drop}
use lib.Dec.{eqb, leb}
use lib.Seq.{take_at, drop_at}
use borrow.Author.Tests.{eq-eqb, leb-true, leb-false}
use Rattle.model.proofs.Basics.{by_test}
use Rattle.syntax.specs.Answer.{answer}
use Rattle.syntax.specs.declared.answers.Answer.{Answer}
use Rattle.syntax.proofs.Theorems.{read_short}
use Rattle.writer.specs.Compact.{over}
use Rattle.comparison.proofs.Facts.{one_answer}
use Rattle.counterexample.specs.Counterexample.{least_buffer, Shows, example_answer, Exhibits, Promises}

-- two answers that agree but for "other"
abbrev Alike : Answer → Answer → Type 0
Alike r q = (r.code ≡ q.code) × (r.text ≡ q.text) × (r.place ≡ q.place)

example_alike : (c : Answer) (d : List ℕ) → Alike (example_answer c d) c
example_alike c d = go (eqb c.code 30)
  where
    go : (b : Bool) → Alike (cond b (answer c.code c.text c.place (length d)) c) c
    go true = (refl, refl, refl)
    go false = (refl, refl, refl)

module _ {w₁ w₂ : ℕ} {new old buffer : List ℕ} where
  -- the answer is Compare's but for "other"
  compared_alike : {r : Answer} {u : List ℕ} (h : Exhibits w₁ w₂ new old r buffer u) → Alike r h.comparison
  compared_alike h = rw h.answers (example_alike h.comparison h.document)

  -- the promise leaves one code, one text and one place
  pub one_outcome : {r q : Answer} {u v : List ℕ} → Promises w₁ w₂ new old r buffer u → Promises w₁ w₂ new old q buffer v → Alike r q
  one_outcome {r} {q} h k = by_test (leb least_buffer (length buffer))
      (λ t.
      let x = h.long (leb-true least_buffer (length buffer) t) in
      let y = k.long (leb-true least_buffer (length buffer) t) in
      let e = one_answer x.compares y.compares in
      let a = compared_alike x in
      let b : Alike q x.comparison = rw e (compared_alike y) in
      (a.0 ∙ sym b.0, a.1 ∙ sym b.1, a.2 ∙ sym b.2))
      (λ f.
      let l = leb-false least_buffer (length buffer) f in
      rw ((h.short l).0, (k.short l).0) (refl, refl, refl))

  -- with 30
  module _ (l : least_buffer ≤ length buffer) {r : Answer} {u : List ℕ} (h : Promises w₁ w₂ new old r buffer u) (z : r.code ≡ 30) where
    abbrev given : Exhibits w₁ w₂ new old r buffer u
    given = h.long l

    code_is : given.comparison.code ≡ 30
    code_is = sym (compared_alike given).0 ∙ z

    length_is : r.other ≡ length given.document
    length_is = ap (λ (a : Answer). a.other) given.answers ∙ rw (eq-eqb given.comparison.code 30 code_is) refl

    -- "other" is no more than a document has
    pub document_fits : r.other ≤ least_buffer
    document_fits = let s = given.shows code_is in rw length_is (read_short least_buffer 32 given.document s.tree s.end s.reads)

    -- the first "other" bytes of the buffer are the document, and those behind are as found
    pub document_shown : Shows new old (take r.other u) × (drop r.other u ≡ drop r.other buffer)
    document_shown =
        let d = given.document in
        let w : u ≡ over d buffer = given.writes ∙ rw (eq-eqb given.comparison.code 30 code_is) refl in (
          subst (Shows new old) (sym (ap (take r.other) w ∙ take_at d (drop (length d) buffer) r.other (sym length_is))) (given.shows code_is),
          ap (drop r.other) w ∙ drop_at d (drop (length d) buffer) r.other (sym length_is) ∙ ap (λ (k : ℕ). drop k buffer) (sym length_is),
        )
