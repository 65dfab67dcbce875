-- Check answers 0 exactly where both texts are read with room, the schema is accepted and the document meets (01, "Three services", "Meeting").
use Prim.Native.Nat.{ℕ}
use mathlib.Core.Path.{◌≡◌, refl}
use mathlib.Core.Logic.{◌↔◌}
use mathlib.Core.List.{List}
use native.Mathlib.Omega.{arith}
use lib.Dec.{leb}
use borrow.Author.Tests.{leb-true, leb-false}
use Rattle.std.specs.Prelude.{Ok, Err}
use Rattle.model.specs.Meeting.{Meets}
use Rattle.model.proofs.Basics.{never, both}
use Rattle.syntax.specs.Tree.{Node}
use Rattle.syntax.specs.Rows.{size}
use Rattle.syntax.specs.Spelling.{value_of}
use Rattle.syntax.specs.Answer.{rows_in}
use Rattle.syntax.specs.declared.answers.Answer.{Answer}
use Rattle.syntax.proofs.Theorems.{read_placed, read_json, read_code}
use Rattle.definitions.specs.Definitions.{Located, bare}
use Rattle.schema.specs.Judging.{Judgement, nothing, mismatch_at}
use Rattle.schema.specs.Checking.{read_document, mismatch_answer, judged_as, checked_as, check_answer, Meeting}
use Rattle.definitions.specs.Accepting.{Accepted, not_accepted, accepted, accept, HasRoom}
use Rattle.definitions.proofs.Facts.{defined_plain, some_defined, by_parse, refused_none, one_tree, no_room, Takes, Way, accept_way}
use Rattle.schema.proofs.judging.Codes.{number_bounds}
use Rattle.schema.proofs.judging.Meeting.{meets_nothing, nothing_meets}

-- ---- the document

-- the document is read with room, and meets
record Fits (d : Located) (w : ℕ) (s : List ℕ) : Type 0 where
  pub tree : Node
  read : HasRoom (read_document s) w tree
  meets : Meets (bare d) (value_of s tree)

pub answer_zero : (m : Judgement) → ((mismatch_answer m).code ≡ 0) ↔ (m ≡ nothing)
answer_zero (Ok u) = (λ _. refl, λ _. refl)
answer_zero (Err m) = (λ z. absurd (omega (arith, number_bounds m.code)), λ z. never (cc))

judged_zero : (d : Located) (w : ℕ) (s : List ℕ) → ((judged_as d w s (read_document s)).code ≡ 0) ↔ Fits d w s
judged_zero d w s =
    by_parse (λ o. ((judged_as d w s o).code ≡ 0) ↔ Fits d w s) (read_document s)
    (λ c p q. (λ z. absurd (omega (arith, read_code _ _ s c p q)), λ x. absurd (refused_none q x.read)))
    (λ n e q.
    let l = read_placed _ _ s n e q in
    let i = read_json _ _ s n e q in
    let a = answer_zero (mismatch_at s d n) in
    both (λ (a : Answer). (a.code ≡ 0) ↔ Fits d w s) (leb (size n) (rows_in w))
    (λ r. (
      λ z. record { tree = n; read = record { end = e; reads = q; room = leb-true _ _ r }; meets = nothing_meets s d n l i (a.0 z) },
      λ x. (let m : Meets (bare d) (value_of s n) = rw (one_tree q x.read) x.meets in a.1 (rw (meets_nothing s d n l i m))),
    ))
    (λ r. (λ z. absurd (omega arith), λ x. absurd (no_room q (leb-false _ _ r) x.read))))

-- ---- both

module _ (w₁ w₂ : ℕ) (document schema : List ℕ) where
  meeting : (d : Located) → Takes w₂ schema d → Fits d w₁ document → Meeting w₁ w₂ document schema
  meeting d t f = record {
    tree = f.tree;
    read = f.read;
    schema_tree = t.tree;
    schema_read = t.read;
    definition = bare d;
    defines = defined_plain schema t.tree d t.defines;
    meets = f.meets;
  }

  -- the definition of a schema that is accepted
  taken : (m : Meeting w₁ w₂ document schema) → (d : Located) × Takes w₂ schema d × Fits d w₁ document
  taken m =
      let x = some_defined schema m.schema_tree m.definition m.defines in
      (x.0, record { tree = m.schema_tree; read = m.schema_read; defines = x.1 }, record { tree = m.tree; read = m.read; meets = rw x.2 m.meets })

  by_accepted : (a : Accepted) → Way 2 w₂ schema a → ((checked_as a w₁ document).code ≡ 0) ↔ Meeting w₁ w₂ document schema
  by_accepted (not_accepted a) h = (λ z. absurd (omega (arith, h.0)), λ m. (let x = taken m in absurd (h.1 x.0 x.1)))
  by_accepted (accepted d) h = (
    λ z. meeting d h.0 ((judged_zero d w₁ document).0 z),
    λ m. (let x = taken m in (judged_zero d w₁ document).1 (rw (h.1 x.0 x.1) x.2)),
  )

  pub check_zero : ((check_answer w₁ w₂ document schema).code ≡ 0) ↔ Meeting w₁ w₂ document schema
  unfolding check_answer
  check_zero = by_accepted (accept 2 w₂ schema) (accept_way 2 w₂ schema)
