-- Explain on plain values: the path that Check lists leads to the value whose pointer is written.
use Prim.Native.Nat.{ℕ, ◌≤◌, ◌<◌}
use mathlib.Core.Path.{◌≡◌, refl, sym, ap, subst, ◌∙◌}
use mathlib.Core.Logic.{inl, inr, ⊎_elim}
use mathlib.Core.List.{List, [], ◌∷◌}
use native.Mathlib.Omega.{arith}
use lib.ListN.{length, take, drop}
use lib.Seq.{take-append_seam}
use lib.Dec.{eqb}
use borrow.Author.Tests.{eqb-true, eqb-false}
use Rattle.model.proofs.Basics.{by_test}
use Rattle.syntax.specs.Holding.{Holds}
use Rattle.syntax.specs.Answer.{table_of}
use Rattle.syntax.proofs.Theorems.{read_table}
use Rattle.syntax.specs.declared.answers.Answer.{Answer}
use Rattle.schema.specs.Checking.{read_document, check_answer, check_table}
use Rattle.schema.specs.Paths.{paths, check_path, list_after}
use Rattle.schema.proofs.Facts.{HasMismatch, has_mismatch, mismatch_found, mismatch_table, path_is, no_path}
use Rattle.explain.specs.Pointers.{Pointer, pointers, fitted, pointer_at, check_pointer}
use Rattle.explain.specs.Writing.{Points, HasRows, PointerReady, PointerWritten}
use Rattle.explain.proofs.pointers.Paths.{picked_rows}
use Rattle.explain.proofs.pointers.Documents.{place_ready, PointerOf, pointer_of}
use Rattle.explain.proofs.pointers.Values.{one_pointer}

-- the pointer that is picked is one of the value at the row
at_points : (r : ℕ) (w : List ℕ) (ps : List Pointer) → Points r w ps → Points r (pointer_at r ps) ps
at_points r w [] h = absurd h
at_points r w (p ∷ ps) h =
    by_test (eqb p.row r) (λ y. inl (sym (eqb-true p.row r y), rw y))
    (λ n.
    let e : pointer_at r (p ∷ ps) ≡ pointer_at r ps = rw n in
    inr (subst (λ (b : List ℕ). Points r b ps) (sym e) (at_points r w ps (⊎_elim (λ q. absurd (eqb-false p.row r n (sym q.0))) (λ q. q) h))))

-- for a document s₁ and a schema s₂ with tables t₁ and t₂, of which the first comes to be u₁
module _ (s₁ s₂ t₁ t₂ : List ℕ) {a : Answer} {u₁ : List ℕ} (p : a ≡ check_answer (length t₁) (length t₂) s₁ s₂)
    (x : u₁ ≡ check_table t₁ (length t₂) s₁ s₂) where
  code : a.code ≡ (check_answer (length t₁) (length t₂) s₁ s₂).code
  code = ap (λ (b : Answer). b.code) p

  pub no_pointer : a.code < 20 → check_pointer (length t₁) (length t₂) s₁ s₂ ≡ []
  unfolding check_pointer
  no_pointer c = rw (no_path (length t₁) (length t₂) s₁ s₂ (omega (arith, code))) refl

  module _ (c : 20 ≤ a.code) where
    known : HasMismatch (length t₁) (length t₂) s₁ s₂
    known = has_mismatch (length t₁) (length t₂) s₁ s₂ (omega (arith, code))

    abbrev rows : List ℕ
    rows = check_path (length t₁) (length t₂) s₁ s₂

    has_rows : HasRows rows (paths [] 0 known.tree)
    has_rows = rw (path_is known) (picked_rows _ (paths [] 0 known.tree) (mismatch_found known))

    -- the list that Check leaves, and its beginning
    module _ (list : List ℕ) {list₂ : List ℕ} (l : list₂ ≡ list_after rows list) {k : ℕ} (e : k ≡ length rows) where
      listed : take k list₂ ≡ rows
      listed = rw (l, e) (take-append_seam rows (drop (length rows) list))

      module _ {path : List ℕ} (q : path ≡ take k list₂) where
        pub path_ready : PointerReady s₁ u₁ path
        path_ready =
            let f = place_ready s₁ t₁ known.tree known.end known.reads known.room (check_answer (length t₁) (length t₂) s₁ s₂).place (mismatch_found known) in
            subst (λ (u : List ℕ). PointerReady s₁ u path) (sym (x ∙ mismatch_table known t₁ refl))
            (subst (PointerReady s₁ (table_of t₁ (read_document s₁))) (sym (q ∙ listed ∙ path_is known)) f)

        -- the pointer of that value
        pointed : PointerOf s₁ known.tree path
        pointed = pointer_of s₁ known.tree path (rw (q ∙ listed) has_rows)

        is_pointer : check_pointer (length t₁) (length t₂) s₁ s₂ ≡ pointed.bytes
        unfolding check_pointer
        is_pointer =
            let p = pointed in
            let e : rows ≡ p.row ∷ p.around = sym (q ∙ listed) ∙ p.is in
            rw (e, known.reads)
            (one_pointer s₁ known.tree p.row _ p.bytes (at_points p.row p.bytes (pointers s₁ [] 0 known.tree) p.points) p.points)

        held : Holds u₁ 0 known.tree
        held =
            subst (λ (u : List ℕ). Holds u 0 known.tree) (sym (x ∙ mismatch_table known t₁ refl))
            (read_table _ _ s₁ t₁ known.tree known.end known.reads known.room)

        pub explained : {k : ℕ} {o v : List ℕ} → PointerWritten s₁ u₁ path k o v
            → let w = check_pointer (length t₁) (length t₂) s₁ s₂ in (k ≡ length w) × (v ≡ fitted w o)
        explained {o = o} w =
            let d = pointed in
            let z = w.tells known.tree held d.row d.around d.is d.bytes d.points in
            (z.0 ∙ ap length (sym is_pointer), z.1 ∙ ap (λ (b : List ℕ). fitted b o) (sym is_pointer))
