-- The path on Check's terms (02, L11): it begins with the row of the value at the place, the sixth words lead from each row to the next, up to 0, and
-- it has at most 33 rows.
use Prim.Native.Nat.{ℕ, ◌+◌, ◌≤◌}
use mathlib.Core.Path.{◌≡◌, refl, sym, ap, ◌∙◌}
use mathlib.Core.Logic.{◌⊎◌, inl, inr}
use mathlib.Core.List.{List, [], ◌∷◌, ◌++◌}
use native.Mathlib.Omega.{arith}
use lib.ListN.{length}
use lib.Dec.{ltb}
use borrow.Author.Tests.{ltb-true, ltb-false, eq-eqb, ne_eqb}
use Rattle.model.proofs.Basics.{by_test}
use Rattle.tokens.specs.Parse.{parsed}
use Rattle.syntax.specs.Tree.{Node, scalar, array, object, Nodes, none as no_Node, more, Members, no_member, member}
use Rattle.syntax.specs.Rows.{size}
use Rattle.syntax.specs.Holding.{word, Holds, HoldsAll, HoldsMembers}
use Rattle.syntax.proofs.Facts.{kind_small, places, places_all, places_members, Rising, read_rising}
use Rattle.schema.specs.Checking.{read_document, check_answer, check_table}
use Rattle.schema.specs.Paths.{Path, paths, paths_all, paths_members, path_to, check_path, path_words, Leads, top}
use Rattle.schema.proofs.paths.Laws.{AllPaths, all_append, picked, LeadsUp, all_lead}
use Rattle.schema.proofs.paths.Reached.{HasMismatch, has_mismatch, path_is, mismatch_few, mismatch_found, mismatch_holds, no_path}

-- ---- a path begins with its value's row

-- the row is that of a value, no name's, which begins at the path's place
abbrev Begins : List ℕ → Path → Type 0
Begins t p = (word t p.row 1 ≡ p.place) × (word t p.row 0 ≡ 9 → ⊥)

module _ (t : List ℕ) where
  mutual
    all_begin : (around : List ℕ) (r : ℕ) (n : Node) → Holds t r n → AllPaths (Begins t) (paths around r n)
    all_begin around r (scalar k f e) h = ((h.first, λ q. omega (arith, kind_small k, h.kind)), tt)
    all_begin around r (array f e ns) h = ((h.0.first, λ q. omega (arith, h.0.kind)), begin_all (r ∷ around) (r + 1) ns h.1)
    all_begin around r (object f e ms) h = ((h.0.first, λ q. omega (arith, h.0.kind)), begin_members (r ∷ around) (r + 1) ms h.1)

    begin_all : (around : List ℕ) (r : ℕ) (ns : Nodes) → HoldsAll t r ns → AllPaths (Begins t) (paths_all around r ns)
    begin_all around r no_Node h = tt
    begin_all around r (more n ns) h =
        all_append (Begins t) (paths around r n) (paths_all around (r + size n) ns) (all_begin around r n h.0) (begin_all around (r + size n) ns h.1)

    begin_members : (around : List ℕ) (r : ℕ) (ms : Members) → HoldsMembers t r ms → AllPaths (Begins t) (paths_members around r ms)
    begin_members around r no_member h = tt
    begin_members around r (member f e n ms) h =
        all_append (Begins t) (paths around (r + 1) n) (paths_members around (r + 1 + size n) ms) (all_begin around (r + 1) n h.1)
        (begin_members around (r + 1 + size n) ms h.2)

-- ---- no two values begin at one byte

abbrev places_of : List Path → List ℕ
places_of [] = []
places_of (p ∷ ps) = p.place ∷ places_of ps

of_append : (ps qs : List Path) → places_of (ps ++ qs) ≡ places_of ps ++ places_of qs
of_append [] qs = refl
of_append (p ∷ ps) qs = rw (of_append ps qs)

mutual
  of_value : (around : List ℕ) (r : ℕ) (n : Node) → places_of (paths around r n) ≡ places n
  of_value around r (scalar k f e) = refl
  of_value around r (array f e ns) = rw (of_all (r ∷ around) (r + 1) ns)
  of_value around r (object f e ms) = rw (of_members (r ∷ around) (r + 1) ms)

  of_all : (around : List ℕ) (r : ℕ) (ns : Nodes) → places_of (paths_all around r ns) ≡ places_all ns
  of_all around r no_Node = refl
  of_all around r (more n ns) =
      of_append (paths around r n) (paths_all around (r + size n) ns) ∙ rw (of_value around r n, of_all around (r + size n) ns)

  of_members : (around : List ℕ) (r : ℕ) (ms : Members) → places_of (paths_members around r ms) ≡ places_members ms
  of_members around r no_member = refl
  of_members around r (member f e n ms) =
      of_append (paths around (r + 1) n) (paths_members around (r + 1 + size n) ms)
      ∙ rw (of_value around (r + 1) n, of_members around (r + 1 + size n) ms)

-- p is one of these
abbrev pub OneOf : Path → List Path → Type 0
OneOf p [] = ⊥
OneOf p (q ∷ ps) = (p ≡ q) ⊎ OneOf p ps

later : (lo hi : ℕ) (p : Path) (ps : List Path) → Rising lo (places_of ps) hi → OneOf p ps → lo ≤ p.place
later lo hi p [] h o = absurd o
later lo hi p (q ∷ ps) h (inl e) = rw e h.0
later lo hi p (q ∷ ps) h (inr o) = omega (arith, later (q.place + 1) hi p ps h.1 o, h.0)

-- where places rise, the one that is picked is the only one there
only : (lo hi : ℕ) (p : Path) (ps : List Path) → Rising lo (places_of ps) hi → OneOf p ps → path_to p.place ps ≡ p.row ∷ p.around
only lo hi p [] h o = absurd o
only lo hi p (q ∷ ps) h (inl e) = rw (e, eq-eqb q.place q.place refl)
only lo hi p (q ∷ ps) h (inr o) =
    rw (ne_eqb q.place p.place (λ e. omega (arith, later (q.place + 1) hi p ps h.1 o))) (only (q.place + 1) hi p ps h.1 o)

-- ---- of Check's answer and table

module _ (t₁ : List ℕ) (w₂ : ℕ) (s₁ s₂ : List ℕ) where
  abbrev after : List ℕ
  after = check_table t₁ w₂ s₁ s₂

  abbrev place : ℕ
  place = (check_answer (length t₁) w₂ s₁ s₂).place

  abbrev rows : List ℕ
  rows = check_path (length t₁) w₂ s₁ s₂

  module _ (c : 20 ≤ (check_answer (length t₁) w₂ s₁ s₂).code) where
    known : HasMismatch (length t₁) w₂ s₁ s₂
    known = has_mismatch (length t₁) w₂ s₁ s₂ c

    -- the sixth words of the table lead along the path
    pub path_leads : (row : ℕ) × (around : List ℕ) × (rows ≡ row ∷ around) × Leads after row (row ∷ around)
    path_leads =
        let h = mismatch_holds known t₁ refl in
        let p = picked (LeadsUp after) place (paths [] 0 known.tree) (all_lead after [] 0 0 known.tree h.1 top) (mismatch_found known) in
        (p.0.row, p.0.around, path_is known ∙ p.3, p.1)

    -- its first row is that of a value which begins at the place
    pub path_first : (row : ℕ) × (around : List ℕ) × (rows ≡ row ∷ around) × (word after row 1 ≡ place) × (word after row 0 ≡ 9 → ⊥)
    path_first =
        let h = mismatch_holds known t₁ refl in
        let p = picked (Begins after) place (paths [] 0 known.tree) (all_begin after [] 0 known.tree h.0) (mismatch_found known) in
        (p.0.row, p.0.around, path_is known ∙ p.3, p.1.0 ∙ p.2, p.1.1)

    -- whichever value of the document begins at the place, the path is its: no two do
    pub path_only : (n : Node) (e : ℕ) → read_document s₁ ≡ parsed n e → (p : Path) → OneOf p (paths [] 0 n) → p.place ≡ place
        → rows ≡ p.row ∷ p.around
    path_only n e q p o w =
        let y = sym known.reads ∙ q in
        let z : known.tree ≡ n = cc in
        let h : Rising 0 (places_of (paths [] 0 n)) e = rw (of_value [] 0 n) (read_rising s₁ _ _ n e q) in
        path_is known ∙ ap (λ (m : Node). path_to place (paths [] 0 m)) z ∙ ap (λ (x : ℕ). path_to x (paths [] 0 n)) (sym w)
        ∙ only 0 e p (paths [] 0 n) h o

  -- with every code
  pub path_few : length rows ≤ path_words
  path_few =
      by_test (ltb (check_answer (length t₁) w₂ s₁ s₂).code 20)
      (λ y. omega (arith, ap length (no_path (length t₁) w₂ s₁ s₂ (ltb-true _ _ y))))
      (λ n. let k = has_mismatch (length t₁) w₂ s₁ s₂ (ltb-false _ _ n) in omega (arith, ap length (path_is k), mismatch_few k))
