-- The value at the place of a mismatch is one of the document's, so that there is a path to it, which has at most 33 rows (02, L11).
use Prim.Native.Nat.{ℕ, ◌+◌, ◌≤◌, ◌<◌}
use mathlib.Core.Path.{◌≡◌, refl, sym, ap, ◌∙◌}
use mathlib.Core.Bool.{true}
use mathlib.Core.List.{List, [], ◌∷◌, ◌++◌}
use native.Mathlib.Omega.{arith}
use Rattle.std.specs.Prelude.{Option, Some, Ok, Err}
use lib.ListN.{length}
use lib.Dec.{eqb, leb}
use borrow.Author.Tests.{eq-eqb, leb-true, le-leb, lt-leb}
use Rattle.model.specs.Text.{same}
use Rattle.model.proofs.Basics.{both, by_test, never}
use Rattle.tokens.specs.Parse.{Parse, refused, parsed}
use Rattle.syntax.specs.Tree.{Node, scalar, array, object, Nodes, none as no_Node, more, Members, no_member, member, place_of}
use Rattle.syntax.specs.Rows.{size}
use Rattle.syntax.specs.Grammar.{name_of}
use Rattle.syntax.specs.Holding.{Holds, Nested}
use Rattle.syntax.specs.Answer.{answer, rows_in, table_of}
use Rattle.syntax.specs.declared.answers.Answer.{Answer}
use Rattle.syntax.proofs.Facts.{read_shallow}
use Rattle.syntax.proofs.Theorems.{read_placed, read_json, read_rows, read_short, read_code, read_table, read_nested}
use Rattle.definitions.specs.Definitions.{Located}
use Rattle.definitions.specs.Accepting.{Accepted, not_accepted, accepted, accept}
use Rattle.definitions.proofs.Facts.{Way, accept_way}
use Rattle.rows.specs.Finding.{lookup}
use Rattle.schema.specs.Judging.{Judgement, mismatch_at}
use Rattle.schema.specs.Checking.{read_document, mismatch_answer, judged_as, check_answer, check_table}
use Rattle.schema.specs.Paths.{Path, paths, paths_all, paths_members, path_to, path_of, check_path, list_after, path_words}
use Rattle.schema.specs.declared.judging.Mismatch.{Mismatch}
use Rattle.schema.specs.Climbing.{PathReady, PathWritten}
use Rattle.schema.proofs.judging.Codes.{number_bounds}
use Rattle.schema.proofs.judging.First.{mismatch_real}
use Rattle.schema.proofs.judging.Order.{join_nodes, join_members, Judges, itself, element, value, required, optional}
use Rattle.schema.proofs.paths.Laws.{Short, all_short, picked}

-- ---- a value that is judged has a path

module _ (x : ℕ) where
  abbrev NoPath : List Path → Type 0
  NoPath ps = path_to x ps ≡ []

  none_behind : (p : Path) (ps : List Path) → NoPath (p ∷ ps) → NoPath ps
  none_behind p ps = both (λ (rs : List ℕ). rs ≡ [] → NoPath ps) (eqb p.place x) (λ _ e. never (cc)) (λ _ e. e)

  none_left : (ps qs : List Path) → NoPath (ps ++ qs) → NoPath ps
  none_left [] qs h = refl
  none_left (p ∷ ps) qs h =
      both (λ (rs : List ℕ). rs ≡ [] → NoPath (p ∷ ps)) (eqb p.place x) (λ _ e. never (cc)) (λ n e. rw n (none_left ps qs e)) h

  none_right : (ps qs : List Path) → NoPath (ps ++ qs) → NoPath qs
  none_right [] qs h = h
  none_right (p ∷ ps) qs h = none_right ps qs (none_behind p (ps ++ qs) h)

  -- an element, and a member's value, without a path in theirs
  none_element : (around : List ℕ) (r : ℕ) (before : Nodes) (n : Node) (after : Nodes) → NoPath (paths_all around r (join_nodes before (more n after)))
      → (q : ℕ) × NoPath (paths around q n)
  none_element around r no_Node n after h = (r, none_left (paths around r n) (paths_all around (r + size n) after) h)
  none_element around r (more m before) n after h =
      none_element around (r + size m) before n after
      (none_right (paths around r m) (paths_all around (r + size m) (join_nodes before (more n after))) h)

  none_member : (around : List ℕ) (r : ℕ) (before : Members) (f e : ℕ) (n : Node) (after : Members)
      → NoPath (paths_members around r (join_members before (member f e n after))) → (q : ℕ) × NoPath (paths around q n)
  none_member around r no_member f e n after h = (r + 1, none_left (paths around (r + 1) n) (paths_members around (r + 1 + size n) after) h)
  none_member around r (member g i m before) f e n after h =
      none_member around (r + 1 + size m) before f e n after
      (none_right (paths around (r + 1) m) (paths_members around (r + 1 + size m) (join_members before (member f e n after))) h)

  none_named : (s k around : List ℕ) (r : ℕ) (ms : Members) (n : Node) → lookup s k ms ≡ Some n → NoPath (paths_members around r ms)
      → (q : ℕ) × NoPath (paths around q n)
  none_named s k around r no_member n e h = never (cc)
  none_named s k around r (member f g m ms) n e h =
      let rest = paths_members around (r + 1 + size m) ms in
      both (λ (o : Option Node). o ≡ Some n → (q : ℕ) × NoPath (paths around q n)) (same k (name_of s f g))
      (λ _ z. let y : m ≡ n = cc in (r + 1, rw y at (none_left (paths around (r + 1) m) rest h)))
      (λ _ z. none_named s k around (r + 1 + size m) ms n z (none_right (paths around (r + 1) m) rest h)) e

-- the value itself
own_path : (around : List ℕ) (r : ℕ) (n : Node) → NoPath (place_of n) (paths around r n) → ⊥
own_path around r (scalar k f e) h = never (cc (eq-eqb f f refl))
own_path around r (array f e ns) h = never (cc (eq-eqb f f refl))
own_path around r (object f e ms) h = never (cc (eq-eqb f f refl))

reached : {s : List ℕ} {d : Located} {n : Node} {d₂ : Located} {n₂ : Node} → Judges s d n d₂ n₂ → (around : List ℕ) (r : ℕ)
    → NoPath (place_of n₂) (paths around r n) → ⊥
reached (itself {n = n}) around r h = own_path around r n h
reached (element {f = f} {ns = ns} {x = x} {n₂ = n₂} before after e m j) around r h =
    let b = none_behind (place_of n₂) _ (paths_all (r ∷ around) (r + 1) ns) h in
    let c = none_element (place_of n₂) (r ∷ around) (r + 1) before x after (rw e at b) in
    reached j (r ∷ around) c.0 c.1
reached (value {ms = ms} {x = x} {n₂ = n₂} before g i after e m j) around r h =
    let b = none_behind (place_of n₂) _ (paths_members (r ∷ around) (r + 1) ms) h in
    let c = none_member (place_of n₂) (r ∷ around) (r + 1) before g i x after (rw e at b) in
    reached j (r ∷ around) c.0 c.1
reached {s = s} (required {ms = ms} {x = x} {n₂ = n₂} before q k after e m l j) around r h =
    let b = none_behind (place_of n₂) _ (paths_members (r ∷ around) (r + 1) ms) h in
    let c = none_named (place_of n₂) s k (r ∷ around) (r + 1) ms x l b in
    reached j (r ∷ around) c.0 c.1
reached {s = s} (optional {ms = ms} {x = x} {n₂ = n₂} before q k after e m i l j) around r h =
    let b = none_behind (place_of n₂) _ (paths_members (r ∷ around) (r + 1) ms) h in
    let c = none_named (place_of n₂) s k (r ∷ around) (r + 1) ms x l b in
    reached j (r ∷ around) c.0 c.1

-- ---- the mismatch of a document

-- a document that was read with room, and its mismatch
pub record HasMismatch (w₁ w₂ : ℕ) (s₁ s₂ : List ℕ) : Type 0 where
  pub tree : Node
  pub end : ℕ
  pub reads : read_document s₁ ≡ parsed tree end
  pub room : size tree ≤ rows_in w₁
  pub definition : Located
  pub accepts : accept 2 w₂ s₂ ≡ accepted definition
  pub code : (20 ≤ (check_answer w₁ w₂ s₁ s₂).code) × ((check_answer w₁ w₂ s₁ s₂).code ≤ 22)
  pub mismatch : Mismatch
  pub is : mismatch_at s₁ definition tree ≡ Err mismatch
  pub place : (check_answer w₁ w₂ s₁ s₂).place ≡ mismatch.place

module _ (w₁ w₂ : ℕ) (s₁ s₂ : List ℕ) where
  abbrev code : Answer → ℕ
  code a = a.code

  module _ (h : 20 ≤ (check_answer w₁ w₂ s₁ s₂).code) where
    judged-as : {d : Located} → accept 2 w₂ s₂ ≡ accepted d → check_answer w₁ w₂ s₁ s₂ ≡ judged_as d w₁ s₁ (read_document s₁)
    unfolding check_answer
    judged-as q = rw q

    unaccepted : {a : Answer} → accept 2 w₂ s₂ ≡ not_accepted a → check_answer w₁ w₂ s₁ s₂ ≡ a
    unfolding check_answer
    unaccepted q = rw q

    -- a document that was read
    of_read : (d : Located) → accept 2 w₂ s₂ ≡ accepted d → (n : Node) (e : ℕ) → read_document s₁ ≡ parsed n e → HasMismatch w₁ w₂ s₁ s₂
    of_read d q n e r =
        let a : check_answer w₁ w₂ s₁ s₂ ≡ judged_as d w₁ s₁ (parsed n e) = judged-as q ∙ ap (judged_as d w₁ s₁) r in
        by_test (leb (size n) (rows_in w₁)) (λ y. go y (mismatch_at s₁ d n) refl (a ∙ rw y))
        (λ y. let b : check_answer w₁ w₂ s₁ s₂ ≡ answer 8 1 0 (size n) = a ∙ rw y in absurd (omega (arith, h, ap code b)))
      where
        go : leb (size n) (rows_in w₁) ≡ true → (m : Judgement) → mismatch_at s₁ d n ≡ m → check_answer w₁ w₂ s₁ s₂ ≡ mismatch_answer m → HasMismatch w₁ w₂ s₁ s₂
        go y (Ok u) z b = absurd (omega (arith, h, ap code b))
        go y (Err m) z b = record {
          tree = n;
          end = e;
          reads = r;
          room = leb-true _ _ y;
          definition = d;
          accepts = q;
          code = (h, rw b (number_bounds m.code).1);
          mismatch = m;
          is = z;
          place = ap (λ (a : Answer). a.place) b;
        }

    -- every other code is below 20
    pub has_mismatch : HasMismatch w₁ w₂ s₁ s₂
    has_mismatch = of_schema (accept 2 w₂ s₂) refl (accept_way 2 w₂ s₂)
      where
        of_document : (d : Located) → accept 2 w₂ s₂ ≡ accepted d → (o : Parse Node) → read_document s₁ ≡ o → HasMismatch w₁ w₂ s₁ s₂
        of_document d q (refused c p) r = absurd (omega (arith, h, ap code (judged-as q ∙ ap (judged_as d w₁ s₁) r), read_code _ _ s₁ c p r))
        of_document d q (parsed n e) r = of_read d q n e r

        of_schema : (x : Accepted) → accept 2 w₂ s₂ ≡ x → Way 2 w₂ s₂ x → HasMismatch w₁ w₂ s₁ s₂
        of_schema (not_accepted a) q w = absurd (omega (arith, h, ap code (unaccepted q), w.0))
        of_schema (accepted d) q w = of_document d q (read_document s₁) refl

module _ {w₁ w₂ : ℕ} {s₁ s₂ : List ℕ} (h : HasMismatch w₁ w₂ s₁ s₂) where
  abbrev place : ℕ
  place = (check_answer w₁ w₂ s₁ s₂).place

  pub mismatch_found : path_to place (paths [] 0 h.tree) ≡ [] → ⊥
  mismatch_found e =
      let n = h.tree in
      let q = h.reads in
      let r = mismatch_real s₁ h.definition n (read_placed _ _ s₁ n h.end q) (read_json _ _ s₁ n h.end q) h.is in
      let p : place ≡ place_of r.judged_value = h.place ∙ r.place in
      reached r.judges [] 0 (rw p at e)

  pub mismatch_few : length (path_to place (paths [] 0 h.tree)) ≤ path_words
  mismatch_few =
      let s = all_short path_words 32 [] 0 h.tree (read_shallow s₁ _ _ h.tree h.end h.reads) (omega arith) in
      let p = picked (Short path_words) place (paths [] 0 h.tree) s mismatch_found in
      omega (arith, ap length p.3, p.1)

  -- Check's path is that to it
  pub path_is : check_path w₁ w₂ s₁ s₂ ≡ path_to place (paths [] 0 h.tree)
  unfolding check_path
  path_is = rw (h.reads, le-leb 20 (check_answer w₁ w₂ s₁ s₂).code h.code.0, le-leb (check_answer w₁ w₂ s₁ s₂).code 22 h.code.1)

  -- the table that Check leaves, and the list that is lent
  module _ (t₁ : List ℕ) (z : length t₁ ≡ w₁) where
    pub mismatch_table : check_table t₁ w₂ s₁ s₂ ≡ table_of t₁ (read_document s₁)
    unfolding check_table
    mismatch_table = rw h.accepts

    -- it holds the document's rows
    pub mismatch_holds : Holds (check_table t₁ w₂ s₁ s₂) 0 h.tree × Nested (check_table t₁ w₂ s₁ s₂) 0 0 h.tree
    mismatch_holds =
        let n = h.tree in
        let g : size n ≤ rows_in (length t₁) = rw z h.room in
        rw mismatch_table (read_table _ _ s₁ t₁ n h.end h.reads g, read_nested _ _ s₁ t₁ n h.end h.reads g)

    module _ {u₁ : List ℕ} (e : u₁ ≡ check_table t₁ w₂ s₁ s₂) (list : List ℕ) where
      pub path_ready : path_words ≤ length list → PathReady u₁ place list
      path_ready l =
          let n = h.tree in
          let q = h.reads in
          record {
            tree = n;
            holds = rw e mismatch_holds.0;
            nested = rw e mismatch_holds.1;
            small = omega (arith, read_rows _ _ s₁ n h.end q, read_short _ _ s₁ n h.end q);
            found = mismatch_found;
            few = omega (arith, mismatch_few);
          }

      pub path_done : path_words ≤ length list → {k : ℕ} {list₂ : List ℕ} → PathWritten u₁ place k list list₂
          → (k ≡ length (check_path w₁ w₂ s₁ s₂)) × (list₂ ≡ list_after (check_path w₁ w₂ s₁ s₂) list) × (k ≤ path_words)
      unfolding path_ready
      path_done l w =
          let x = w.tells h.tree (path_ready l).holds in
          (x.0 ∙ ap length (sym path_is), x.1 ∙ ap (λ (rs : List ℕ). list_after rs list) (sym path_is), omega (arith, mismatch_few, x.0))

-- there is no path where there is no mismatch
pub no_path : (w₁ w₂ : ℕ) (s₁ s₂ : List ℕ) → (check_answer w₁ w₂ s₁ s₂).code < 20 → check_path w₁ w₂ s₁ s₂ ≡ []
unfolding check_path
no_path w₁ w₂ s₁ s₂ l = go (read_document s₁)
  where
    go : (o : Parse Node) → path_of (check_answer w₁ w₂ s₁ s₂) o ≡ []
    go (refused c p) = refl
    go (parsed n e) = rw (lt-leb 20 (check_answer w₁ w₂ s₁ s₂).code l)
