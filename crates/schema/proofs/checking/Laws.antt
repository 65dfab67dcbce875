-- Check on plain values: how its answer, the tables it leaves, the dates and the path follow from its steps, which are reading both texts, judging the
-- document by the schema, and writing the path to its mismatch.
use Prim.Native.Nat.{ℕ, ◌≤◌, ◌<◌}
use mathlib.Core.Path.{◌≡◌, refl, sym, ap, ◌∙◌}
use mathlib.Core.List.{List, [], ◌∷◌}
use mathlib.Core.Logic.{◌↔◌}
use mathlib.Core.Bool.{Bool, true, false, cond}
use native.Mathlib.Omega.{arith}
use lib.IntN.{ℤ, pos}
use lib.ListN.{length}
use lib.Dec.{leb}
use borrow.Author.Tests.{le-leb, leb-true, ne_eqb, lt-ltb, le-ltb}
use Rattle.std.specs.Prelude.{Result, Ok, Err}
use Rattle.model.proofs.Basics.{never, by_test}
use Rattle.model.proofs.Formed.{definition_formed}
use Rattle.tokens.specs.Parse.{Parse, refused, parsed}
use Rattle.syntax.specs.Tree.{Node}
use Rattle.syntax.specs.Rows.{size}
use Rattle.syntax.specs.Spelling.{value_of}
use Rattle.syntax.specs.Answer.{document_limits, schema_limits, answer, answer_of, rows_in, table_of}
use Rattle.syntax.specs.declared.answers.Answer.{Answer}
use Rattle.syntax.proofs.Theorems.{read_json, read_rows, read_short, read_code}
use Rattle.definitions.specs.Definitions.{Located, bare}
use Rattle.definitions.specs.Accepting.{read_schema, Accepted, not_accepted, accepted, accept_result, accept}
use Rattle.schema.specs.Judging.{Judgement, visits, mismatch_at}
use Rattle.schema.specs.Dates.{moments, earliest, latest, dates_of, Spans}
use Rattle.schema.specs.Walks.{most_dates, numbers_of, Tallied, Walks, Judgeable, Judged}
use Rattle.schema.specs.Checking.{read_document, mismatch_answer, judged_as, checked_as, check_answer, table_after, check_table, Meeting, check_moments}
use Rattle.schema.specs.Checking.{document_result, both_result}
use Rattle.schema.specs.Paths.{check_path, list_after, path_words, short_answer, by_list}
use Rattle.schema.specs.Climbing.{PathReady, PathWritten}
use Rattle.schema.specs.declared.checking.Checked.{Checked}
use Rattle.schema.specs.declared.dates.Dates.{Dates}
use Rattle.schema.specs.declared.judging.Mismatch.{Mismatch}
use Rattle.definitions.proofs.Facts.{Takes, Way, accept_way, HasRead, has_rows, defined_plain}
use Rattle.schema.proofs.dates.Once.{moments_few}
use Rattle.schema.proofs.dates.Spans.{spans}
use Rattle.schema.proofs.judging.Codes.{number_bounds}
use Rattle.schema.proofs.checking.Zero.{check_zero}
use Rattle.schema.proofs.paths.Reached.{HasMismatch, has_mismatch, path_ready, path_done, no_path}

-- ---- reading both texts

-- the schema is not accepted
pub unaccepted_table : (s₁ s₂ t₁ t₂ : List ℕ) {m : Result (Unit {0}) Answer} {a : Answer} → m ≡ accept_result (accept 2 (length t₂) s₂) → m ≡ Err a
    → t₁ ≡ check_table t₁ (length t₂) s₁ s₂
unfolding check_table
unaccepted_table s₁ s₂ t₁ t₂ {a = a} e q = go (accept 2 (length t₂) s₂) (sym q ∙ e)
  where
    go : (x : Accepted) → Err a ≡ accept_result x → t₁ ≡ table_after x t₁ s₁
    go (not_accepted b) z = refl
    go (accepted d) z = never (cc)

-- what reading the document answers
read_result : (w : ℕ) (s : List ℕ) (a : Answer) → a ≡ answer_of 1 w (read_document s)
    → ((a.code ≡ 0 → ⊥) → Err a ≡ document_result w (read_document s)) × (a.code ≡ 0 → Ok tt ≡ document_result w (read_document s))
unfolding answer_of
read_result w s a e = go (read_document s) refl e
  where
    by_room : (n : Node) (b : Bool) → a ≡ cond b (answer 0 0 0 (size n)) (answer 8 1 0 (size n))
        → ((a.code ≡ 0 → ⊥) → ◌≡◌ {A = Result (Unit {0}) Answer} (Err a) (cond b (Ok tt) (Err (answer 8 1 0 (size n)))))
        × (a.code ≡ 0 → ◌≡◌ {A = Result (Unit {0}) Answer} (Ok tt) (cond b (Ok tt) (Err (answer 8 1 0 (size n)))))
    by_room n true e = (λ f. absurd (f (ap (λ (a : Answer). a.code) e)), λ z. refl)
    by_room n false e = (λ f. ap (λ (a : Answer). Err a) e, λ z. absurd (omega (arith, ap (λ (a : Answer). a.code) e, z)))

    go : (o : Parse Node) → read_document s ≡ o → a ≡ answer_of 1 w o
        → ((a.code ≡ 0 → ⊥) → Err a ≡ document_result w o) × (a.code ≡ 0 → Ok tt ≡ document_result w o)
    go (refused c p) q e =
        (λ f. ap (λ (a : Answer). Err a) e, λ z. absurd (omega (arith, read_code _ _ s c p q, ap (λ (a : Answer). a.code) e, z)))
    go (parsed n p) q e = by_room n (leb (size n) (rows_in w)) e

-- the schema is accepted
module _ (s₁ s₂ t₁ t₂ : List ℕ) {m : Result (Unit {0}) Answer} {u : Unit {0}} (e : m ≡ accept_result (accept 2 (length t₂) s₂)) (q : m ≡ Ok u) where
  accepted-so : (P : Accepted → Type 0) → ((d : Located) → P (accepted d)) → P (accept 2 (length t₂) s₂)
  accepted-so P f = go (accept 2 (length t₂) s₂) (sym q ∙ e)
    where
      go : (x : Accepted) → Ok u ≡ accept_result x → P x
      go (not_accepted b) z = never (cc)
      go (accepted d) z = f d

  pub accepted_rows : {u₁ : List ℕ} → u₁ ≡ table_of t₁ (read_document s₁) → u₁ ≡ check_table t₁ (length t₂) s₁ s₂
  unfolding check_table
  accepted_rows {u₁} x = accepted-so (λ k. u₁ ≡ table_after k t₁ s₁) (λ d. x)

  module _ {a : Answer} (x : a ≡ answer_of 1 (length t₁) (read_document s₁)) where
    pub accepted_unread : (a.code ≡ 0 → ⊥) → Err a ≡ both_result (accept 2 (length t₂) s₂) (length t₁) s₁
    accepted_unread f = accepted-so (λ k. Err a ≡ both_result k (length t₁) s₁) (λ d. (read_result (length t₁) s₁ a x).0 f)

    pub accepted_read : a.code ≡ 0 → Ok tt ≡ both_result (accept 2 (length t₂) s₂) (length t₁) s₁
    accepted_read z = accepted-so (λ k. Ok tt ≡ both_result k (length t₁) s₁) (λ d. (read_result (length t₁) s₁ a x).1 z)

-- ---- what Check promises

abbrev pub no_dates : List ℤ
no_dates = pos 0 ∷ pos 0 ∷ pos 0 ∷ []

-- of what it tells, the tables u₁ and u₂ that it leaves, the dates ds and the list v, for a document s₁ and a schema s₂ with tables t₁ and t₂ and
-- a list l
abbrev pub Promised : List ℕ → List ℕ → List ℕ → List ℕ → List ℕ → Checked → List ℕ → List ℕ → List ℤ → List ℕ → Type 0
Promised s₁ s₂ t₁ t₂ l r u₁ u₂ ds v = record {
  answers : r.answer ≡ by_list (length l) short_answer (check_answer (length t₁) (length t₂) s₁ s₂);
  rows1 : u₁ ≡ by_list (length l) t₁ (check_table t₁ (length t₂) s₁ s₂);
  rows2 : u₂ ≡ by_list (length l) t₂ (table_of t₂ (read_schema s₂));
  meets : path_words ≤ length l → (r.answer.code ≡ 0) ↔ Meeting (length t₁) (length t₂) s₁ s₂;
  dated : ds ≡ dates_of (by_list (length l) [] (check_moments (length t₁) (length t₂) s₁ s₂));
  spans : Spans (by_list (length l) [] (check_moments (length t₁) (length t₂) s₁ s₂)) ds;
  paths : v ≡ list_after (by_list (length l) [] (check_path (length t₁) (length t₂) s₁ s₂)) l;
  steps : r.steps ≡ length (by_list (length l) [] (check_path (length t₁) (length t₂) s₁ s₂));
}

module _ (s₁ s₂ t₁ t₂ l : List ℕ) where
  -- "before everything"
  pub promised_short : length l < path_words → {a : Answer} → a ≡ short_answer → Promised s₁ s₂ t₁ t₂ l (record { answer = a; steps = 0 }) t₁ t₂ no_dates l
  unfolding earliest latest
  promised_short h e = rw (lt-ltb (length l) path_words h) (record {
    answers = e;
    rows1 = refl;
    rows2 = refl;
    meets = λ m. absurd (omega arith);
    dated = refl;
    spans = spans [];
    paths = refl;
    steps = refl;
  })

  module _ (h : path_words ≤ length l) {r : Checked} {u₁ u₂ v : List ℕ} {ds : List ℤ} (p : r.answer ≡ check_answer (length t₁) (length t₂) s₁ s₂)
      (x : u₁ ≡ check_table t₁ (length t₂) s₁ s₂) (y : u₂ ≡ table_of t₂ (read_schema s₂))
      (n : v ≡ list_after (check_path (length t₁) (length t₂) s₁ s₂) l) (k : r.steps ≡ length (check_path (length t₁) (length t₂) s₁ s₂)) where
    promised : ds ≡ dates_of (check_moments (length t₁) (length t₂) s₁ s₂) → Promised s₁ s₂ t₁ t₂ l r u₁ u₂ ds v
    promised e =
        let c = ap (λ (b : Answer). b.code) p in
        let m = check_zero (length t₁) (length t₂) s₁ s₂ in
        rw (le-ltb (length l) path_words h) (record {
          answers = p;
          rows1 = x;
          rows2 = y;
          meets = λ _. (λ z. m.0 (sym c ∙ z), λ g. c ∙ m.1 g);
          dated = e;
          spans = rw e (spans (check_moments (length t₁) (length t₂) s₁ s₂));
          paths = n;
          steps = k;
        })

    -- "all three are 0 [..] on every other code"
    undated : (r.answer.code ≡ 0 → ⊥) → ds ≡ no_dates → Promised s₁ s₂ t₁ t₂ l r u₁ u₂ ds v
    unfolding check_moments earliest latest
    undated f q = promised (q ∙ rw (ne_eqb (check_answer (length t₁) (length t₂) s₁ s₂).code 0 (λ z. f (ap (λ (b : Answer). b.code) p ∙ z))))

-- ---- a text is refused, or has no room

-- the answer is Check's, with a code below 20
pub unread : (w₁ w₂ : ℕ) (s₁ s₂ : List ℕ) {a : Answer} → Err a ≡ both_result (accept 2 w₂ s₂) w₁ s₁
    → (a ≡ check_answer w₁ w₂ s₁ s₂) × ((0 < a.code) × (a.code < 20))
unfolding check_answer
unread w₁ w₂ s₁ s₂ {a} e = go (accept 2 w₂ s₂) (accept_way 2 w₂ s₂) e
  where
    same : {b : Answer} → ◌≡◌ {A = Result (Unit {0}) Answer} (Err a) (Err b) → a ≡ b
    same z = cc

    by_room : (d : Located) (n : Node) (b : Bool)
        → ◌≡◌ {A = Result (Unit {0}) Answer} (Err a) (cond b (Ok tt) (Err (answer 8 1 0 (size n))))
        → (a ≡ cond b (mismatch_answer (mismatch_at s₁ d n)) (answer 8 1 0 (size n))) × ((0 < a.code) × (a.code < 20))
    by_room d n true z = never (cc)
    by_room d n false z = let q = same z in (q, omega (arith, ap (λ (b : Answer). b.code) q))

    of_document : (d : Located) (o : Parse Node) → read_document s₁ ≡ o → Err a ≡ document_result w₁ o
        → (a ≡ judged_as d w₁ s₁ o) × ((0 < a.code) × (a.code < 20))
    of_document d (refused c p) r z = let q = same z in (q, omega (arith, ap (λ (b : Answer). b.code) q, read_code _ _ s₁ c p r))
    of_document d (parsed n p) r z = by_room d n (leb (size n) (rows_in w₁)) z

    go : (x : Accepted) → Way 2 w₂ s₂ x → Err a ≡ both_result x w₁ s₁ → (a ≡ checked_as x w₁ s₁) × ((0 < a.code) × (a.code < 20))
    go (not_accepted b) w z = let q = same z in (q, omega (arith, ap (λ (b : Answer). b.code) q, w.0))
    go (accepted d) w z = of_document d (read_document s₁) refl z

module _ (s₁ s₂ t₁ t₂ l : List ℕ) (h : path_words ≤ length l) where
  pub promised_unread : {m : Result (Unit {0}) Answer} {a : Answer} {u₁ u₂ : List ℕ} → m ≡ both_result (accept 2 (length t₂) s₂) (length t₁) s₁ → m ≡ Err a
      → u₁ ≡ check_table t₁ (length t₂) s₁ s₂ → u₂ ≡ table_of t₂ (read_schema s₂) → Promised s₁ s₂ t₁ t₂ l (record { answer = a; steps = 0 }) u₁ u₂ no_dates l
  promised_unread e q x y =
      let n = unread (length t₁) (length t₂) s₁ s₂ (sym q ∙ e) in
      let p = sym (no_path (length t₁) (length t₂) s₁ s₂ (omega (arith, n, ap (λ (b : Answer). b.code) n.0))) in
      undated s₁ s₂ t₁ t₂ l h n.0 x y (ap (λ (rs : List ℕ). list_after rs l) p) (ap length p) (λ z. omega (arith, n)) refl

-- ---- both are read

-- the definition that the schema is, and the document's tree
pub record BothRead (s₁ s₂ t₁ t₂ : List ℕ) : Type 0 where
  pub definition : Located
  pub accepts : accept 2 (length t₂) s₂ ≡ accepted definition
  pub takes : Takes (length t₂) s₂ definition
  pub document : HasRead document_limits s₁ t₁

both_read : (s₁ s₂ t₁ t₂ : List ℕ) {u : Unit {0}} → Ok u ≡ both_result (accept 2 (length t₂) s₂) (length t₁) s₁ → BothRead s₁ s₂ t₁ t₂
both_read s₁ s₂ t₁ t₂ {u} e = go (accept 2 (length t₂) s₂) refl (accept_way 2 (length t₂) s₂) e
  where
    of_document : (o : Parse Node) → read_document s₁ ≡ o → Ok u ≡ document_result (length t₁) o → HasRead document_limits s₁ t₁
    of_document (refused c p) r z = never (cc)
    of_document (parsed n p) r z =
        by_test (leb (size n) (rows_in (length t₁)))
        (λ y. record { tree = n; end = p; reads = r; room = leb-true _ _ y })
        (λ y. let k : Ok u ≡ Err (answer 8 1 0 (size n)) = rw y at z in never (cc))

    go : (x : Accepted) → accept 2 (length t₂) s₂ ≡ x → Way 2 (length t₂) s₂ x → Ok u ≡ both_result x (length t₁) s₁ → BothRead s₁ s₂ t₁ t₂
    go (not_accepted b) q w z = never (cc)
    go (accepted d) q w z = record { definition = d; accepts = q; takes = w.0; document = of_document (read_document s₁) refl z }

-- their tables are u₁ and u₂
pub record TablesRead (s₁ s₂ t₁ t₂ u₁ u₂ : List ℕ) : Type 0 where
  pub both : BothRead s₁ s₂ t₁ t₂
  pub rows1 : u₁ ≡ check_table t₁ (length t₂) s₁ s₂
  pub rows2 : u₂ ≡ table_of t₂ (read_schema s₂)

pub tables_read : (s₁ s₂ t₁ t₂ : List ℕ) {m : Result (Unit {0}) Answer} {u : Unit {0}} {u₁ u₂ : List ℕ} → m ≡ both_result (accept 2 (length t₂) s₂) (length t₁) s₁
    → m ≡ Ok u → u₁ ≡ check_table t₁ (length t₂) s₁ s₂ → u₂ ≡ table_of t₂ (read_schema s₂) → TablesRead s₁ s₂ t₁ t₂ u₁ u₂
tables_read s₁ s₂ t₁ t₂ e q x y = record { both = both_read s₁ s₂ t₁ t₂ (sym q ∙ e); rows1 = x; rows2 = y }

module _ {s₁ s₂ t₁ t₂ u₁ u₂ : List ℕ} (i : TablesRead s₁ s₂ t₁ t₂ u₁ u₂) where
  schema_read : HasRead schema_limits s₂ t₂
  schema_read = let k = i.both.takes in record { tree = k.tree; end = k.read.end; reads = k.read.reads; room = k.read.room }

  given : Judgeable s₁ s₂ (table_of t₁ (read_document s₁)) (table_of t₂ (read_schema s₂)) 0 0
  unfolding schema_read
  given = record {
    document = has_rows i.both.document;
    schema = has_rows schema_read;
    definition = i.both.definition;
    defines = i.both.takes.defines;
  }

  document_rows : u₁ ≡ table_of t₁ (read_document s₁)
  unfolding check_table
  document_rows = i.rows1 ∙ rw i.both.accepts

  pub judgeable : Judgeable s₁ s₂ u₁ u₂ 0 0
  judgeable = rw (document_rows, i.rows2) given

  -- the moments of what is judged; a document has no more than are counted
  abbrev found : List ℤ
  found = moments s₁ (visits s₁ i.both.definition i.both.document.tree)

  few : length found ≤ most_dates
  few =
      let k = i.both.takes in
      let d = i.both.document in
      let json = read_json _ _ s₂ k.tree k.read.end k.read.reads in
      let formed = definition_formed (value_of s₂ k.tree) json (bare i.both.definition) (defined_plain s₂ k.tree i.both.definition k.defines) in
      omega (
        arith,
        moments_few s₁ i.both.definition formed d.tree,
        read_rows _ _ s₁ d.tree d.end d.reads,
        read_short _ _ s₁ d.tree d.end d.reads,
      )

  module _ {m : Judgement} {d d₂ : Dates} (j : Judged s₁ s₂ u₁ u₂ 0 0 m d d₂) where
    walked : Walks s₁ (visits s₁ i.both.definition i.both.document.tree) m d d₂
    unfolding given
    walked = (rw (document_rows, i.rows2) at j).tells given

    judges : check_answer (length t₁) (length t₂) s₁ s₂ ≡ mismatch_answer m
    unfolding check_answer
    judges = let r = i.both.document in rw (i.both.accepts, r.reads, le-leb (size r.tree) (rows_in (length t₁)) r.room, ← walked.first)

    module _ (l : List ℕ) (h : path_words ≤ length l) where
      -- no mismatch: the dates are those that were counted
      module _ {u : Unit {0}} (e : m ≡ Ok u) (t : Tallied d []) where
        dates : numbers_of d₂ ≡ dates_of found
        dates = let k = walked.counts e [] t in rw (k.count, k.first, k.last, le-leb (length found) most_dates few)

        zero : check_answer (length t₁) (length t₂) s₁ s₂ ≡ answer 0 0 0 0
        zero = judges ∙ ap mismatch_answer e

        all_found : check_moments (length t₁) (length t₂) s₁ s₂ ≡ found
        unfolding check_moments
        all_found = rw (zero, i.both.accepts, i.both.document.reads)

        pub promised_met : {a : Answer} → a ≡ answer 0 0 0 0 → {ds : List ℤ} → ds ≡ numbers_of d₂
            → Promised s₁ s₂ t₁ t₂ l (record { answer = a; steps = 0 }) u₁ u₂ ds l
        promised_met q y =
            let p = sym (no_path (length t₁) (length t₂) s₁ s₂ (omega (arith, ap (λ (b : Answer). b.code) zero))) in
            promised s₁ s₂ t₁ t₂ l h (q ∙ sym zero) i.rows1 i.rows2 (ap (λ (rs : List ℕ). list_after rs l) p) (ap length p) (y ∙ dates ∙ rw all_found)

      -- a mismatch: the path leads to it
      module _ {x : Mismatch} (e : m ≡ Err x) where
        told : check_answer (length t₁) (length t₂) s₁ s₂ ≡ mismatch_answer (Err x)
        told = judges ∙ ap mismatch_answer e

        known : HasMismatch (length t₁) (length t₂) s₁ s₂
        known = has_mismatch (length t₁) (length t₂) s₁ s₂ (omega (arith, ap (λ (b : Answer). b.code) told, number_bounds x.code))

        place : (check_answer (length t₁) (length t₂) s₁ s₂).place ≡ x.place
        place = ap (λ (b : Answer). b.place) told

        pub mismatch_ready : PathReady u₁ x.place l
        mismatch_ready = rw place at (path_ready known t₁ refl i.rows1 l h)

        module _ {k : ℕ} {v : List ℕ} (w : PathWritten u₁ x.place k l v) where
          done : (k ≡ length (check_path (length t₁) (length t₂) s₁ s₂)) × (v ≡ list_after (check_path (length t₁) (length t₂) s₁ s₂) l) × (k ≤ path_words)
          done = path_done known t₁ refl i.rows1 l h (rw (← place) at w)

          pub mismatch_fits : k ≤ path_words
          mismatch_fits = done.2

          pub promised_mismatch : {a : Answer} → a ≡ mismatch_answer (Err x) → Promised s₁ s₂ t₁ t₂ l (record { answer = a; steps = k }) u₁ u₂ no_dates v
          promised_mismatch q =
              undated s₁ s₂ t₁ t₂ l h (q ∙ sym told) i.rows1 i.rows2 done.1 done.0
              (λ z. omega (arith, number_bounds x.code, ap (λ (b : Answer). b.code) q, z)) refl
