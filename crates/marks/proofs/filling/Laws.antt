-- The rows that marks stand for, stored one behind the other, and which of those before a row it stands in.
use mathlib.Core.Path.{◌≡◌, refl, sym, ap, ap₂, ◌∙◌}
use mathlib.Core.List.{List, [], ◌∷◌, ◌++◌}
use Prim.Native.Nat.{ℕ, zero, suc, ◌+◌, ◌-◌, ◌*◌, ◌≤◌, ◌<◌}
use native.Mathlib.Nat.{add-zero}
use native.Mathlib.Numerals.{add-one}
use native.Mathlib.Omega.{arith}
use mathlib.Core.Bool.{cond}
use lib.ListN.{length, get_or, take, drop, set, length-append, length-set, get_or-append}
use lib.Seq.{sets, sets-eq, take-suc, length-take-le, get_or-take, get_or-append-add, get_or-set_same, get_or-set_other}
use lib.Dec.{ltb, eqb}
use borrow.Author.Tests.{ltb-true, ltb-false, le-ltb, eqb-true, eqb-false}
use Rattle.model.proofs.Basics.{both, by_test}
use Rattle.syntax.specs.Rows.{Entry, row_words, row, lay_out}
use Rattle.syntax.specs.Holding.{word}
use Rattle.syntax.proofs.Facts.{no_entry, laid_length, laid_word}
use Rattle.marks.specs.Marks.{mark_entry, mark_entries}
use Rattle.marks.specs.Filling.{last_open, parents_to, mark_size, mark_words, FillReady, onward}
use Rattle.marks.proofs.marks.Laws.{entries_none, entries_cons, entries_append, marks_length, marks_at}

pub sets_append : (xs ys l : List ℕ) (i : ℕ) → sets l i (xs ++ ys) ≡ sets (sets l i xs) (i + length xs) ys
sets_append [] ys l i = rw add-zero
sets_append (x ∷ xs) ys l i =
    let e : suc i + length xs ≡ i + suc (length xs) = omega arith in
    sets_append xs ys (set l i x) (suc i) ∙ ap (λ (k : ℕ). sets (sets l i (x ∷ xs)) k ys) e

-- ---- the last row that is open

module _ (rows : ℕ → ℕ) (i : ℕ) where
  pub last_below : (k : ℕ) → last_open rows i k ≤ k - 1
  last_below zero = omega arith
  last_below (suc k) =
      both (λ (r : ℕ). r ≤ suc k - 1) (ltb i (k + rows k)) (λ _. omega arith) (λ _. omega (arith, last_below k))

  -- all behind it have ended
  pub last_closed : (k j : ℕ) → last_open rows i k < j → j < k → j + rows j ≤ i
  last_closed zero j l m = absurd (omega arith)
  last_closed (suc k) j l m =
      both (λ (r : ℕ). r < j → j + rows j ≤ i) (ltb i (k + rows k)) (λ _ g. absurd (omega arith))
      (λ q g. by_test (ltb j k) (λ y. last_closed k j g (ltb-true _ _ y))
      (λ n. let e : j ≡ k = omega (arith, ltb-false j k n) in rw e (ltb-false _ _ q))) l

  -- a row that is open, or 0, with all behind it ended
  pub last_is : (k r : ℕ) → r ≤ k - 1 → ((j : ℕ) → r < j → j < k → j + rows j ≤ i) → (0 < r → i < r + rows r) → last_open rows i k ≡ r
  last_is zero r l c o = omega arith
  last_is (suc k) r l c o =
      by_test (ltb r k)
      (λ y. let b = ltb-true r k y in
      rw (le-ltb i (k + rows k) (c k b (omega arith))) (last_is k r (omega arith) (λ j g h. c j g (omega arith)) o))
      (λ n. let e : k ≡ r = omega (arith, ltb-false r k n) in
      both (λ (x : ℕ). x ≡ r) (ltb i (k + rows k)) (λ _. e)
      (λ q. let z : 0 < r → ⊥ = λ p. let h : i < k + rows k = rw e (o p) in omega (arith, ltb-false i (k + rows k) q) in
      let y : r ≡ 0 = by_test (ltb 0 r) (λ t. absurd (z (ltb-true 0 r t))) (λ t. omega (arith, ltb-false 0 r t)) in
      omega (arith, last_below k)))

  -- it is open, or 0
  pub last-open : (k : ℕ) → 0 < last_open rows i k → i < last_open rows i k + rows (last_open rows i k)
  last-open zero l = absurd (omega arith)
  last-open (suc k) l =
      both (λ (r : ℕ). 0 < r → i < r + rows r) (ltb i (k + rows k)) (λ q _. ltb-true _ _ q) (λ _ g. last-open k g) l

  -- rows that have ended are passed over
  pub last_skip : (r k : ℕ) → r ≤ k → ((j : ℕ) → r ≤ j → j < k → j + rows j ≤ i) → last_open rows i k ≡ last_open rows i r
  last_skip r zero l c = let e : r ≡ 0 = omega arith in rw e
  last_skip r (suc k) l c =
      by_test (ltb k r) (λ y. let e : r ≡ suc k = omega (arith, ltb-true k r y) in rw e)
      (λ n. let g = ltb-false k r n in rw (le-ltb i (k + rows k) (c k g (omega arith))) (last_skip r k g (λ j a b. c j a (omega arith))))

-- it goes by the rows below alone
pub last_same : (g h : ℕ → ℕ) (i k : ℕ) → ((j : ℕ) → j < k → g j ≡ h j) → last_open g i k ≡ last_open h i k
last_same g h i zero e = refl
last_same g h i (suc k) e =
    ap₂ (λ (x y : ℕ). cond (ltb i (k + x)) k y) (e k (omega arith)) (last_same g h i k (λ j l. e j (omega arith)))

-- ---- what rows stand in

module _ (rows : ℕ → ℕ) where
  pub parents_count : (k : ℕ) → length (parents_to rows k) ≡ k
  parents_count zero = refl
  parents_count (suc k) = omega (arith, length-append (parents_to rows k) (last_open rows k k ∷ []), parents_count k)

  pub parents_at : (k j : ℕ) → j < k → get_or (parents_to rows k) j 0 ≡ last_open rows j j
  parents_at zero j l = absurd (omega arith)
  parents_at (suc k) j l =
      by_test (ltb j k)
      (λ y. let b = ltb-true j k y in
      get_or-append (parents_to rows k) (last_open rows k k ∷ []) 0 j (omega (arith, parents_count k)) ∙ parents_at k j b)
      (λ n. let e : j ≡ length (parents_to rows k) + 0 = omega (arith, parents_count k, ltb-false j k n) in
      let f : k ≡ j = omega (arith, ltb-false j k n) in
      ap (λ (x : ℕ). get_or (parents_to rows k ++ (last_open rows k k ∷ [])) x 0) e
      ∙ get_or-append-add (parents_to rows k) (last_open rows k k ∷ []) 0 0 ∙ ap (λ (x : ℕ). last_open rows x x) f)

-- ---- the rows of marks

-- one row more
laid_add : (xs : List Entry) (ps : List ℕ) (x : Entry) (p : ℕ) → length xs ≡ length ps
    → lay_out (xs ++ (x ∷ [])) (ps ++ (p ∷ [])) ≡ lay_out xs ps ++ row x p
laid_add [] [] x p e = refl
laid_add [] (q ∷ ps) x p e = absurd (omega arith)
laid_add (y ∷ xs) [] x p e = absurd (omega arith)
laid_add (y ∷ xs) (q ∷ ps) x p e = ap (λ (ws : List ℕ). row y q ++ ws) (laid_add xs ps x p (omega arith))

module _ (ms : List ℕ) where
  abbrev size : ℕ → ℕ
  size = mark_size ms

  as_many : (k : ℕ) → k ≤ length ms → length (mark_entries (take k ms)) ≡ length (parents_to size k)
  as_many k l = omega (arith, marks_length (take k ms), length-take-le k ms l, parents_count size k)

  words_none : mark_words ms 0 ≡ []
  words_none = rw entries_none

  words_count : (k : ℕ) → k ≤ length ms → length (mark_words ms k) ≡ row_words * k
  words_count k l =
      omega (arith, laid_length (mark_entries (take k ms)) (parents_to size k) (as_many k l), marks_length (take k ms), length-take-le k ms l)

  words_step : (k : ℕ) → k < length ms → mark_words ms (k + 1) ≡ mark_words ms k ++ row (mark_entry (get_or ms k 0)) (last_open size k k)
  words_step k l =
      let e : mark_entries (take (suc k) ms) ≡ mark_entries (take k ms) ++ (mark_entry (get_or ms k 0) ∷ []) =
      ap mark_entries (take-suc ms k 0 l) ∙ entries_append (take k ms) (get_or ms k 0 ∷ [])
      ∙ ap (λ (xs : List Entry). mark_entries (take k ms) ++ xs) (entries_cons (get_or ms k 0) [] ∙ ap (λ (xs : List Entry). mark_entry (get_or ms k 0) ∷ xs) entries_none) in
      rw add-one (ap (λ (xs : List Entry). lay_out xs (parents_to size (suc k))) e
      ∙ laid_add (mark_entries (take k ms)) (parents_to size k) (mark_entry (get_or ms k 0)) (last_open size k k) (as_many k (omega arith)))

  -- the rows before k are stored in u
  abbrev pub Stored : List ℕ → List ℕ → ℕ → Type 0
  Stored t u k = u ≡ sets t 0 (mark_words ms k)

  -- and the row of its mark behind them
  row_stored : (t : List ℕ) {u u₂ : List ℕ} (k : ℕ) → k < length ms → Stored t u k
      → u₂ ≡ sets u (row_words * k) (row (mark_entry (get_or ms k 0)) (last_open size k k)) → Stored t u₂ (k + 1)
  row_stored t k h p q =
      let e : row_words * k ≡ 0 + length (mark_words ms k) = omega (arith, words_count k (omega arith)) in
      q ∙ rw (p, e, words_step k h) (sym (sets_append (mark_words ms k) (row (mark_entry (get_or ms k 0)) (last_open size k k)) t 0))

  module _ (t : List ℕ) {u : List ℕ} (k : ℕ) (p : Stored t u k) (l : k ≤ length ms) (m : row_words * k ≤ length t) where
    words_of : u ≡ mark_words ms k ++ drop (0 + length (mark_words ms k)) t
    words_of = p ∙ sets-eq (mark_words ms k) t 0 (omega (arith, words_count k l))

    -- word i of a row that is stored
    stored_word : (j i : ℕ) → j < k → i < row_words → word u j i ≡ get_or (row (mark_entry (get_or ms j 0)) (last_open size j j)) i 0
    stored_word j i g h =
        let x : get_or (mark_entries (take k ms)) j no_entry ≡ mark_entry (get_or ms j 0) =
        marks_at (take k ms) j (omega (arith, length-take-le k ms l)) ∙ ap mark_entry (get_or-take k ms j 0 g) in
        ap (λ (v : List ℕ). word v j i) words_of
        ∙ laid_word (mark_entries (take k ms)) (parents_to size k) (drop (0 + length (mark_words ms k)) t) j i (as_many k l)
        (omega (arith, marks_length (take k ms), length-take-le k ms l)) h
        ∙ ap₂ (λ (y : Entry) (q : ℕ). get_or (row y q) i 0) x (parents_at size k j g)

    stored_size : (j : ℕ) → j < k → word u j 4 ≡ size j
    stored_size j g = stored_word j 4 g (omega arith)

-- ---- the row that is being filled

module _ (ms : List ℕ) (rows : ℕ) where
  -- behind an array or object at row j one goes on in the last row before it that is open there
  abbrev Onward : List ℕ → ℕ → Type 0
  Onward now j = 1 < mark_size ms j → j + mark_size ms j < rows → get_or now j 0 ≡ last_open (mark_size ms) (j + mark_size ms j) j

  -- the marks are read up to row k, and those of arrays and objects say where to go on; row `parent`, one of these, ends at `end`
  pub record Filling (now : List ℕ) (k parent end : ℕ) : Type 0 where
    pub same : length now ≡ length ms
    pub ahead : (j : ℕ) → k ≤ j → get_or now j 0 ≡ get_or ms j 0
    pub onward : (j : ℕ) → j < k → Onward now j
    pub below : parent ≤ k - 1
    pub ends : end ≡ parent + mark_size ms parent
    pub inside : k ≤ end
    pub closed : (j : ℕ) → parent < j → j < k → j + mark_size ms j ≤ k
    pub list : 0 < k → 1 < mark_size ms parent

  -- row k stands in row `parent`, which ends at `end`
  pub record Standing (k parent end : ℕ) : Type 0 where
    pub below : parent ≤ k - 1
    pub ends : end ≡ parent + mark_size ms parent
    pub inside : k < end
    pub closed : (j : ℕ) → parent < j → j < k → j + mark_size ms j ≤ k

module _ {ms : List ℕ} {rows : ℕ} where
  filling_begins : FillReady ms rows → 0 < rows → Filling ms rows ms 0 0 rows
  filling_begins h l = record {
    same = refl;
    ahead = λ j _. refl;
    onward = λ j b. absurd (omega arith);
    below = omega arith;
    ends = omega (arith, h.top l);
    inside = omega arith;
    closed = λ j b c. absurd (omega arith);
    list = λ z. absurd (omega arith);
  }

  standing_is : {k parent end : ℕ} → Standing ms rows k parent end → parent ≡ last_open (mark_size ms) k k
  standing_is {k} {parent} s =
      sym (last_is (mark_size ms) k k parent s.below s.closed (λ _. omega (arith, s.inside, s.ends)))

  module _ (h : FillReady ms rows) {now : List ℕ} {k parent end : ℕ} (f : Filling ms rows now k parent end) (l : k < rows) where
    stands_here : (k ≡ end → ⊥) → Standing ms rows k parent end
    stands_here n = record { below = f.below; ends = f.ends; inside = omega (arith, f.inside, n); closed = f.closed }

    -- the row that was filled ends here
    module _ (e : k ≡ end) where
      ended : parent < k
      ended = by_test (ltb parent k) (λ y. ltb-true parent k y) (λ n. absurd (let g = ltb-false parent k n in let t = h.top (omega arith) in
          let z : parent ≡ 0 = omega (arith, f.below) in
          let w : mark_size ms 0 ≡ end = omega (arith, rw z at f.ends) in omega (arith, t, w)))

      goes_up : get_or now parent 0 ≡ last_open (mark_size ms) k parent
      goes_up =
          let q : parent + mark_size ms parent ≡ k = omega (arith, f.ends) in
          rw q at (f.onward parent ended (f.list (omega (arith, ended))) (omega arith))

      abbrev up : ℕ
      up = get_or now parent 0

      up_below : up < k
      up_below = omega (arith, ended, goes_up, last_below (mark_size ms) k parent)

      -- the top ends behind the last row
      still_open : k < up + mark_size ms up
      still_open =
          by_test (ltb 0 up)
          (λ y. let z = last-open (mark_size ms) k parent (omega (arith, goes_up, ltb-true 0 up y)) in rw goes_up z)
          (λ n. let z : up ≡ 0 = omega (arith, ltb-false 0 up n) in rw z (omega (arith, h.top (omega arith))))

      stands_up : {last : ℕ} → last ≡ up + mark_size ms up → Standing ms rows k up last
      stands_up v = record {
        below = omega (arith, up_below);
        ends = v;
        inside = omega (arith, still_open);
        closed = λ j b c. by_test (ltb parent j) (λ y. f.closed j (ltb-true parent j y) c)
            (λ n. by_test (ltb j parent)
            (λ y. last_closed (mark_size ms) k parent j (rw goes_up at b) (ltb-true j parent y))
            (λ m. let q : j ≡ parent = omega (arith, ltb-false parent j n, ltb-false j parent m) in rw q (omega (arith, f.ends))));
      }

    -- row k is written, and its mark makes way
    module _ {p e : ℕ} (s : Standing ms rows k p e) where
      abbrev o : ℕ
      o = onward now (k + mark_size ms k) p e

      within_parent : k + mark_size ms k ≤ e
      within_parent = let q = standing_is s in omega (arith, s.ends, rw (← q) at (h.nests k l))

      -- the top is the last to end
      before : k + mark_size ms k < rows → p < k
      before b = by_test (ltb p k) (λ y. ltb-true p k y) (λ n. absurd (
          let z : k ≡ 0 = omega (arith, s.below, ltb-false p k n) in
          let w : 0 + mark_size ms 0 < rows = rw z at b in
          omega (arith, w, h.top (omega arith))))

      goes-on : k + mark_size ms k < rows → o ≡ last_open (mark_size ms) (k + mark_size ms k) k
      goes-on b =
          by_test (eqb (k + mark_size ms k) e)
          (λ y. let q = eqb-true (k + mark_size ms k) e y in
          let z : p + mark_size ms p ≡ k + mark_size ms k = omega (arith, q, s.ends) in
          let g : p < k = before b in
          rw (y, f.onward p g (omega (arith, s.inside, s.ends)) (omega arith), z)
          (sym (last_skip (mark_size ms) (k + mark_size ms k) p k (omega arith) (λ j c d. by_test (ltb p j)
          (λ t. omega (arith, s.closed j (ltb-true p j t) d)) (λ t. let w : j ≡ p = omega (arith, ltb-false p j t) in rw w (omega arith))))))
          (λ n. let q = eqb-false (k + mark_size ms k) e n in
          rw n (sym (last_is (mark_size ms) (k + mark_size ms k) k p s.below (λ j c d. omega (arith, s.closed j c d))
          (λ _. omega (arith, within_parent, q, s.ends)))))

      in_now : k < length now
      in_now = omega (arith, f.same, h.few)

      filled_list : 1 < mark_size ms k → Filling ms rows (set now k o) (k + 1) k (k + mark_size ms k)
      filled_list g = record {
        same = length-set now k o ∙ f.same;
        ahead = λ j a. get_or-set_other now k j o 0 (λ e. omega arith) ∙ f.ahead j (omega arith);
        onward = λ j a. by_test (eqb j k)
            (λ y. let q = eqb-true j k y in rw q (λ _ r. get_or-set_same now k o 0 in_now ∙ goes-on r))
            (λ n. let q = eqb-false j k n in λ z r. get_or-set_other now k j o 0 q ∙ f.onward j (omega (arith, q)) z r);
        below = omega arith;
        ends = refl;
        inside = omega arith;
        closed = λ j a c. absurd (omega arith);
        list = λ _. g;
      }

      -- a row that holds this one
      parent_list : mark_size ms k ≤ 1 → k + 1 < rows → 1 < mark_size ms p
      parent_list g m = by_test (ltb p k) (λ y. omega (arith, ltb-true p k y, s.inside, s.ends)) (λ n. absurd (
          let z : k ≡ 0 = omega (arith, s.below, ltb-false p k n) in
          let w : mark_size ms 0 ≤ 1 = rw z at g in
          omega (arith, w, h.top (omega arith))))

      filled_leaf : mark_size ms k ≤ 1 → k + 1 < rows → Filling ms rows now (k + 1) p e
      filled_leaf g m = record {
        same = f.same;
        ahead = λ j a. f.ahead j (omega arith);
        onward = λ j a. by_test (eqb j k) (λ y. let q = eqb-true j k y in rw q (λ z. absurd (omega arith)))
            (λ n. f.onward j (omega (arith, eqb-false j k n)));
        below = omega (arith, s.below);
        ends = s.ends;
        inside = omega (arith, s.inside);
        closed = λ j a c. by_test (ltb j k) (λ y. omega (arith, s.closed j a (ltb-true j k y)))
            (λ n. let q : j ≡ k = omega (arith, ltb-false j k n) in rw q (omega arith));
        list = λ _. parent_list g m;
      }

-- ---- a turn of the loop

-- the rows before k are stored in u, and row k is to be filled, where there is one
pub record Reached (ms t : List ℕ) (rows : ℕ) (now u : List ℕ) (k parent end : ℕ) : Type 0 where
  pub stored : Stored ms t u k
  pub filling : k < rows → Filling ms rows now k parent end

pub begins : {ms : List ℕ} {rows : ℕ} (t : List ℕ) → FillReady ms rows → Reached ms t rows ms t 0 0 rows
begins t h = record { stored = rw words_none; filling = λ l. filling_begins h l }

module _ {ms t : List ℕ} {rows : ℕ} (g : FillReady ms rows × (row_words * rows ≤ length t)) {now u : List ℕ} {k parent end : ℕ} where
  module _ (r : Reached ms t rows now u k parent end) (l : k < rows) where
    f : Filling ms rows now k parent end
    f = r.filling l

    -- what stands in the row that was filled is filled, and the row that it stands in is gone on with
    pub behind_below : k ≡ end → get_or now parent 0 < k
    behind_below e = up_below g.0 f l e

    pub stands_behind : k ≡ end → {last : ℕ} → last ≡ get_or now parent 0 + word u (get_or now parent 0) 4
        → Standing ms rows k (get_or now parent 0) last
    stands_behind e {last} q =
        let w = stored_size ms t k r.stored (omega (arith, g.0.few)) (omega (arith, g.1)) (get_or now parent 0) (behind_below e) in
        stands_up g.0 f l e (omega (arith, q, w))

    pub stands_still : (k ≡ end → ⊥) → Standing ms rows k parent end
    stands_still n = stands_here g.0 f l n

    -- row k is written, and stands in row p
    module _ {p e : ℕ} (s : Standing ms rows k p e) where
      own : get_or now k 0 ≡ get_or ms k 0
      own = f.ahead k (omega arith)

      module _ {u₂ : List ℕ} (q : u₂ ≡ sets u (row_words * k) (row (mark_entry (get_or now k 0)) p)) {n : ℕ} (z : n ≡ (mark_entry (get_or now k 0)).rows) where
        wrote : Stored ms t u₂ (k + 1)
        wrote = row_stored ms t k (omega (arith, g.0.few)) r.stored (rw (← own, ← standing_is s) q)

        sized : n ≡ mark_size ms k
        sized = rw own at z

        -- the next row stands in it
        pub goes_in : 1 < n → Reached ms t rows (set now k (onward now (k + n) p e)) u₂ (k + 1) k (k + n)
        goes_in b = record { stored = wrote; filling = λ _. rw sized (filled_list g.0 f l s (omega (arith, sized))) }

        -- or stands behind it
        pub goes_by : n ≤ 1 → Reached ms t rows now u₂ (k + 1) p e
        goes_by b = record { stored = wrote; filling = λ c. filled_leaf g.0 f l s (omega (arith, sized)) c }
