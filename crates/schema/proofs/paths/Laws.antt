-- The path to a value on plain values: its row is the first that begins at the place, and from there the sixth words lead up.
use Prim.Native.Nat.{ℕ, zero, suc, ◌+◌, ◌-◌, ◌*◌, ◌≤◌, ◌<◌}
use mathlib.Core.Path.{◌≡◌, refl, sym, ap, ◌∙◌}
use mathlib.Core.Bool.{Bool, true, false, cond, not, and-false}
use mathlib.Core.List.{List, [], ◌∷◌, ◌++◌, append_assoc}
use native.Mathlib.Omega.{arith}
use Rattle.std.specs.Prelude.{Option, Some, None}
use lib.ListN.{length, get_or, drop, set, length-append}
use lib.Seq.{drop-cons, set_at}
use lib.Dec.{eqb}
use borrow.Author.Tests.{eqb-true, ne_eqb}
use Rattle.model.proofs.Basics.{both, by_test, never}
use Rattle.syntax.specs.Tree.{Node, scalar, array, object, Nodes, none as no_Node, more, Members, no_member, member}
use Rattle.syntax.specs.Rows.{row_words, size, sizes, sizes_members}
use Rattle.syntax.specs.Holding.{word, Row, Holds, HoldsAll, HoldsMembers, Nested, NestedAll, NestedMembers}
use Rattle.syntax.proofs.Facts.{kind_small, holds_same, size_pos, Shallow, ShallowAll, ShallowMembers}
use Rattle.schema.specs.Paths.{Path, paths, paths_all, paths_members, path_to, list_after, Leads, top, up}
use Rattle.schema.specs.Climbing.{begins_at, first_at, ClimbReady, Climbed, PathReady, PathWritten}

-- ---- the first row that begins at a place

module _ (t : List ℕ) (x : ℕ) where
  abbrev or_else : Option ℕ → Option ℕ → Option ℕ
  or_else None b = b
  or_else (Some r) b = Some r

  first_split : (r j k : ℕ) → first_at t x r (j + k) ≡ or_else (first_at t x r j) (first_at t x (r + j) k)
  first_split r zero k =
      let e : 0 + k ≡ k = omega arith in
      let f : r + 0 ≡ r = omega arith in
      rw (e, f)
  first_split r (suc j) k =
      let e : suc j + k ≡ suc (j + k) = omega arith in
      let f : r + suc j ≡ r + 1 + j = omega arith in
      rw (e, f) (both (λ (o : Option ℕ). o ≡ or_else (cond (begins_at t x r) (Some r) (first_at t x (r + 1) j)) (first_at t x (r + 1 + j) k)) (begins_at t x r)
      (λ y. rw y) (λ n. rw n (first_split (r + 1) j k)))

  -- the next row begins there, or not
  abbrev left : (row rows : ℕ) → row < rows → rows - row ≡ suc (rows - (row + 1))
  left row rows l = omega arith

  pub first_name : {row rows : ℕ} → row < rows → word t row 0 ≡ 9 → first_at t x row (rows - row) ≡ first_at t x (row + 1) (rows - (row + 1))
  first_name {row} {rows} l e = rw (left row rows l, e)

  pub first_other : {row rows : ℕ} → row < rows → (word t row 1 ≡ x → ⊥) → first_at t x row (rows - row) ≡ first_at t x (row + 1) (rows - (row + 1))
  first_other {row} {rows} l n = rw (left row rows l, ne_eqb (word t row 1) x n, and-false (not (eqb (word t row 0) 9)))

  pub first_below : (r k : ℕ) {q : ℕ} → first_at t x r k ≡ Some q → q < r + k
  first_below r zero e = never (cc)
  first_below r (suc k) {q} e =
      both (λ (o : Option ℕ). o ≡ Some q → q < r + suc k) (begins_at t x r) (λ _ f. let z : r ≡ q = cc in omega arith)
      (λ _ f. omega (arith, first_below (r + 1) k f)) e

  -- a value's row, and a name's
  begins_value : {r k f e children rows : ℕ} → Row t r k f e children rows → (k ≡ 9 → ⊥) → begins_at t x r ≡ eqb f x
  begins_value {r} {k} {f} w n = rw (w.kind, w.first, ne_eqb k 9 n)

  begins_name : {r f e children rows : ℕ} → Row t r 9 f e children rows → begins_at t x r ≡ false
  begins_name w = rw w.kind

  -- the row of a path
  abbrev head_of : List ℕ → Option ℕ
  head_of [] = None
  head_of (r ∷ rs) = Some r

  to_append : (ps qs : List Path) → head_of (path_to x (ps ++ qs)) ≡ or_else (head_of (path_to x ps)) (head_of (path_to x qs))
  to_append [] qs = refl
  to_append (p ∷ ps) qs =
      both (λ (rs : List ℕ). head_of rs ≡ or_else (head_of (cond (eqb p.place x) (p.row ∷ p.around) (path_to x ps))) (head_of (path_to x qs)))
      (eqb p.place x) (λ y. rw y) (λ n. rw n (to_append ps qs))

  -- a value, and what is found in it
  step : (b : Bool) (r : ℕ) {o : Option ℕ} (around rs : List ℕ) → o ≡ head_of rs → cond b (Some r) o ≡ head_of (cond b (r ∷ around) rs)
  step true r around rs e = refl
  step false r around rs e = e

  mutual
    pub first_path : (around : List ℕ) (r : ℕ) (n : Node) → Holds t r n → first_at t x r (size n) ≡ head_of (path_to x (paths around r n))
    first_path around r (scalar k f e) h = rw (begins_value h (λ q. omega (arith, kind_small k))) (step (eqb f x) r around [] refl)
    first_path around r (array f e ns) h =
        rw (begins_value h.0 (λ q. omega arith))
        (step (eqb f x) r around (path_to x (paths_all (r ∷ around) (r + 1) ns)) (first_all (r ∷ around) (r + 1) ns h.1))
    first_path around r (object f e ms) h =
        rw (begins_value h.0 (λ q. omega arith))
        (step (eqb f x) r around (path_to x (paths_members (r ∷ around) (r + 1) ms)) (first_members (r ∷ around) (r + 1) ms h.1))

    first_all : (around : List ℕ) (r : ℕ) (ns : Nodes) → HoldsAll t r ns → first_at t x r (sizes ns) ≡ head_of (path_to x (paths_all around r ns))
    first_all around r no_Node h = refl
    first_all around r (more n ns) h =
        first_split r (size n) (sizes ns)
        ∙ rw (first_path around r n h.0, first_all around (r + size n) ns h.1)
        (sym (to_append (paths around r n) (paths_all around (r + size n) ns)))

    first_members : (around : List ℕ) (r : ℕ) (ms : Members) → HoldsMembers t r ms
        → first_at t x r (sizes_members ms) ≡ head_of (path_to x (paths_members around r ms))
    first_members around r no_member h = refl
    first_members around r (member f e n ms) h =
        rw (begins_name h.0)
        (first_split (r + 1) (size n) (sizes_members ms)
        ∙ rw (first_path around (r + 1) n h.1, first_members around (r + 1 + size n) ms h.2)
        (sym (to_append (paths around (r + 1) n) (paths_members around (r + 1 + size n) ms))))

-- ---- what holds of all paths

module _ (P : Path → Type 0) where
  abbrev pub AllPaths : List Path → Type 0
  AllPaths [] = Unit
  AllPaths (p ∷ ps) = P p × AllPaths ps

  pub all_append : (ps qs : List Path) → AllPaths ps → AllPaths qs → AllPaths (ps ++ qs)
  all_append [] qs h k = k
  all_append (p ∷ ps) qs h k = (h.0, all_append ps qs h.1 k)

  -- the one that is picked
  pub picked : (x : ℕ) (ps : List Path) → AllPaths ps → (path_to x ps ≡ [] → ⊥) → (p : Path) × P p × (p.place ≡ x) × (path_to x ps ≡ (p.row ∷ p.around))
  picked x [] h n = absurd (n refl)
  picked x (p ∷ ps) h n =
      by_test (eqb p.place x) (λ y. (p, h.0, eqb-true p.place x y, rw y))
      (λ m. let q = picked x ps h.1 (λ e. n (rw m e)) in (q.0, q.1, q.2, rw m q.3))

-- the sixth words lead from it up
abbrev pub LeadsUp : List ℕ → Path → Type 0
LeadsUp t p = Leads t p.row (p.row ∷ p.around)

module _ (t : List ℕ) where
  nested_row : (p r : ℕ) (n : Node) → Nested t p r n → word t r 5 ≡ p
  nested_row p r (scalar k f e) h = h
  nested_row p r (array f e ns) h = h.0
  nested_row p r (object f e ms) h = h.0

  -- one step more
  step_up : (p r : ℕ) (n : Node) {around : List ℕ} → Nested t p r n → p < r → Leads t p (p ∷ around) → Leads t r (r ∷ p ∷ around)
  step_up p r n {around} h l k = let e : word t r 5 ≡ p = nested_row p r n h in up {r = r} {rows = p ∷ around} (rw e l) (rw e k)

  mutual
    pub all_lead : (around : List ℕ) (p r : ℕ) (n : Node) → Nested t p r n → Leads t r (r ∷ around) → AllPaths (LeadsUp t) (paths around r n)
    all_lead around p r (scalar k f e) h l = (l, tt)
    all_lead around p r (array f e ns) h l = (l, lead_all around r (r + 1) ns (omega arith) h.1 l)
    all_lead around p r (object f e ms) h l = (l, lead_members around r (r + 1) ms (omega arith) h.1 l)

    lead_all : (around : List ℕ) (p r : ℕ) (ns : Nodes) → p < r → NestedAll t p r ns → Leads t p (p ∷ around)
        → AllPaths (LeadsUp t) (paths_all (p ∷ around) r ns)
    lead_all around p r no_Node b h l = tt
    lead_all around p r (more n ns) b h l =
        all_append (LeadsUp t) (paths (p ∷ around) r n) (paths_all (p ∷ around) (r + size n) ns)
        (all_lead (p ∷ around) p r n h.0 (step_up p r n h.0 b l)) (lead_all around p (r + size n) ns (omega arith) h.1 l)

    lead_members : (around : List ℕ) (p r : ℕ) (ms : Members) → p < r → NestedMembers t p r ms → Leads t p (p ∷ around)
        → AllPaths (LeadsUp t) (paths_members (p ∷ around) r ms)
    lead_members around p r no_member b h l = tt
    lead_members around p r (member f e n ms) b h l =
        all_append (LeadsUp t) (paths (p ∷ around) (r + 1) n) (paths_members (p ∷ around) (r + 1 + size n) ms)
        (all_lead (p ∷ around) p (r + 1) n h.1 (step_up p (r + 1) n h.1 (omega arith) l)) (lead_members around p (r + 1 + size n) ms (omega arith) h.2 l)

-- one of a tree with at most d brackets open at once, around which k rows stand
abbrev pub Short : ℕ → Path → Type 0
Short k p = length (p.row ∷ p.around) ≤ k

mutual
  pub all_short : (k d : ℕ) (around : List ℕ) (r : ℕ) (n : Node) → Shallow d n → suc (length around) + d ≤ k → AllPaths (Short k) (paths around r n)
  all_short k d around r (scalar k₂ f e) h l = (omega arith, tt)
  all_short k zero around r (array f e ns) h l = absurd h
  all_short k (suc d) around r (array f e ns) h l = (omega arith, short_all k d (r ∷ around) (r + 1) ns h (omega arith))
  all_short k zero around r (object f e ms) h l = absurd h
  all_short k (suc d) around r (object f e ms) h l = (omega arith, short_members k d (r ∷ around) (r + 1) ms h (omega arith))

  short_all : (k d : ℕ) (around : List ℕ) (r : ℕ) (ns : Nodes) → ShallowAll d ns → suc (length around) + d ≤ k → AllPaths (Short k) (paths_all around r ns)
  short_all k d around r no_Node h l = tt
  short_all k d around r (more n ns) h l =
      all_append (Short k) (paths around r n) (paths_all around (r + size n) ns)
      (all_short k d around r n h.0 l) (short_all k d around (r + size n) ns h.1 l)

  short_members : (k d : ℕ) (around : List ℕ) (r : ℕ) (ms : Members) → ShallowMembers d ms → suc (length around) + d ≤ k
      → AllPaths (Short k) (paths_members around r ms)
  short_members k d around r no_member h l = tt
  short_members k d around r (member f e n ms) h l =
      all_append (Short k) (paths around (r + 1) n) (paths_members around (r + 1 + size n) ms)
      (all_short k d around (r + 1) n h.0 l) (short_members k d around (r + 1 + size n) ms h.1 l)

-- ---- going up

-- one word more
listed : (rows list : List ℕ) (r : ℕ) {n : ℕ} → n ≡ length rows → n < length list → set (list_after rows list) n r ≡ list_after (rows ++ (r ∷ [])) list
listed rows list r {n} e l =
    let d : drop (length rows) list ≡ get_or list (length rows) 0 ∷ drop (suc (length rows)) list = drop-cons list (length rows) 0 (omega arith) in
    let k : suc (length rows) ≡ length (rows ++ (r ∷ [])) = omega (arith, length-append rows (r ∷ [])) in
    rw d (set_at rows (get_or list (length rows) 0) (drop (suc (length rows)) list) r n (sym e)
    ∙ sym (append_assoc rows (r ∷ []) (drop (suc (length rows)) list)) ∙ ap (λ (j : ℕ). (rows ++ (r ∷ [])) ++ drop j list) k)

-- there is one way up
pub leads_one : {t : List ℕ} {r : ℕ} {rows rows₂ : List ℕ} → Leads t r rows → Leads t r rows₂ → rows ≡ rows₂
leads_one top top = refl
leads_one top (up l h) = absurd (omega arith)
leads_one (up l h) top = absurd (omega arith)
leads_one {r = r} (up l h) (up m k) = ap (λ (rs : List ℕ). r ∷ rs) (leads_one h k)

-- the rows passed are listed, and those from `row` on are ahead
pub record OnTheWay (t : List ℕ) (from : ℕ) (list₀ list : List ℕ) (row n : ℕ) : Type 0 where
  pub passed : List ℕ
  pub ahead : List ℕ
  pub whole : Leads t from (passed ++ ahead)
  pub leads : Leads t row ahead
  pub counts : n ≡ length passed
  pub listed : list ≡ list_after passed list₀
  pub few : length (passed ++ ahead) ≤ length list₀
  pub below : row ≤ from

leads_up : {t : List ℕ} {r : ℕ} {rows : List ℕ} → Leads t r rows → 0 < r
    → (rest : List ℕ) × (rows ≡ r ∷ rest) × (word t r 5 < r) × Leads t (word t r 5) rest
leads_up top l = absurd (omega arith)
leads_up (up {rows = rows} m h) l = (rows, refl, m, h)

leads_top : {t : List ℕ} {r : ℕ} {rows : List ℕ} → Leads t r rows → r ≤ 0 → rows ≡ 0 ∷ []
leads_top top l = refl
leads_top (up m h) l = absurd (omega arith)

pub way_begins : {t : List ℕ} {from : ℕ} {list : List ℕ} → ClimbReady t from list → OnTheWay t from list list from 0
way_begins h = record {
  passed = [];
  ahead = h.rows;
  whole = h.leads;
  leads = h.leads;
  counts = refl;
  listed = refl;
  few = h.few;
  below = omega arith;
}

module _ {t : List ℕ} {from : ℕ} {list₀ list : List ℕ} {row n : ℕ} (w : OnTheWay t from list₀ list row n) where
  -- a row below the top
  module _ (l : 0 < row) where
    abbrev next : (rest : List ℕ) × (w.ahead ≡ row ∷ rest) × (word t row 5 < row) × Leads t (word t row 5) rest
    next = leads_up w.leads l

    pub way_room : n < length list₀
    way_room = omega (arith, w.counts, w.few, length-append w.passed w.ahead, ap length next.1)

    pub way_less : {up : ℕ} → up ≡ word t row 5 → up < row
    way_less e = omega (arith, next.2)

    pub way_on : {up : ℕ} → up ≡ word t row 5 → OnTheWay t from list₀ (set list n row) up (n + 1)
    way_on {up} e =
        let rest = next.0 in
        let q : w.passed ++ w.ahead ≡ (w.passed ++ (row ∷ [])) ++ rest =
        ap (λ (rs : List ℕ). w.passed ++ rs) next.1 ∙ sym (append_assoc w.passed (row ∷ []) rest) in
        record {
          passed = w.passed ++ (row ∷ []);
          ahead = rest;
          whole = rw q at w.whole;
          leads = rw e next.3;
          counts = omega (arith, w.counts, length-append w.passed (row ∷ []));
          listed = ap (λ (l : List ℕ). set l n row) w.listed ∙ listed w.passed list₀ row w.counts way_room;
          few = rw q at w.few;
          below = omega (arith, w.below, way_less e);
        }

  -- the top
  module _ (l : row ≤ 0) where
    pub top_room : n < length list₀
    top_room = omega (arith, w.counts, w.few, length-append w.passed w.ahead, ap length (leads_top w.leads l))

    pub way_ends : Climbed t from (n + 1) list₀ (set list n 0)
    way_ends =
        let rows = w.passed ++ (0 ∷ []) in
        let whole : Leads t from rows = rw (leads_top w.leads l) at w.whole in
        record {
          tells = λ rows₂ h. let e : rows ≡ rows₂ = leads_one whole h in (
            omega (arith, w.counts, length-append w.passed (0 ∷ []), ap length e),
            ap (λ (l : List ℕ). set l n 0) w.listed ∙ listed w.passed list₀ 0 w.counts top_room ∙ ap (λ (rs : List ℕ). list_after rs list₀) e,
          );
        }

-- ---- the whole path

-- the row that is found, and the path from there
module _ {t : List ℕ} {x : ℕ} {list : List ℕ} (h : PathReady t x list) where
  abbrev tree : Node
  tree = h.tree

  abbrev pub found : (p : Path) × LeadsUp t p × (p.place ≡ x) × (path_to x (paths [] 0 tree) ≡ (p.row ∷ p.around))
  found = picked (LeadsUp t) x (paths [] 0 tree) (all_lead t [] 0 0 tree h.nested top) h.found

  -- the top's row says how many there are
  pub path_rows : (word t 0 4 ≡ size tree) × (row_words * (0 + size tree) ≤ length t) × (0 < size tree)
  path_rows = ((rows_said tree h.holds).0, (rows_said tree h.holds).1, size_pos tree)
    where
      rows_said : (n : Node) → Holds t 0 n → (word t 0 4 ≡ size n) × (row_words * (0 + size n) ≤ length t)
      rows_said (scalar k f e) g = (g.subtree, g.room)
      rows_said (array f e ns) g = (g.0.subtree, g.0.room)
      rows_said (object f e ms) g = (g.0.subtree, g.0.room)

  pub first_found : {rows : ℕ} → rows ≡ word t 0 4 → first_at t x 0 rows ≡ Some found.0.row
  first_found e = rw (e, path_rows.0) (first_path t x [] 0 tree h.holds ∙ ap (head_of t x) found.3)

  -- the row that was found
  pub found_row : {rows : ℕ} → rows ≡ word t 0 4 → {r : ℕ} → first_at t x 0 rows ≡ Some r → (r ≡ found.0.row) × (r < size tree)
  found_row {rows} e {r} q =
      let f = first_found e in
      let z : r ≡ found.0.row = cc in
      (z, omega (arith, e, path_rows.0, first_below t x 0 rows q))

  pub path_climbs : {r : ℕ} → (r ≡ found.0.row) × (r < size tree) → ClimbReady t r list
  path_climbs {r} e = record {
    rows = path_to x (paths [] 0 tree);
    leads = rw (e.0, found.3) found.1;
    few = h.few;
    inside = omega (arith, path_rows.1);
    small = omega (arith, h.small);
  }

  pub path_written : {r : ℕ} → r ≡ found.0.row → {k : ℕ} {list₂ : List ℕ} → Climbed t r k list list₂ → PathWritten t x k list list₂
  path_written {r} e {k} {list₂} c = record {
    tells = λ n g. let q : tree ≡ n = holds_same t 0 tree n h.holds g in rw (← q) (c.tells (path_to x (paths [] 0 tree)) (rw (e, found.3) found.1));
  }
