-- The rows of the marks of a tree are the tree's: each stands in the last row before it whose subtree holds it.
use mathlib.Core.Path.{◌≡◌, sym, ap, ap₂, ◌∙◌}
use mathlib.Core.List.{List}
use Prim.Native.Nat.{ℕ, suc, ◌+◌, ◌-◌, ◌≤◌, ◌<◌}
use native.Mathlib.Omega.{arith}
use lib.ListN.{length, get_or, take}
use lib.Seq.{length-take-le, get_or-take, ext_get_or}
use lib.Dec.{ltb}
use borrow.Author.Tests.{ltb-true, ltb-false}
use Rattle.model.proofs.Basics.{by_test}
use Rattle.syntax.specs.Tree.{Node, scalar, array, object, Nodes, none, more, Members, no_member, member}
use Rattle.syntax.specs.Rows.{Entry, size, sizes, sizes_members, entries, entries_all, entries_members, parents, parents_all, parents_members, lay_out, words}
use Rattle.syntax.proofs.Facts.{entries_length, parents_length, no_entry, Each, each, each_left, each_right, each_join, each_at}
use Rattle.marks.specs.Marks.{mark_entry, mark_entries}
use Rattle.marks.specs.Filling.{last_open, parents_to, mark_size, mark_words, FillReady}
use Rattle.marks.proofs.marks.Laws.{marks_at}
use Rattle.marks.proofs.filling.Laws.{last_is, parents_count, parents_at}

module _ (rows : ℕ → ℕ) where
  -- a row has as many rows as its entry says
  abbrev Sized : ℕ → Entry → Type 0
  Sized r x = rows r ≡ x.rows

  -- the subtrees from row r up to row e end there
  abbrev Ending : ℕ → ℕ → Type 0
  Ending r e = (j : ℕ) → r ≤ j → j < e → j + rows j ≤ e

  ending_join : {r m e : ℕ} → m ≤ e → Ending r m → Ending m e → Ending r e
  ending_join {r} {m} {e} l f g j a b =
      by_test (ltb j m) (λ y. omega (arith, f j a (ltb-true j m y))) (λ n. g j (ltb-false j m n) b)

  -- behind a row
  ending_row : {r e : ℕ} → r + rows r ≤ e → Ending (r + 1) e → Ending r e
  ending_row {r} {e} l f j a b =
      by_test (ltb r j) (λ y. f j (omega (arith, ltb-true r j y)) b) (λ n. let q : j ≡ r = omega (arith, ltb-false r j n) in rw q l)

  ending_none : {r e : ℕ} → e ≤ r → Ending r e
  ending_none l j a b = absurd (omega arith)

  mutual
    ends : (r : ℕ) (n : Node) → Each Sized r (entries n) → Ending r (r + size n)
    ends r (scalar k f e) h = ending_row (omega (arith, h.0)) (ending_none (omega arith))
    ends r (array f e ns) h =
        let q : r + 1 + sizes ns ≡ r + size (array f e ns) = omega arith in
        ending_row (omega (arith, h.0)) (rw q at (ends_all (r + 1) ns h.1))
    ends r (object f e ms) h =
        let q : r + 1 + sizes_members ms ≡ r + size (object f e ms) = omega arith in
        ending_row (omega (arith, h.0)) (rw q at (ends_members (r + 1) ms h.1))

    ends_all : (r : ℕ) (ns : Nodes) → Each Sized r (entries_all ns) → Ending r (r + sizes ns)
    ends_all r none h = ending_none (omega arith)
    ends_all r (more n ns) h =
        let q : r + size n + sizes ns ≡ r + sizes (more n ns) = omega arith in
        ending_join (omega arith) (ends r n (each_left Sized r (entries n) (entries_all ns) h))
        (rw q at (ends_all (r + size n) ns (each_right Sized r (entries n) (entries_all ns) (omega (arith, entries_length n)) h)))

    ends_members : (r : ℕ) (ms : Members) → Each Sized r (entries_members ms) → Ending r (r + sizes_members ms)
    ends_members r no_member h = ending_none (omega arith)
    ends_members r (member f e n ms) h =
        let q : r + 1 + size n + sizes_members ms ≡ r + sizes_members (member f e n ms) = omega arith in
        ending_row (omega (arith, h.0))
        (ending_join (omega arith) (ends (r + 1) n (each_left Sized (r + 1) (entries n) (entries_members ms) h.1))
        (rw q at (ends_members (r + 1 + size n) ms (each_right Sized (r + 1) (entries n) (entries_members ms) (omega (arith, entries_length n)) h.1))))

  -- row r stands in row p, and ends in it
  abbrev StandsIn : ℕ → ℕ → Type 0
  StandsIn r p = (last_open rows r r ≡ p) × (r + rows r ≤ p + rows p)

  -- row p holds the rows from r up to e, and those between p and r have ended
  record Around (p r e : ℕ) : Type 0 where
    below : p ≤ r - 1
    closed : Ending (p + 1) r
    holds : e ≤ p + rows p

  around : {p r e : ℕ} → Around p r e → r < e → r + rows r ≤ e → StandsIn r p
  around {p} {r} a l m =
      (last_is rows r r p a.below (λ j b c. a.closed j (omega arith) c) (λ z. omega (arith, a.holds)), omega (arith, a.holds))

  narrower : {p r e f : ℕ} → f ≤ e → Around p r e → Around p r f
  narrower l a = record { below = a.below; closed = a.closed; holds = omega (arith, a.holds) }

  behind : {p r m e : ℕ} → r ≤ m → Ending r m → Around p r e → Around p m e
  behind {p} {r} {m} l f a = record {
    below = omega (arith, a.below);
    closed = by_test (ltb p r) (λ y. let q = ltb-true p r y in λ j b c. by_test (ltb j r) (λ z. omega (arith, a.closed j b (ltb-true j r z))) (λ z. f j (ltb-false j r z) c))
        (λ n. λ j b c. f j (omega (arith, ltb-false p r n)) c);
    holds = a.holds;
  }

  -- the row itself, of what stands in it
  inside : {r k : ℕ} → rows r ≡ k → Around r (r + 1) (r + k)
  inside e = record { below = omega arith; closed = λ j b c. absurd (omega arith); holds = omega (arith, e) }

  mutual
    stand : (p r : ℕ) (n : Node) → Each Sized r (entries n) → Around p r (r + size n) → Each StandsIn r (parents p r n)
    stand p r (scalar k f e) h a = (around a (omega arith) (omega (arith, h.0)), tt)
    stand p r (array f e ns) h a =
        let q : r + suc (sizes ns) ≡ r + 1 + sizes ns = omega arith in
        (around a (omega arith) (omega (arith, h.0)), stand_all r (r + 1) ns h.1 (rw q at (inside h.0)))
    stand p r (object f e ms) h a =
        let q : r + suc (sizes_members ms) ≡ r + 1 + sizes_members ms = omega arith in
        (around a (omega arith) (omega (arith, h.0)), stand_members r (r + 1) ms h.1 (rw q at (inside h.0)))

    stand_all : (p r : ℕ) (ns : Nodes) → Each Sized r (entries_all ns) → Around p r (r + sizes ns) → Each StandsIn r (parents_all p r ns)
    stand_all p r none h a = tt
    stand_all p r (more n ns) h a =
        let x = each_left Sized r (entries n) (entries_all ns) h in
        let y : Each Sized (r + size n) (entries_all ns) = each_right Sized r (entries n) (entries_all ns) (omega (arith, entries_length n)) h in
        let q : r + (size n + sizes ns) ≡ r + size n + sizes ns = omega arith in
        each_join StandsIn r (parents p r n) (parents_all p (r + size n) ns) (omega (arith, parents_length p r n))
        (stand p r n x (narrower (omega arith) a))
        (stand_all p (r + size n) ns y (behind (omega arith) (ends r n x) (rw q at a)))

    stand_members : (p r : ℕ) (ms : Members) → Each Sized r (entries_members ms) → Around p r (r + sizes_members ms)
        → Each StandsIn r (parents_members p r ms)
    stand_members p r no_member h a = tt
    stand_members p r (member f e n ms) h a =
        let x = each_left Sized (r + 1) (entries n) (entries_members ms) h.1 in
        let y : Each Sized (r + 1 + size n) (entries_members ms) =
        each_right Sized (r + 1) (entries n) (entries_members ms) (omega (arith, entries_length n)) h.1 in
        let q : r + suc (size n + sizes_members ms) ≡ r + 1 + size n + sizes_members ms = omega arith in
        let b : Around p (r + 1) (r + 1 + size n + sizes_members ms) =
        behind (omega arith) (ending_row (omega (arith, h.0)) (ending_none (omega arith))) (rw q at a) in (
          around a (omega arith) (omega (arith, h.0)),
          each_join StandsIn (r + 1) (parents p (r + 1) n) (parents_members p (r + 1 + size n) ms) (omega (arith, parents_length p (r + 1) n))
              (stand p (r + 1) n x (narrower (omega arith) b))
              (stand_members p (r + 1 + size n) ms y (behind (omega arith) (ends (r + 1) n x) b)),
        )

-- the marks of a tree
module _ (ms : List ℕ) (n : Node) (l : size n ≤ length ms) (h : mark_entries (take (size n) ms) ≡ entries n) where
  marked_sizes : Each (Sized (mark_size ms)) 0 (entries n)
  marked_sizes =
      each (Sized (mark_size ms)) no_entry 0 (entries n) (λ j m.
      let z : 0 + j ≡ j = omega arith in
      let b : j < size n = omega (arith, entries_length n) in
      rw z (ap (λ (x : Entry). x.rows)
      (ap mark_entry (sym (get_or-take (size n) ms j 0 b)) ∙ sym (marks_at (take (size n) ms) j (omega (arith, length-take-le (size n) ms l)))
      ∙ ap (λ (xs : List Entry). get_or xs j no_entry) h)))

  -- the top has all rows
  marked_top : mark_size ms 0 ≡ size n
  marked_top = go n marked_sizes
    where
      go : (m : Node) → Each (Sized (mark_size ms)) 0 (entries m) → mark_size ms 0 ≡ size m
      go (scalar k f e) g = g.0
      go (array f e ns) g = g.0
      go (object f e ms) g = g.0

  -- each stands where the tree says, and ends there
  stands : Each (StandsIn (mark_size ms)) 0 (parents 0 0 n)
  stands =
      stand (mark_size ms) 0 0 n marked_sizes
      (record { below = omega arith; closed = λ j b c. absurd (omega arith); holds = omega (arith, marked_top) })

  stands_at : (j : ℕ) → j < size n → StandsIn (mark_size ms) j (get_or (parents 0 0 n) j 0)
  stands_at j l =
      let z : 0 + j ≡ j = omega arith in
      rw z at (each_at (StandsIn (mark_size ms)) 0 0 (parents 0 0 n) stands j (omega (arith, parents_length 0 0 n)))

  pub tree_fills : size n ≤ 65536 → FillReady ms (size n)
  tree_fills m = record {
    few = l;
    small = m;
    top = λ _. marked_top;
    within = λ j b. omega (arith, ends (mark_size ms) 0 n marked_sizes j (omega arith) (omega arith));
    nests = λ j b. let s = stands_at j b in rw s.0 s.1;
  }

  marked_parents : parents_to (mark_size ms) (size n) ≡ parents 0 0 n
  marked_parents =
      ext_get_or 0 (parents_to (mark_size ms) (size n)) (parents 0 0 n) (omega (arith, parents_count (mark_size ms) (size n), parents_length 0 0 n))
      (λ j m. let b : j < size n = omega (arith, parents_count (mark_size ms) (size n)) in parents_at (mark_size ms) (size n) j b ∙ (stands_at j b).0)

  pub tree_words : mark_words ms (size n) ≡ words n
  tree_words = ap₂ lay_out h marked_parents
