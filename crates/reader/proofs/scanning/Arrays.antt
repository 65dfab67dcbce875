-- Arrays in the first pass: the loop over elements, whose invariant is `InArray`, by the laws of `Lists`.
use mathlib.Core.Path.{◌≡◌, refl, sym, ap, ◌∙◌}
use mathlib.Core.List.{List, ◌++◌}
use Prim.Native.Nat.{ℕ, ◌+◌}
use native.Mathlib.Omega.{arith}
use lib.ListN.{length, set}
use lib.Seq.{slice}
use Rattle.tokens.specs.Parse.{Parse, parsed, then}
use Rattle.syntax.specs.Tree.{Node, array, Nodes, none, add_node}
use Rattle.syntax.specs.Rows.{Entry, count, size, sizes, entries_all}
use Rattle.syntax.specs.Grammar.{element_at, array_at, value_at}
use Rattle.marks.specs.Marks.{list_mark, mark_entries}
use Rattle.reader.specs.Scanning.{ListFits, Told}
use Rattle.reader.specs.declared.scanning.Following.{Following}
use Rattle.reader.specs.declared.scanning.Scanned.{Scanned}
use Rattle.syntax.proofs.Facts.{sizes_add, count_add, count_few, entries_all_add, element_reads}
use Rattle.reader.proofs.scanning.Outcomes.{scan_refused}
use Rattle.marks.proofs.Facts.{within_join, within_wider, within_kept}
use Rattle.reader.proofs.scanning.Told.{told_parsed}
use Rattle.reader.proofs.scanning.Lists.{Bracket, Opened, Filled, Turn, Inside, Followed, first_fits, first_close, first_inside, stays, inside_refused}
use Rattle.std.specs.Prelude.{Ok, Err}
use Rattle.chars.specs.Refusals.{Reading}
use Rattle.chars.specs.declared.refusals.Refusal.{Refusal}
use Rattle.reader.specs.Scanning.{scanned}

abbrev pub array_of : (s : List ℕ) → ℕ → ℕ → Bracket s Nodes
array_of s d at = record {
  at = at;
  closing = 0x5D;
  object = 0;
  item = element_at (value_at d s);
  rows = sizes;
  kids = count;
  inner = entries_all;
  node = λ ns e. array at e ns;
  keeps = λ row ms ns. Unit;
  some = omega arith;
  other = λ q. omega arith;
  kind = omega arith;
  reads = element_reads s d;
  few = count_few;
  sized = λ ns e. refl;
  spelled = λ ns e. refl;
}

-- in an array whose bracket stands at `at`, with d more brackets allowed to open in it
abbrev pub InArray : (s : List ℕ) (d at row : ℕ) (hs₀ ms₀ hs ms : List ℕ) (rows children i : ℕ) → Type 0
InArray s d at row = Inside (array_of s d at) (array_at (value_at d s) s at) d row

-- r is told of the element at i
pub record ElementSaid (s : List ℕ) (d at row : ℕ) (hs₀ ms₀ hs ms : List ℕ) (rows children i : ℕ) (r : Reading Scanned) : Type 0 where
  pub heads : List ℕ
  pub marks : List ℕ
  pub inside : InArray s d at row hs₀ ms₀ heads marks rows children i
  pub told : Told s (value_at d s i) r (row + rows) marks hs ms
  pub headed : length hs ≡ length heads
  pub marked : length ms ≡ length marks

-- one more element was read, up to e
abbrev pub ElementTurn : (s : List ℕ) (d at row : ℕ) (hs₀ ms₀ hs ms : List ℕ) (rows children i e more : ℕ) → Type 0
ElementTurn s d at row = Turn (array_of s d at) (array_at (value_at d s) s at) d row

-- and r stands behind it
abbrev pub ElementFollowed : (s : List ℕ) (d at row : ℕ) (hs₀ ms₀ hs ms : List ℕ) (rows children i e more : ℕ) → Following → Type 0
ElementFollowed s d at row = Followed (array_of s d at) (array_at (value_at d s) s at) d row

module _ {s hs ms : List ℕ} {d row at i x : ℕ} (h : Opened s hs ms d row at i x) where
  pub array_empty_fits : x ≡ 0x5D → ListFits 0 at (i + 1) 0 1 row (length ms)
  array_empty_fits = first_fits h (array_of s d at) refl none refl refl refl

  pub array_empty : x ≡ 0x5D → {r : Reading Scanned} {ms₂ : List ℕ} → (r ≡ Ok (scanned (i + 1) 1)) × (ms₂ ≡ set ms row (list_mark 0 at (i + 1) 0 1))
      → Told s (array_at (value_at d s) s at) r row ms hs ms₂
  array_empty = first_close h (array_of s d at) refl none refl refl refl

  pub array_first : (x ≡ 0x5D → ⊥) → InArray s d at row hs ms hs ms 1 0 i
  array_first = first_inside h (array_of s d at) refl none refl refl refl tt

module _ {s : List ℕ} {d at row : ℕ} {hs₀ ms₀ hs ms : List ℕ} {rows children i : ℕ} {r : Reading Scanned}
    (a : ElementSaid s d at row hs₀ ms₀ hs ms rows children i r) where
  pub array_refused : {bad : Refusal} → r ≡ Err bad → Told s (array_at (value_at d s) s at) (Err bad) row ms₀ hs ms
  array_refused q = inside_refused a.inside (rw (scan_refused (value_at d s i) (sym a.told.scan ∙ q)))

  pub array_turn : {e more : ℕ} → r ≡ Ok (scanned e more) → ElementTurn s d at row hs₀ ms₀ hs ms rows children i e more
  array_turn {e} {more} q =
      let h = a.inside in
      let v = told_parsed a.told q in
      let n = v.0 in
      let m = v.3 in
      let w : row + rows + size n ≡ row + (rows + more) = omega (arith, v.2) in
      let g : Filled s row hs ms (row + rows + size n) = record {
        index = m.index;
        fresh = m.fresh;
        owned = within_join (within_kept m.below h.filled.owned) (within_wider (omega arith) m.owned);
      } in
      record {
        before = h.before;
        all = add_node h.before n;
        along = stays h.along m.below a.marked;
        item = ap (λ (x : Parse Node). then x (λ n f. parsed (add_node h.before n) f)) v.1;
        adds = omega (arith, sizes_add h.before n, v.2);
        kept =
            entries_all_add h.before n
            ∙ ap (λ (ys : List Entry). entries_all h.before ++ ys) (sym m.rows ∙ ap (λ (t : ℕ). mark_entries (slice (row + rows) t ms)) w);
        filled = rw w at g;
        kids = omega (arith, h.kids, count_add h.before n);
        headed = a.headed ∙ h.headed;
        keeps = tt;
      }
