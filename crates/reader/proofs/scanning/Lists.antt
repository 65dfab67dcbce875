-- What stands between brackets, in the first pass on plain values: items with commas up to a closing byte. Invariant of both loops: `Inside`.
use mathlib.Core.Path.{◌≡◌, refl, sym, ap, ◌∙◌}
use mathlib.Core.List.{List, [], ◌∷◌, ◌++◌}
use mathlib.Core.Bool.{false}
use Prim.Native.Nat.{ℕ, suc, ◌+◌, ◌*◌, ◌≤◌, ◌<◌}
use native.Mathlib.Omega.{arith}
use lib.ListN.{length, take, get_or, set}
use lib.Seq.{slice, slice_empty, take-set-le, get_or-set_same}
use Rattle.chars.specs.Bytes.{byte_at}
use Rattle.tokens.specs.Parse.{Parse, refused, parsed, then}
use Rattle.tokens.specs.Space.{is_space, skip}
use Rattle.chars.proofs.Facts.{run-from, run_within}
use Rattle.syntax.specs.Tree.{Node}
use Rattle.syntax.specs.Rows.{Entry, entry, size, entries}
use Rattle.syntax.specs.Grammar.{items_at, list_at}
use Rattle.marks.specs.Marks.{list_mark, is_name, mark_entry, mark_entries}
use Rattle.marks.specs.Names.{Fresh, Within, Index}
use Rattle.reader.specs.Scanning.{Room, Ready, ListFits, Follows, Told}
use Rattle.reader.specs.declared.scanning.Following.{Following}
use Rattle.reader.specs.declared.scanning.Following.TheVariants.{Closing, Item, Other}
use Rattle.reader.specs.declared.scanning.Scanned.{Scanned}
use Rattle.syntax.proofs.Facts.{Reads, item_takes, items_refused, items_next, items_close, items_bad, list_empty, list_items, byte_in}
use Rattle.marks.proofs.Facts.{list_entry, list_unnamed, entries_append, entries_cons, entries_none, same_below, fresh_later, fresh_set, within_empty}
use Rattle.marks.proofs.Facts.{within_none, within_join, within_set, index_plain}
use Rattle.reader.proofs.scanning.Slices.{slice_kept, slice_meet, slice_header, kept_below}
use Rattle.reader.proofs.scanning.Told.{told_refused, told_value, told_bad, unexpected_then}
use Rattle.std.specs.Prelude.{Ok, Err}
use Rattle.chars.specs.Refusals.{Reading}
use Rattle.chars.specs.declared.refusals.Refusal.{Refusal}
use Rattle.reader.specs.Scanning.{scanned}
use Rattle.chars.specs.Characters.{refusal_at}
use Rattle.chars.specs.declared.refusals.Code.TheVariants.{NotAllowed}

-- where the opening byte stands, how one more item is read, and what is made of all of them: an array (object is 0) or an object (1);
-- `keeps` is what is known, besides, of the marks behind its row: in an object, that they keep the members
pub record Bracket (s : List ℕ) (L : Type 0) : Type 1 where
  pub at : ℕ
  pub closing : ℕ
  pub object : ℕ
  pub item : L → ℕ → Parse L
  pub rows : L → ℕ
  pub kids : L → ℕ
  pub inner : L → List Entry
  pub node : L → ℕ → Node
  pub keeps : ℕ → List ℕ → L → Type 0
  pub some : 0 < closing
  pub other : closing ≡ 0x2C → ⊥
  pub kind : object < 2
  pub reads : Reads s rows item
  pub few : (all : L) → kids all ≤ rows all
  pub sized : (all : L) (e : ℕ) → size (node all e) ≡ suc (rows all)
  pub spelled : (all : L) (e : ℕ) → entries (node all e) ≡ entry (7 + object) at e (kids all) (suc (rows all)) ∷ inner all

-- the opening byte stands at `at`, and x at i, behind the space after it
pub record Opened (s hs ms : List ℕ) (d row at i x : ℕ) : Type 0 where
  pub ready : Ready s hs ms (d + 1) row at
  pub opens : at < length s
  pub place : i ≡ skip s (at + 1)
  pub byte : x ≡ byte_at s i

-- `before` was read so far, and its rows are kept behind the first; the rest of the whole begins at i. Up to the first row all is as it was
pub record Along {L : Type 0} {s : List ℕ} (b : Bracket s L) (o : Parse Node) (before : L) (d row : ℕ) (hs₀ ms₀ ms : List ℕ) (rows i : ℕ) : Type 0 where
  pub ready : Ready s hs₀ ms₀ (d + 1) row b.at
  pub whole : o ≡ then (items_at b.closing b.item s before i) (λ all e. parsed (b.node all e) e)
  pub counted : rows ≡ suc (b.rows before)
  pub spent : b.at + 2 * b.rows before + 1 ≤ i
  pub inside : i ≤ length s
  pub below : take (row + 1) ms ≡ take (row + 1) ms₀
  pub inner : mark_entries (slice (row + 1) (row + rows) ms) ≡ b.inner before
  pub marked : length ms ≡ length ms₀

-- the rows behind the first stand up to t, and their names are in the index
pub record Filled (s : List ℕ) (row : ℕ) (hs ms : List ℕ) (t : ℕ) : Type 0 where
  pub index : Index hs ms
  pub fresh : Fresh ms t
  pub owned : Within s ms row (row + 1) t

-- one more item was read, up to e, and its rows are kept
pub record Turn {L : Type 0} {s : List ℕ} (b : Bracket s L) (o : Parse Node) (d row : ℕ) (hs₀ ms₀ hs ms : List ℕ) (rows children i e more : ℕ) : Type 0 where
  pub before : L
  pub all : L
  pub along : Along b o before d row hs₀ ms₀ ms rows i
  pub item : b.item before i ≡ parsed all e
  pub adds : b.rows all ≡ b.rows before + more
  pub kept : b.inner all ≡ b.inner before ++ mark_entries (slice (row + rows) (row + (rows + more)) ms)
  pub filled : Filled s row hs ms (row + (rows + more))
  pub kids : children + 1 ≡ b.kids all
  pub headed : length hs ≡ length hs₀
  pub keeps : b.keeps row ms all

-- between the brackets, before the item at i
pub record Inside {L : Type 0} {s : List ℕ} (b : Bracket s L) (o : Parse Node) (d row : ℕ) (hs₀ ms₀ hs ms : List ℕ) (rows children i : ℕ) : Type 0 where
  pub before : L
  pub along : Along b o before d row hs₀ ms₀ ms rows i
  pub filled : Filled s row hs ms (row + rows)
  pub kids : children ≡ b.kids before
  pub headed : length hs ≡ length hs₀
  pub keeps : b.keeps row ms before

-- r stands behind the item that ends at e, and the space after it
pub record Followed {L : Type 0} {s : List ℕ} (b : Bracket s L) (o : Parse Node) (d row : ℕ) (hs₀ ms₀ hs ms : List ℕ)
    (rows children i e more : ℕ) (r : Following) : Type 0 where
  pub turn : Turn b o d row hs₀ ms₀ hs ms rows children i e more
  pub follows : Follows b.closing s (skip s e) r

-- the first row is written: a list's mark, where no name stood
module _ {s : List ℕ} {row : ℕ} {hs ms : List ℕ} {t : ℕ} (g : Filled s row hs ms t) (l : row < t) (w : row < length ms) (m : ℕ)
    (free : is_name (get_or ms row 0) ≡ false) (u : is_name m ≡ false) where
  pub header_index : Index hs (set ms row m)
  header_index = index_plain row m free u g.index

  pub header_fresh : Fresh (set ms row m) t
  header_fresh = fresh_set row m l g.fresh

  pub header_owned : Within s (set ms row m) row row t
  header_owned = within_join (within_none row (rw (get_or-set_same ms row m 0 w) u)) (within_set row m (omega arith) g.owned)

module _ {s hs ms : List ℕ} {d row at i x : ℕ} (h : Opened s hs ms d row at i x) where
  opened_inside : 0 < x → i < length s
  opened_inside l = byte_in s i x l (sym h.byte)

  opened_filled : Filled s row hs ms (row + 1)
  opened_filled = record { index = h.ready.index; fresh = fresh_later (omega arith) h.ready.fresh; owned = within_empty }

  module _ {L : Type 0} (b : Bracket s L) (same : at ≡ b.at) (empty : L)
      (none : b.rows empty ≡ 0) (nobody : b.kids empty ≡ 0) (nothing : b.inner empty ≡ []) where
    abbrev enclosed : Parse Node
    enclosed = then (list_at b.closing b.item s empty at) (λ all e. parsed (b.node all e) e)

    pub first_fits : x ≡ b.closing → ListFits b.object at (i + 1) 0 1 row (length ms)
    first_fits c =
        let r = h.ready in
        let j = opened_inside (omega (arith, b.some)) in
        let k = run-from is_space s (at + 1) in
        omega (arith, r.room.short, r.room.rows, r.rowed, h.place, b.kind)

    empty_told : x ≡ b.closing → Told s enclosed (Ok (scanned (i + 1) 1)) row ms hs (set ms row (list_mark b.object at (i + 1) 0 1))
    empty_told c =
        let f = first_fits c in
        let z : 1 ≡ suc (b.rows empty) = omega arith in
        let m = list_mark b.object at (i + 1) 0 1 in
        let y : size (b.node empty (i + 1)) ≡ 1 = b.sized empty (i + 1) ∙ sym z in
        let v = h.ready.fresh.none row (omega arith) in
        let u : is_name m ≡ false = list_unnamed b.object at (i + 1) 0 1 b.kind f.0 f.1 (omega arith) (omega arith) f.2 in
        told_value (b.node empty (i + 1)) (rw (list_empty b.closing b.item s empty at h.place (sym h.byte ∙ c))) (sym y)
        (record {
          index = header_index opened_filled (omega arith) f.4 m v u;
          fresh = rw y (header_fresh opened_filled (omega arith) f.4 m v u);
          below = take-set-le row ms row m (omega arith);
          rows =
              ap (λ (k : ℕ). mark_entries (slice row (row + k) (set ms row m))) y
              ∙ ap mark_entries (slice_header row (row + 1) m ms (omega arith) (omega (arith, f.4)) ∙ rw slice_empty)
              ∙ entries_cons m []
              ∙ ap (λ (ys : List Entry). mark_entry m ∷ ys) entries_none
              ∙ ap (λ (y : Entry). y ∷ []) (list_entry b.object at (i + 1) 0 1 b.kind f.0 f.1 (omega arith) (omega arith) f.2)
              ∙ sym (b.spelled empty (i + 1) ∙ rw (← same, nobody, ← z, nothing));
          owned = rw y (header_owned opened_filled (omega arith) f.4 m v u);
        })

    pub first_close : x ≡ b.closing → {r : Reading Scanned} {ms₂ : List ℕ} → (r ≡ Ok (scanned (i + 1) 1)) × (ms₂ ≡ set ms row (list_mark b.object at (i + 1) 0 1))
        → Told s enclosed r row ms hs ms₂
    first_close c z = rw (z.0, z.1) (empty_told c)

    first_along : (x ≡ b.closing → ⊥) → Along b enclosed empty d row hs ms ms 1 i
    first_along n =
        let l = run-from is_space s (at + 1) in
        record {
          ready = rw same at h.ready;
          whole = rw (list_items b.closing b.item s empty at h.place (λ q. n (h.byte ∙ q)));
          counted = omega arith;
          spent = omega (arith, h.place);
          inside = omega (arith, h.place, h.opens, run_within is_space s (at + 1) (omega (arith, h.opens)));
          below = refl;
          inner = ap mark_entries (slice_empty (row + 1) ms) ∙ entries_none ∙ sym nothing;
          marked = refl;
        }

    pub first_inside : b.keeps row ms empty → (x ≡ b.closing → ⊥) → Inside b enclosed d row hs ms hs ms 1 0 i
    first_inside k n = record { before = empty; along = first_along n; filled = opened_filled; kids = sym nobody; headed = refl; keeps = k }

module _ {L : Type 0} {s : List ℕ} {b : Bracket s L} {o : Parse Node} {before : L} {d row : ℕ} {hs₀ ms₀ ms : List ℕ} {rows i : ℕ}
    (h : Along b o before d row hs₀ ms₀ ms rows i) where
  along_room : Room s ms
  along_room = let r = h.ready.room in record { short = r.short; rows = omega (arith, r.rows, h.marked) }

  -- the next item's rows have their place
  along_rowed : 2 * (row + rows) + d ≤ i + 33
  along_rowed = omega (arith, h.ready.rowed, h.counted, h.spent)

  -- the first row is as it was found: no name's
  along_free : is_name (get_or ms row 0) ≡ false
  along_free = rw (same_below (row + 1) ms ms₀ h.below row (omega arith)) (h.ready.fresh.none row (omega arith))

  -- the rows so far are kept
  pub stays : {ms₂ : List ℕ} → take (row + rows) ms₂ ≡ take (row + rows) ms → length ms₂ ≡ length ms → Along b o before d row hs₀ ms₀ ms₂ rows i
  stays {ms₂} l q = record {
    ready = h.ready;
    whole = h.whole;
    counted = h.counted;
    spent = h.spent;
    inside = h.inside;
    below = kept_below (row + 1) (row + rows) ms₂ ms (omega (arith, h.counted)) l ∙ h.below;
    inner = ap mark_entries (slice_kept (row + 1) (row + rows) ms₂ ms l) ∙ h.inner;
    marked = q ∙ h.marked;
  }

module _ {L : Type 0} {s : List ℕ} {b : Bracket s L} {o : Parse Node} {d row : ℕ} {hs₀ ms₀ hs ms : List ℕ} {rows children i : ℕ}
    (h : Inside b o d row hs₀ ms₀ hs ms rows children i) where
  pub inside_ready : Ready s hs ms d (row + rows) i
  inside_ready =
      let a = h.along in
      record { room = along_room a; index = h.filled.index; fresh = h.filled.fresh; rowed = along_rowed a; inside = a.inside }

  pub inside_refused : {bad : Refusal} {hs₂ ms₂ : List ℕ} → b.item h.before i ≡ refused bad.code bad.place → Told s o (Err bad) row ms₀ hs₂ ms₂
  inside_refused q = told_refused (rw (h.along.whole, items_refused b.reads b.closing q))

module _ {L : Type 0} {s : List ℕ} {b : Bracket s L} {o : Parse Node} {d row : ℕ} {hs₀ ms₀ hs ms : List ℕ} {rows children i e more : ℕ}
    (t : Turn b o d row hs₀ ms₀ hs ms rows children i e more) where
  pub turn_takes : (i < e) × (e ≤ length s) × (rows + more ≤ e) × (b.at + 2 * b.rows t.all ≤ e)
      × (rows + more ≡ suc (b.rows t.all)) × (children + 1 ≤ e)
  turn_takes = omega (arith, item_takes b.reads t.item, t.adds, t.along.counted, t.along.spent, t.kids, b.few t.all)

  turn_inner : row + (rows + more) ≤ length ms → mark_entries (slice (row + 1) (row + (rows + more)) ms) ≡ b.inner t.all
  turn_inner l =
      let a = t.along in
      ap mark_entries (slice_meet (row + 1) (row + rows) (row + (rows + more)) ms (omega (arith, a.counted)) (omega arith) l)
      ∙ entries_append (slice (row + 1) (row + rows) ms) (slice (row + rows) (row + (rows + more)) ms)
      ∙ ap (λ (ys : List Entry). ys ++ mark_entries (slice (row + rows) (row + (rows + more)) ms)) a.inner
      ∙ sym t.kept

  -- j lies behind the item and the space after it
  module _ {j : ℕ} (z : j ≡ skip s e) where
    -- if a byte stands there, there is room for all rows
    turn_room : (x : ℕ) → 0 < x → byte_at s j ≡ x → (row + (rows + more) ≤ length ms) × (e ≤ j) × (j < length s)
    turn_room x l y =
        let a = t.along in
        omega (arith, turn_takes, a.ready.rowed, (along_room a).rows, run-from is_space s e, byte_in s j x l y)

    module _ (c : byte_at s j ≡ b.closing) where
      closing_room : (row + (rows + more) ≤ length ms) × (e ≤ j) × (j < length s)
      closing_room = turn_room b.closing b.some c

      closing_fits : ListFits b.object b.at (j + 1) (children + 1) (rows + more) row (length ms)
      closing_fits = omega (arith, turn_takes, closing_room, t.along.ready.room.short, b.few t.all, b.kind, t.kids)

      closing_told : Told s o (Ok (scanned (j + 1) (rows + more))) row ms₀ hs (set ms row (list_mark b.object b.at (j + 1) (children + 1) (rows + more)))
      closing_told =
          let f = closing_fits in
          let a = t.along in
          let g = t.filled in
          let m = list_mark b.object b.at (j + 1) (children + 1) (rows + more) in
          let u : rows + more ≡ suc (b.rows t.all) = turn_takes.4 in
          let w : size (b.node t.all (j + 1)) ≡ rows + more = b.sized t.all (j + 1) ∙ sym u in
          let v = list_unnamed b.object b.at (j + 1) (children + 1) (rows + more) b.kind f.0 f.1 (omega arith) f.3 f.2 in
          told_value (b.node t.all (j + 1)) (rw (a.whole, items_close b.reads b.closing t.item z b.other c)) (sym w)
          (record {
            index = header_index g (omega arith) f.4 m (along_free a) v;
            fresh = rw w (header_fresh g (omega arith) f.4 m (along_free a) v);
            below = take-set-le row ms row m (omega arith) ∙ kept_below row (row + 1) ms ms₀ (omega arith) a.below;
            rows =
                ap (λ (n : ℕ). mark_entries (slice row (row + n) (set ms row m))) w
                ∙ ap mark_entries (slice_header row (row + (rows + more)) m ms (omega arith) closing_room.0)
                ∙ entries_cons m (slice (row + 1) (row + (rows + more)) ms)
                ∙ ap (λ (ys : List Entry). mark_entry m ∷ ys) (turn_inner closing_room.0)
                ∙ ap (λ (y : Entry). y ∷ b.inner t.all)
                (list_entry b.object b.at (j + 1) (children + 1) (rows + more) b.kind f.0 f.1 (omega arith) f.3 f.2)
                ∙ sym (b.spelled t.all (j + 1) ∙ rw (← t.kids, ← u));
            owned = rw w (header_owned g (omega arith) f.4 m (along_free a) v);
          })

module _ {L : Type 0} {s : List ℕ} {b : Bracket s L} {o : Parse Node} {d row : ℕ} {hs₀ ms₀ hs ms : List ℕ} {rows children i e more : ℕ} {r : Following}
    (f : Followed b o d row hs₀ ms₀ hs ms rows children i e more r) where
  -- the closing byte
  module _ {j : ℕ} (q : r ≡ Closing j) where
    closed : (byte_at s (skip s e) ≡ b.closing) × (j ≡ skip s e + 1)
    closed = rw q at f.follows

    pub turn_fits : ListFits b.object b.at j (children + 1) (rows + more) row (length ms)
    turn_fits = rw closed.1 (closing_fits f.turn refl closed.0)

    pub turn_close : {w : Reading Scanned} {ms₂ : List ℕ}
        → (w ≡ Ok (scanned j (rows + more))) × (ms₂ ≡ set ms row (list_mark b.object b.at j (children + 1) (rows + more))) → Told s o w row ms₀ hs ms₂
    turn_close z = rw (z.0, z.1, closed.1) (closing_told f.turn refl closed.0)

  -- neither it nor a comma
  pub turn_bad : {j : ℕ} {bad : Refusal} {hs₂ ms₂ : List ℕ} → r ≡ Other j → bad ≡ refusal_at s j NotAllowed → Told s o (Err bad) row ms₀ hs₂ ms₂
  turn_bad {j} q u =
      let n : (j ≡ skip s e) × (byte_at s (skip s e) ≡ 0x2C → ⊥) × (byte_at s (skip s e) ≡ b.closing → ⊥) = rw q at f.follows in
      let y = ap (byte_at s) (sym n.0) in
      let t = f.turn in
      told_bad j (rw (t.along.whole, items_bad b.reads b.closing t.item n.0 (λ v. n.1 (y ∙ v)) (λ v. n.2 (y ∙ v)), unexpected_then)) u

  -- a comma, and the next item behind it
  module _ {i₂ : ℕ} (q : r ≡ Item i₂) where
    further : (byte_at s (skip s e) ≡ 0x2C) × (i₂ ≡ skip s (skip s e + 1))
    further = rw q at f.follows

    further_room : (row + (rows + more) ≤ length ms) × (e ≤ skip s e) × (skip s e < length s)
    further_room = turn_room f.turn refl 0x2C (omega arith) further.0

    pub turn_on : (i < e) × (e < i₂) × (i₂ ≤ length s)
    turn_on =
        let j = skip s e in
        omega (arith, turn_takes f.turn, further_room, further.1, run-from is_space s (j + 1), run_within is_space s (j + 1) (omega (arith, further_room)))

    pub turn_next : Inside b o d row hs₀ ms₀ hs ms (rows + more) (children + 1) i₂
    turn_next =
        let t = f.turn in
        let a = t.along in
        record {
          before = t.all;
          along = record {
            ready = a.ready;
            whole = rw (a.whole, items_next b.reads b.closing t.item refl further.0, ← further.1);
            counted = (turn_takes t).4;
            spent = omega (arith, turn_takes t, turn_on);
            inside = turn_on.2;
            below = a.below;
            inner = turn_inner t further_room.0;
            marked = a.marked;
          };
          filled = t.filled;
          kids = t.kids;
          headed = t.headed;
          keeps = t.keeps;
        }
