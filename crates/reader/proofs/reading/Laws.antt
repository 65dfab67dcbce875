-- A whole text on plain values: what both passes are given and what they tell of it, and how the answer follows.
use mathlib.Core.Path.{◌≡◌, refl, sym, ap, ◌∙◌}
use mathlib.Core.List.{List}
use Prim.Native.Nat.{ℕ, zero, suc, min, ◌+◌, ◌≤◌, ◌<◌}
use native.Mathlib.Omega.{arith}
use lib.ListN.{length, get_or, take, replicate, length-replicate}
use lib.Seq.{sets}
use borrow.Author.Tests.{lt-ltb, le-ltb}
use Rattle.tokens.specs.Parse.{Parse, refused, parsed}
use Rattle.tokens.specs.Space.{is_space, skip}
use Rattle.chars.proofs.Facts.{run_within}
use Rattle.syntax.specs.Tree.{Node}
use Rattle.syntax.specs.Rows.{size, entries, words}
use Rattle.syntax.specs.Grammar.{value_at, alone, whole_at, read_text}
use Rattle.syntax.specs.Answer.{rows_in as roomIn, answer, answer_of, table_of, read_within}
use Rattle.marks.specs.Marks.{mark_entries}
use Rattle.marks.specs.Filling.{mark_words, FillReady}
use Rattle.reader.specs.Scanning.{scan_of, CanHold, Ready, Marked, Told}
use Rattle.syntax.specs.declared.answers.Answer.{Answer}
use Rattle.syntax.specs.declared.limits.Limits.{Limits}
use Rattle.reader.specs.declared.scanning.Scanned.{Scanned}
use Rattle.syntax.proofs.Facts.{value_takes}
use Rattle.reader.proofs.scanning.Outcomes.{scan_refused, scan_value, answer_refused, answer_full, answer_read}
use Rattle.marks.proofs.Facts.{nothing_unnamed, index_fresh, tree_words, tree_fills}
use Rattle.syntax.proofs.Theorems.{read_code, read_rows}
use Rattle.std.specs.Prelude.{Ok, Err}
use Rattle.chars.specs.Refusals.{number, refusal, Reading}
use Rattle.chars.specs.declared.refusals.Refusal.{Refusal}
use Rattle.reader.specs.Scanning.{scanned}
use Rattle.chars.specs.declared.refusals.Code.TheVariants.{TooLong, NotAllowed}
use Rattle.chars.specs.Characters.{refusal_at}

-- ---- both passes

cleared : (m j : ℕ) → ◌≡◌ {A = ℕ} (get_or (replicate m 0) j 0) 0
cleared zero j = refl
cleared (suc m) zero = refl
cleared (suc m) (suc j) = cleared m j

-- cleared room that can hold a text
pub fresh : (s : List ℕ) (h m d : ℕ) → CanHold h m s → d ≤ 32 → Ready s (replicate h 0) (replicate m 0) d 0 0
fresh s h m d c l =
    let n = length-replicate {A = ℕ} m 0 in
    record {
      room = record { short = c.short; rows = omega (arith, c.rows) };
      index = index_fresh h m c.some c.few c.marked;
      fresh = record { none = λ j _. rw (cleared m j) nothing_unnamed };
      rowed = omega arith;
      inside = omega arith;
    }

-- what is promised of both passes with the outcome o, and a table t that is t₂ afterwards
abbrev pub Passed : Parse Node → Reading Scanned → List ℕ → List ℕ → Type 0
Passed o r t t₂ = (r ≡ scan_of o) × (t₂ ≡ table_of t o)

refused_passed : {o : Parse Node} {bad : Refusal} (t : List ℕ) → o ≡ refused bad.code bad.place → Passed o (Err bad) t t
refused_passed {o} {bad} t q = rw q (refl, sym (answer_refused 0 bad.code bad.place t).1)

-- the first value begins behind the first space
pub ready : {s hs ms : List ℕ} {d i : ℕ} → i ≡ skip s 0 → Ready s hs ms d 0 0 → Ready s hs ms d 0 i
ready {s} z h = record {
  room = h.room;
  index = h.index;
  fresh = h.fresh;
  rowed = omega (arith, h.rowed);
  inside = omega (arith, run_within is_space s 0 (omega arith));
}

-- r is what the first pass tells of that value
pub record Over (d : ℕ) (s hs ms : List ℕ) (r : Reading Scanned) (hs₂ ms₂ : List ℕ) : Type 0 where
  pub given : Ready s hs ms d 0 0
  pub place : ℕ
  pub begins : place ≡ skip s 0
  pub told : Told s (value_at d s place) r 0 ms hs₂ ms₂
  pub same : length ms₂ ≡ length ms

-- it has k rows, and j lies behind it and the space after it
pub record ValueRead (d : ℕ) (s ms₂ : List ℕ) (k j : ℕ) : Type 0 where
  pub tree : Node
  pub end : ℕ
  pub reads : value_at d s (skip s 0) ≡ parsed tree end
  pub sized : size tree ≡ k
  pub rows : mark_entries (take k ms₂) ≡ entries tree
  pub few : k ≤ length ms₂
  pub small : k ≤ 65536
  pub behind : j ≡ skip s end

module _ {d : ℕ} {s hs ms : List ℕ} {r : Reading Scanned} {hs₂ ms₂ : List ℕ} (o : Over d s hs ms r hs₂ ms₂) where
  -- by the place as the definition has it
  here : Told s (value_at d s (skip s 0)) r 0 ms hs₂ ms₂
  here = rw (← o.begins) o.told

  pub passed_refused : (t : List ℕ) {bad : Refusal} → r ≡ Err bad → Passed (whole_at d s) (Err bad) t t
  passed_refused t e =
      let v = scan_refused (value_at d s (skip s 0)) (sym here.scan ∙ e) in refused_passed {o = whole_at d s} t (rw v)

  pub value-read : {e k j : ℕ} → r ≡ Ok (scanned e k) → j ≡ skip s e → ValueRead d s ms₂ k j
  value-read {e} {k} v y =
      let n = scan_value (value_at d s (skip s 0)) (sym here.scan ∙ v) in
      let m : Marked s n.0 0 ms hs₂ ms₂ = rw n.1 at here.after in
      let q : 0 + size n.0 ≡ k = omega (arith, n.2) in
      record {
        tree = n.0;
        end = e;
        reads = n.1;
        sized = n.2;
        rows = rw q at m.rows;
        few = omega (arith, value_takes s d n.1, n.2, o.given.room.rows, o.same);
        small = omega (arith, value_takes s d n.1, n.2, o.given.room.short);
        behind = y;
      }

module _ {d : ℕ} {s ms₂ : List ℕ} {k j : ℕ} (v : ValueRead d s ms₂ k j) where
  -- its marks are those of a tree
  pub fills : FillReady ms₂ k
  fills =
      let z = v.sized in
      rw (← z) (tree_fills ms₂ v.tree (rw z v.few) (rw z v.rows) (rw z v.small))

module _ {d : ℕ} {s ms₂ : List ℕ} {k j : ℕ} (v : ValueRead d s ms₂ k j) (t : List ℕ) where
  pub passed_behind : {bad : Refusal} → bad ≡ refusal_at s j NotAllowed → j < length s → Passed (whole_at d s) (Err bad) t t
  unfolding alone refusal_at
  passed_behind {bad} e l =
      let z : bad ≡ refusal NotAllowed j = e ∙ rw (lt-ltb j (length s) l) refl in
      rw z (refused_passed {o = whole_at d s} t (rw (v.reads, ← v.behind, lt-ltb j (length s) l)))

  module _ (l : length s ≤ j) where
    whole : whole_at d s ≡ parsed v.tree j
    unfolding alone
    whole = rw (v.reads, ← v.behind, le-ltb j (length s) l)

    told_whole : Ok (scanned j k) ≡ scan_of (whole_at d s)
    told_whole = sym (ap scan_of whole ∙ ap (λ (x : ℕ). Ok (scanned j x)) v.sized)

    pub passed_full : roomIn (length t) < k → Passed (whole_at d s) (Ok (scanned j k)) t t
    passed_full m = (told_whole, sym (ap (table_of t) whole ∙ (answer_full 0 t v.tree j (rw v.sized m)).1))

    -- its rows are those of its marks
    laid : mark_words ms₂ k ≡ words v.tree
    laid =
        let z = v.sized in
        rw (← z) (tree_words ms₂ v.tree (rw z v.few) (rw z v.rows))

    pub passed_read : k ≤ roomIn (length t) → {t₂ : List ℕ} → t₂ ≡ sets t 0 (mark_words ms₂ k) → Passed (whole_at d s) (Ok (scanned j k)) t t₂
    passed_read m w =
        (told_whole, w ∙ ap (sets t 0) laid ∙ sym (ap (table_of t) whole ∙ (answer_read 0 t v.tree j (rw v.sized m)).1))

-- ---- the answer and the table, within limits

-- what is promised of the text number `which` with the outcome o, and a table t that is t₂ afterwards
abbrev pub Done : ℕ → Parse Node → Answer → List ℕ → List ℕ → Type 0
Done which o a t t₂ = (a ≡ answer_of which (length t) o) × (t₂ ≡ table_of t o)

module _ (which : ℕ) (l : Limits) (s t : List ℕ) where
  pub done_over : {b : ℕ} {a : Answer} → b ≡ min l.bytes 65536 → b < length s → a ≡ answer 1 which b 0 → Done which (read_within l s) a t t
  unfolding read_text
  done_over {b} e h x =
      let n = answer_refused which TooLong b t in rw (← e, lt-ltb b (length s) h) (x ∙ sym n.0, sym n.1)

-- both passes are over a text of b bytes at most, as the limits l say
pub record TextRead (l : Limits) (b : ℕ) (s t : List ℕ) (r : Reading Scanned) (t₂ : List ℕ) : Type 0 where
  pub limit : b ≡ min l.bytes 65536
  pub short : length s ≤ b
  pub passed : Passed (whole_at (min l.depth 32) s) r t t₂
  pub same : length t₂ ≡ length t

module _ {l : Limits} {b : ℕ} {s t : List ℕ} {r : Reading Scanned} {t₂ : List ℕ} (h : TextRead l b s t r t₂) where
  within : read_within l s ≡ whole_at (min l.depth 32) s
  unfolding read_text
  within = rw (← h.limit, le-ltb b (length s) h.short)

  done : (which : ℕ) {a : Answer} (o : Parse Node) → read_within l s ≡ o → a ≡ answer_of which (length t) o
      → Done which (read_within l s) a t t₂
  done which o q x = (x ∙ ap (answer_of which (length t)) (sym q), h.passed.1 ∙ ap (table_of t) (sym within))

  module _ {bad : Refusal} (e : r ≡ Err bad) where
    outcome : read_within l s ≡ refused bad.code bad.place
    outcome = within ∙ scan_refused (whole_at (min l.depth 32) s) (sym h.passed.0 ∙ e)

    pub refused_place : bad.place ≤ 65536
    refused_place = omega (arith, (read_code _ (min l.depth 32) s bad.code bad.place outcome).2, h.short, h.limit)

    pub done_refused : (which : ℕ) {a : Answer} → a ≡ answer (number bad.code) which bad.place 0 → Done which (read_within l s) a t t₂
    done_refused which x = done which (refused bad.code bad.place) outcome (x ∙ sym (answer_refused which bad.code bad.place t).0)

  module _ {e k : ℕ} (v : r ≡ Ok (scanned e k)) where
    abbrev tree : (n : Node) × (whole_at (min l.depth 32) s ≡ parsed n e) × (size n ≡ k)
    tree = scan_value (whole_at (min l.depth 32) s) (sym h.passed.0 ∙ v)

    outcome₂ : read_within l s ≡ parsed tree.0 e
    outcome₂ = within ∙ tree.1

    pub rows_few : k ≤ 65536
    rows_few = omega (arith, read_rows _ (min l.depth 32) s tree.0 e outcome₂, tree.2, h.short, h.limit)

    -- the room is that of the table afterwards, which is as long as before
    module _ (which : ℕ) {a : Answer} where
      pub done_full : roomIn (length t₂) < k → a ≡ answer 8 which 0 k → Done which (read_within l s) a t t₂
      done_full f x =
          done which (parsed tree.0 e) outcome₂
          (x ∙ ap (answer 8 which 0) (sym tree.2) ∙ sym (answer_full which t tree.0 e (rw (← h.same, tree.2) f)).0)

      pub done_read : k ≤ roomIn (length t₂) → a ≡ answer 0 0 0 k → Done which (read_within l s) a t t₂
      done_read f x =
          done which (parsed tree.0 e) outcome₂
          (x ∙ ap (answer 0 0 0) (sym tree.2) ∙ sym (answer_read which t tree.0 e (rw (← h.same, tree.2) f)).0)
