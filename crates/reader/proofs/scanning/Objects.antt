-- Objects in the first pass: the loop over members, whose invariant is `InObject`, by the laws of `Lists`.
use mathlib.Core.Path.{◌≡◌, refl, sym, ap, ◌∙◌}
use mathlib.Core.List.{List, ◌++◌}
use Prim.Native.Nat.{ℕ, ◌+◌, ◌<◌}
use native.Mathlib.Omega.{arith}
use lib.ListN.{length, set}
use lib.Seq.{slice}
use Rattle.tokens.specs.Parse.{Parse, refused, parsed}
use Rattle.syntax.specs.Tree.{object, Members, no_member}
use Rattle.syntax.specs.Rows.{count_members, sizes_members, entries_members}
use Rattle.syntax.specs.Grammar.{member_at, object_at, value_at}
use Rattle.marks.specs.Marks.{list_mark, mark_entries}
use Rattle.marks.specs.Names.{Kept}
use Rattle.reader.specs.Scanning.{ListFits, Told, MemberReady, MemberMarked, MemberScan, MemberTold}
use Rattle.reader.specs.declared.scanning.Following.{Following}
use Rattle.reader.specs.declared.scanning.Scanned.{Scanned}
use Rattle.syntax.proofs.Facts.{count_members_add, count_members_few, member_parsed, member_reads}
use Rattle.marks.proofs.Facts.{kept_within}
use Rattle.model.proofs.Basics.{never}
use Rattle.reader.proofs.scanning.Lists.{Bracket, Opened, Turn, Inside, Followed, first_fits, first_close, first_inside, stays, inside_ready}
use Rattle.reader.proofs.scanning.Lists.{inside_refused}
use Rattle.std.specs.Prelude.{Ok, Err}
use Rattle.chars.specs.Refusals.{refusal, Reading}
use Rattle.chars.specs.declared.refusals.Refusal.{Refusal}
use Rattle.reader.specs.Scanning.{scanned}

abbrev pub object_of : (s : List ℕ) → ℕ → ℕ → Bracket s Members
object_of s d at = record {
  at = at;
  closing = 0x7D;
  object = 1;
  item = member_at (value_at d s) s;
  rows = sizes_members;
  kids = count_members;
  inner = entries_members;
  node = λ ms e. object at e ms;
  keeps = λ row ms all. Kept s row ms (row + 1) all;
  some = omega arith;
  other = λ q. omega arith;
  kind = omega arith;
  reads = member_reads s d;
  few = count_members_few;
  sized = λ ms e. refl;
  spelled = λ ms e. refl;
}

-- in an object whose brace stands at `at`, with its members behind the first row
abbrev pub InObject : (s : List ℕ) (d at row : ℕ) (hs₀ ms₀ hs ms : List ℕ) (rows children i : ℕ) → Type 0
InObject s d at row = Inside (object_of s d at) (object_at (value_at d s) s at) d row

-- r is told of the member at i
pub record MemberSaid (s : List ℕ) (d at row : ℕ) (hs₀ ms₀ hs ms : List ℕ) (rows children i : ℕ) (r : Reading Scanned) : Type 0 where
  pub heads : List ℕ
  pub marks : List ℕ
  pub inside : InObject s d at row hs₀ ms₀ heads marks rows children i
  pub told : MemberTold s d r row (row + rows) i marks hs ms
  pub headed : length hs ≡ length heads
  pub marked : length ms ≡ length marks

-- one more member was read, up to e
abbrev pub MemberTurn : (s : List ℕ) (d at row : ℕ) (hs₀ ms₀ hs ms : List ℕ) (rows children i e more : ℕ) → Type 0
MemberTurn s d at row = Turn (object_of s d at) (object_at (value_at d s) s at) d row

-- and r stands behind it
abbrev pub MemberFollowed : (s : List ℕ) (d at row : ℕ) (hs₀ ms₀ hs ms : List ℕ) (rows children i e more : ℕ) → Following → Type 0
MemberFollowed s d at row = Followed (object_of s d at) (object_at (value_at d s) s at) d row

module _ {s hs ms : List ℕ} {d row at i x : ℕ} (h : Opened s hs ms d row at i x) where
  pub object_empty_fits : x ≡ 0x7D → ListFits 1 at (i + 1) 0 1 row (length ms)
  object_empty_fits = first_fits h (object_of s d at) refl no_member refl refl refl

  pub object_empty : x ≡ 0x7D → {r : Reading Scanned} {ms₂ : List ℕ} → (r ≡ Ok (scanned (i + 1) 1)) × (ms₂ ≡ set ms row (list_mark 1 at (i + 1) 0 1))
      → Told s (object_at (value_at d s) s at) r row ms hs ms₂
  object_empty = first_close h (object_of s d at) refl no_member refl refl refl

  pub object_first : (x ≡ 0x7D → ⊥) → InObject s d at row hs ms hs ms 1 0 i
  object_first = first_inside h (object_of s d at) refl no_member refl refl refl tt

-- what the answer of a member tells
module _ (s : List ℕ) (before : Members) {r : Reading Scanned} (w row : ℕ) (ms hs₂ ms₂ : List ℕ) where
  member_refused : (o : Parse Members) {bad : Refusal} → MemberScan s before o r w row ms hs₂ ms₂ → r ≡ Err bad → o ≡ refused bad.code bad.place
  member_refused (refused c p) {bad} h q =
      let y = sym h ∙ q in
      let z : refusal c p ≡ bad = cc in
      ap (λ (x : Refusal). refused x.code x.place) z
  member_refused (parsed all e) h q = let z = sym h.1 ∙ q in never (cc)

  member_scanned : (o : Parse Members) {e k : ℕ} → MemberScan s before o r w row ms hs₂ ms₂ → r ≡ Ok (scanned e k)
      → (all : Members) × (o ≡ parsed all e) × MemberMarked s before all k w row ms hs₂ ms₂
  member_scanned (refused c p) h q = never (cc)
  member_scanned (parsed all f) {e} {k} h q =
      let w = sym h.1 ∙ q in
      let v : scanned f h.0 ≡ scanned e k = cc in
      let y : h.0 ≡ k = ap (λ (x : Scanned). x.rows) v in
      (all, ap (λ (x : Scanned). parsed all x.end) v, rw y at h.2)

module _ {s : List ℕ} {d at row : ℕ} {hs₀ ms₀ hs ms : List ℕ} {rows children i : ℕ} (h : InObject s d at row hs₀ ms₀ hs ms rows children i) where
  behind_members : row + rows ≡ row + 1 + sizes_members h.before
  behind_members = omega (arith, h.along.counted)

  pub object_ready : MemberReady s hs ms d row (row + rows) i
  object_ready = record { ready = inside_ready h; before = h.before; kept = h.keeps; behind = behind_members }

module _ {s : List ℕ} {d at row : ℕ} {hs₀ ms₀ hs ms : List ℕ} {rows children i : ℕ} {r : Reading Scanned}
    (a : MemberSaid s d at row hs₀ ms₀ hs ms rows children i r) where
  abbrev given : Members
  given = a.inside.before

  told : MemberScan s given (member_at (value_at d s) s given i) r row (row + rows) a.marks hs ms
  told = a.told.tells given a.inside.keeps (behind_members a.inside)

  pub object_refused : {bad : Refusal} → r ≡ Err bad → Told s (object_at (value_at d s) s at) (Err bad) row ms₀ hs ms
  object_refused q = inside_refused a.inside (member_refused s given row (row + rows) a.marks hs ms _ told q)

  pub object_turn : {e more : ℕ} → r ≡ Ok (scanned e more) → MemberTurn s d at row hs₀ ms₀ hs ms rows children i e more
  object_turn {e} {more} q =
      let h = a.inside in
      let v = member_scanned s given row (row + rows) a.marks hs ms _ told q in
      let m = v.2 in
      let p = member_parsed (value_at d s) s given i v.1 in
      let w : row + rows + more ≡ row + (rows + more) = omega arith in
      let u : row + 1 + sizes_members v.0 ≡ row + (rows + more) = omega (arith, m.adds, h.along.counted) in
      let g = h.along.ready in
      let b : row < 65536 = omega (arith, g.rowed, g.inside, g.room.short) in
      record {
        before = given;
        all = v.0;
        along = stays h.along m.below a.marked;
        item = v.1;
        adds = m.adds;
        kept = m.rows ∙ ap (λ (t : ℕ). entries_members given ++ mark_entries (slice (row + rows) t ms)) w;
        filled = record {
          index = m.index;
          fresh = rw w at m.fresh;
          owned = rw u at (kept_within s row ms (row + 1) v.0 (omega arith) b m.kept);
        };
        kids = omega (arith, h.kids, ap count_members p.added, count_members_add given i p.behind p.node);
        headed = a.headed ∙ h.headed;
        keeps = m.kept;
      }
