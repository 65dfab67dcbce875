-- Members in the first pass: a name, a colon and a value; what is told of each way through them.
use mathlib.Core.Path.{◌≡◌, refl, sym, ap, ◌∙◌}
use mathlib.Core.List.{List, ◌∷◌, ◌++◌}
use mathlib.Core.Bool.{Bool, true, false, cond}
use Prim.Native.Nat.{ℕ, suc, ◌+◌, ◌≤◌, ◌<◌}
use native.Mathlib.Numerals.{add-one}
use native.Mathlib.Omega.{arith}
use lib.ListN.{length, take, get_or, set, length-set}
use lib.Dec.{ltb}
use lib.Seq.{slice, slice-cons}
use Rattle.chars.specs.Bytes.{byte_at}
use Rattle.tokens.specs.Parse.{Parse, refused, parsed, then, unexpected}
use Rattle.tokens.specs.Space.{is_space, skip}
use Rattle.tokens.specs.declared.tokens.Kind.{Kind}
use Rattle.chars.proofs.Facts.{run-from, run_within}
use Rattle.chars.specs.declared.hashing.Hashed.{Hashed}
use Rattle.syntax.specs.Tree.{Node, Members, add_member}
use Rattle.syntax.specs.Rows.{entry, size, sizes_members, Entry, entries, entries_members}
use Rattle.syntax.specs.Grammar.{name_of, name_at, member_at, value_at}
use Rattle.marks.specs.Marks.{name_mark, mark_entry, mark_entries}
use Rattle.marks.specs.Names.{name_first, name_end, name_in, own_hash, Owned, Fresh, Kept, bucket_of, Index, NameReady, hashed_of, NameTold}
use Rattle.reader.specs.Scanning.{Ready, Marked, Told, MemberReady, MemberScan, MemberTold}
use Rattle.reader.specs.declared.scanning.Scanned.{Scanned}
use Rattle.syntax.proofs.Facts.{byte_in, sizes_members_add, entries_members_add, name_within, name_takes, member_bare, member_value, value_takes}
use Rattle.reader.proofs.scanning.Outcomes.{scan_refused}
use Rattle.model.proofs.Basics.{never}
use Rattle.marks.proofs.Facts.{name_numbers, name_named, name_entry, entries_cons, fresh_later, fresh_set, kept_kept, kept_add, bucket_in_lem}
use Rattle.marks.proofs.Facts.{index_head}
use Rattle.reader.proofs.scanning.Slices.{kept_write}
use Rattle.reader.proofs.scanning.Told.{told_parsed}
use Rattle.chars.specs.declared.refusals.Code.TheVariants.{Ended, NotAllowed}
use Rattle.std.specs.Prelude.{Ok, Err}
use Rattle.chars.specs.Refusals.{refusal, Reading}
use Rattle.chars.specs.declared.refusals.Refusal.{Refusal}
use Rattle.reader.specs.Scanning.{scanned}
use Rattle.chars.specs.Characters.{refusal_at}
use Rattle.chars.specs.Hashing.{hashed}
use Rattle.reader.proofs.scanning.Outcomes.{read_refused}

module _ (s : List ℕ) (o i : ℕ) where
  hashed_broken : (x : Parse Kind) {bad : Refusal} → hashed_of s o i x ≡ Err bad → x ≡ refused bad.code bad.place
  hashed_broken x q = read_refused _ x q

  hashed_name : (x : Parse Kind) {e h : ℕ} → hashed_of s o i x ≡ Ok (hashed e h) → (k : Kind) × (x ≡ parsed k e) × (h ≡ own_hash o (name_of s i e))
  hashed_name (refused c p) q = never (cc)
  hashed_name (parsed k f) {e} {h} q =
      let w : hashed f (own_hash o (name_of s i f)) ≡ hashed e h = cc in
      let z : f ≡ e = ap (λ (x : Hashed). x.end) w in
      (k, ap (parsed k) z, sym (ap (λ (x : Hashed). x.hash) w) ∙ ap (λ (x : ℕ). own_hash o (name_of s i x)) z)

-- a name was read from i up to e, with this hash in the object at row o
pub record NameRead (s ms : List ℕ) (o i e hash : ℕ) : Type 0 where
  pub tells : (before : Members) → Kept s o ms (o + 1) before → Fresh ms (o + 1 + sizes_members before) → (k : Kind) × (name_at s before i ≡ parsed k e)
  pub hashed : hash ≡ own_hash o (name_of s i e)
  pub takes : i + 2 ≤ e
  pub within : e ≤ length s

module _ {s hs ms : List ℕ} {d o row i : ℕ} (m : MemberReady s hs ms d o row i) where
  -- no name stands behind the members
  fresh_behind : (before : Members) → row ≡ o + 1 + sizes_members before → Fresh ms (o + 1 + sizes_members before)
  fresh_behind before z = rw z at m.ready.fresh

  pub name_ready : NameReady s hs ms o
  name_ready =
      let r = m.ready in
      record {
        index = r.index;
        small = omega (arith, m.behind, r.rowed, r.inside, r.room.short);
        before = m.before;
        kept = m.kept;
        fresh = fresh_behind m.before m.behind;
      }

  pub name_read : {r : Reading Hashed} {e h : ℕ} → NameTold s ms o i r → r ≡ Ok (hashed e h) → NameRead s ms o i e h
  name_read {r} {e} {h} t q =
      let n = reads m.before m.kept (fresh_behind m.before m.behind) in
      record {
        tells = λ before k f. let x = reads before k f in (x.0, x.1);
        hashed = n.2;
        takes = name_takes s m.before i n.1;
        within = (rw n.1 at (name_within s m.before i)).1;
      }
    where
      reads : (before : Members) → Kept s o ms (o + 1) before → Fresh ms (o + 1 + sizes_members before)
          → (k : Kind) × (name_at s before i ≡ parsed k e) × (h ≡ own_hash o (name_of s i e))
      reads before k f = hashed_name s o i (name_at s before i) (sym (t.tells before k f) ∙ q)

  -- there is room for a name's row
  name_room : {e hash : ℕ} → NameRead s ms o i e hash → (row < length ms) × (e ≤ 65536) × (hash < 65536)
  name_room n = let r = m.ready in omega (arith, r.room.short, r.room.rows, r.rowed, n.takes, n.within, n.hashed)

  -- what `push` is given
  pub name_push : {e hash : ℕ} → NameRead s ms o i e hash → (Index hs ms × Fresh ms row × (row < length ms)) × ((i + 2 ≤ e) × (e ≤ 65536) × (hash < 65536))
  name_push n = let w = name_room n in ((m.ready.index, m.ready.fresh, w.0), (n.takes, w.1, w.2))

  -- the link of its mark is a row
  name_link : {e hash : ℕ} → NameRead s ms o i e hash → get_or hs (bucket_of (length hs) hash) 0 < 65536
  name_link n = let x = m.ready.index in index_head x (bucket_in_lem _ _ (name_room n).2 x.some)

-- the name's row is kept among the marks ms₁ with the index hs₁; a colon stands behind the name, and its value at k
pub record Named (s hs ms hs₁ ms₁ : List ℕ) (d o row i k : ℕ) : Type 0 where
  pub ready : MemberReady s hs ms d o row i
  pub end : ℕ
  pub hash : ℕ
  pub link : ℕ
  pub name : NameRead s ms o i end hash
  pub small : link < 65536
  pub pushed : ms₁ ≡ set ms row (name_mark i end link hash)
  pub index : Index hs₁ ms₁
  pub colon : ℕ
  pub place : colon ≡ skip s end
  pub sign : byte_at s colon ≡ 0x3A
  pub starts : k ≡ skip s (colon + 1)

-- what `push` keeps: the first of its bucket is the link of its mark
abbrev pub Pushed : (hs ms hs₁ ms₁ : List ℕ) (row i e hash : ℕ) → Type 0
Pushed hs ms hs₁ ms₁ row i e hash = (ms₁ ≡ set ms row (name_mark i e (get_or hs (bucket_of (length hs) hash) 0) hash)) × Index hs₁ ms₁

pub named : {s hs ms hs₁ ms₁ : List ℕ} {d o row i e hash j x k : ℕ} → MemberReady s hs ms d o row i → NameRead s ms o i e hash
    → Pushed hs ms hs₁ ms₁ row i e hash → j ≡ skip s e → x ≡ byte_at s j → x ≡ 0x3A → k ≡ skip s (j + 1) → Named s hs ms hs₁ ms₁ d o row i k
named {hs = hs} {e = e} {hash = hash} {j = j} m n p w y c z = record {
  ready = m;
  end = e;
  hash = hash;
  link = get_or hs (bucket_of (length hs) hash) 0;
  name = n;
  small = name_link m n;
  pushed = p.0;
  index = p.1;
  colon = j;
  place = w;
  sign = sym y ∙ c;
  starts = z;
}

-- a refusal is the answer of a member too
scan_bad : (s : List ℕ) (before : Members) (j : ℕ) (bad : Refusal) (o row : ℕ) (ms hs₂ ms₂ : List ℕ) → bad ≡ refusal_at s j NotAllowed
    → MemberScan s before (unexpected s j) (Err bad) o row ms hs₂ ms₂
unfolding unexpected refusal_at
scan_bad s before j bad o row ms hs₂ ms₂ = go (ltb j (length s))
  where
    go : (b : Bool) → bad ≡ cond b (refusal NotAllowed j) (refusal Ended (length s))
        → MemberScan s before (cond b (refused NotAllowed j) (refused Ended (length s))) (Err bad) o row ms hs₂ ms₂
    go true q = ap Err q
    go false q = ap Err q

-- the colon behind the name stands in the text
pub name_behind : {s ms : List ℕ} {o i e hash j x : ℕ} → NameRead s ms o i e hash → x ≡ byte_at s j → x ≡ 0x3A → j < length s
name_behind {s} {j = j} _ y c = byte_in s j 0x3A (omega arith) (sym y ∙ c)

module _ {s hs ms hs₁ ms₁ : List ℕ} {d o row i k : ℕ} (m : Named s hs ms hs₁ ms₁ d o row i k) where
  -- a name takes three bytes with its colon, so there is room for its row and for those of its value
  pub named_ready : Ready s hs₁ ms₁ d (row + 1) k
  named_ready =
      let r = m.ready.ready in
      let j = m.colon in
      let b = byte_in s j 0x3A (omega arith) m.sign in
      let w = name_mark i m.end m.link m.hash in
      let p = ap length m.pushed ∙ length-set ms row w in
      let c = run-from is_space s m.end in
      let e = run-from is_space s (j + 1) in
      record {
        room = record { short = r.room.short; rows = omega (arith, r.room.rows, p) };
        index = m.index;
        fresh = rw m.pushed (fresh_set row w (omega arith) (fresh_later (omega arith) r.fresh));
        rowed = omega (arith, r.rowed, m.name.takes, m.place, m.starts);
        inside = omega (arith, m.starts, run_within is_space s (j + 1) (omega arith));
      }

-- what each way through a member leaves: no name, no colon, no value, or all three
module _ {s hs ms : List ℕ} {d o row i : ℕ} (m : MemberReady s hs ms d o row i) where
  pub told_unnamed : {r : Reading Hashed} {bad : Refusal} {hs₂ ms₂ : List ℕ} → NameTold s ms o i r → r ≡ Err bad → MemberTold s d (Err bad) o row i ms hs₂ ms₂
  told_unnamed t q = record {
    tells = λ before h z. rw (hashed_broken s o i (name_at s before i) (sym (t.tells before h (fresh_behind m before z)) ∙ q));
  }

  pub told_bare : {e hash j x : ℕ} {bad : Refusal} {hs₂ ms₂ : List ℕ} → NameRead s ms o i e hash → j ≡ skip s e → x ≡ byte_at s j → (x ≡ 0x3A → ⊥)
      → bad ≡ refusal_at s j NotAllowed → MemberTold s d (Err bad) o row i ms hs₂ ms₂
  told_bare {j = j} {bad = bad} n w y b q = record {
    tells = λ before h z.
        rw (member_bare (value_at d s) s before i (n.tells before h (fresh_behind m before z)).1 w (λ v. b (y ∙ v))) (scan_bad s before j bad o row ms _ _ q);
  }

-- and r is told of its value
pub record Valued (s hs ms hs₂ ms₂ : List ℕ) (d o row i : ℕ) (r : Reading Scanned) : Type 0 where
  pub heads : List ℕ
  pub marks : List ℕ
  pub place : ℕ
  pub named : Named s hs ms heads marks d o row i place
  pub told : Told s (value_at d s place) r (row + 1) marks hs₂ ms₂
  pub same : length ms₂ ≡ length marks

module _ {s hs ms hs₂ ms₂ : List ℕ} {d o row i : ℕ} {r : Reading Scanned} (x : Valued s hs ms hs₂ ms₂ d o row i r) where
  abbrev place : ℕ
  place = x.place

  abbrev member : Named s hs ms x.heads x.marks d o row i place
  member = x.named

  -- the member is what is made of its value
  valued : (before : Members) → Kept s o ms (o + 1) before → row ≡ o + 1 + sizes_members before
      → member_at (value_at d s) s before i ≡ then (value_at d s place) (λ n p. parsed (add_member before i member.end n) p)
  valued before h z =
      member_value (value_at d s) s before i (member.name.tells before h (fresh_behind member.ready before z)).1 member.place member.sign
      ∙ ap (λ (y : ℕ). then (value_at d s y) (λ n p. parsed (add_member before i member.end n) p)) (sym member.starts)

  pub named_rows : {f rows : ℕ} → r ≡ Ok (scanned f rows) → rows < 65536
  named_rows q =
      let v = told_parsed x.told q in
      omega (arith, value_takes s d v.1, v.2, member.ready.ready.room.short)

  pub told_valueless : {bad : Refusal} → r ≡ Err bad → MemberTold s d (Err bad) o row i ms hs₂ ms₂
  told_valueless q = record {
    tells = λ before h z. rw (valued before h z, scan_refused (value_at d s place) (sym x.told.scan ∙ q));
  }

  module _ {f rows : ℕ} (q : r ≡ Ok (scanned f rows)) where
    abbrev read : (n : Node) × (value_at d s place ≡ parsed n f) × (size n ≡ rows) × Marked s n (row + 1) x.marks hs₂ ms₂
    read = told_parsed x.told q

    abbrev mark : ℕ
    mark = name_mark i member.end member.link member.hash

    room : (row < length ms) × (member.end ≤ 65536) × (member.hash < 65536)
    room = name_room member.ready member.name

    kept_mark : (take row ms₂ ≡ take row ms) × (get_or ms₂ row 0 ≡ mark)
    kept_mark = kept_write ms ms₂ row mark room.0 (read.3.below ∙ ap (take (row + 1)) member.pushed)

    -- it is a name of the object
    owned_mark : Owned s o mark × (name_first mark ≡ i) × (name_end mark ≡ member.end)
    owned_mark =
        let n = member.name in
        let u = name_numbers i member.end member.link member.hash n.takes room.1 member.small room.2 in
        let e : name_end mark ≡ member.end = omega (arith, u.0, n.takes) in
        let c : name_in s mark ≡ name_of s i member.end = ap (λ (x : ℕ). name_of s x (name_end mark)) u.1 ∙ ap (name_of s i) e in (
          record {
            named = name_named i member.end member.link member.hash n.takes room.1 member.small room.2;
            quoted = omega (arith, u.1, e, n.takes);
            within = omega (arith, e, n.within);
            hashed = u.3 ∙ n.hashed ∙ ap (own_hash o) (sym c);
          },
          u.1,
          e,
        )

    -- the rows of the name and of its value
    member_rows : mark_entries (slice row (row + (rows + 1)) ms₂) ≡ entry 9 i member.end 0 1 ∷ entries read.0
    member_rows =
        let w = ap length member.pushed ∙ length-set ms row mark in
        let v = value_takes s d read.1 in
        let c : row + (rows + 1) ≤ length ms₂ = omega (arith, (named_ready member).rowed, (named_ready member).room.rows, v, read.2, x.same) in
        let e : row + (rows + 1) ≡ row + 1 + size read.0 = omega (arith, read.2) in
        ap mark_entries (slice-cons row (row + (rows + 1)) ms₂ 0 (omega arith) c)
        ∙ entries_cons (get_or ms₂ row 0) (slice (suc row) (row + (rows + 1)) ms₂)
        ∙ ap (λ (x : ℕ). mark_entry x ∷ mark_entries (slice (suc row) (row + (rows + 1)) ms₂)) kept_mark.1
        ∙ ap (λ (y : Entry). y ∷ mark_entries (slice (suc row) (row + (rows + 1)) ms₂))
        (name_entry i member.end member.link member.hash member.name.takes room.1 member.small room.2)
        ∙ ap (λ (ys : List Entry). entry 9 i member.end 0 1 ∷ ys) (ap (λ (t : ℕ). mark_entries (slice (suc row) t ms₂)) e ∙ rw (← add-one row) read.3.rows)

    pub told_member : MemberTold s d (Ok (scanned f (rows + 1))) o row i ms hs₂ ms₂
    told_member =
        let e = member.end in
        let n = read.0 in
        let w : row + 1 + size n ≡ row + (rows + 1) = omega (arith, read.2) in
        let own : Owned s o (get_or ms₂ row 0) × (name_first (get_or ms₂ row 0) ≡ i) × (name_end (get_or ms₂ row 0) ≡ e) = rw kept_mark.1 owned_mark in
        record {
          tells = λ before h z. rw (valued before h z, read.1) (
            rows + 1,
            refl,
            record {
              adds = omega (arith, sizes_members_add before i e n, read.2);
              index = read.3.index;
              fresh = rw w at read.3.fresh;
              below = kept_mark.0;
              rows = entries_members_add before i e n ∙ ap (λ (ys : List Entry). entries_members before ++ ys) (sym member_rows);
              kept =
                  kept_add s o ms₂ (o + 1) before i e n row z (kept_kept s o ms ms₂ (o + 1) before row kept_mark.0 (omega arith) h)
                  own.0 own.1 own.2 read.3.owned;
            },
          );
        }
