-- Names among the marks, on plain values: where there are none, to which object they belong, and whether one of an object's members has a name.
use mathlib.Core.Path.{◌≡◌, refl, sym, ap, ◌∙◌}
use mathlib.Core.List.{List}
use mathlib.Core.Bool.{Bool, true, false}
use Prim.Native.Nat.{ℕ, ◌+◌, ◌≤◌, ◌<◌}
use native.Mathlib.Omega.{arith}
use lib.ListN.{get_or, take, set}
use lib.Seq.{get_or-take, get_or-set_other}
use lib.Dec.{ltb}
use borrow.Author.Tests.{ltb-true, ltb-false}
use Rattle.model.specs.Text.{same}
use Rattle.model.proofs.Basics.{clash, by_test, or_left, or_right}
use Rattle.chars.proofs.Facts.{same_true, hash_small}
use Rattle.syntax.specs.Tree.{Node, Members, no_member, member, add_member}
use Rattle.syntax.specs.Rows.{size, sizes_members}
use Rattle.syntax.specs.Grammar.{name_of, repeated}
use Rattle.marks.specs.Marks.{is_name}
use Rattle.marks.specs.Names.{name_first, name_end, name_in, hash_in, own_hash, Owned, Fresh, Quoted, Within, Kept, Seen}

-- by cases on which of two is less
by_lt : {A : Type 0} (i j : ℕ) → (i < j → A) → (j ≤ i → A) → A
by_lt i j f g = by_test (ltb i j) (λ t. f (ltb-true i j t)) (λ t. g (ltb-false i j t))

-- marks that are the same below t
pub same_below : (t : ℕ) (l₂ l : List ℕ) → take t l₂ ≡ take t l → (j : ℕ) → j < t → get_or l₂ j 0 ≡ get_or l j 0
same_below t l₂ l e j h = sym (get_or-take t l₂ j 0 h) ∙ ap (λ (y : List ℕ). get_or y j 0) e ∙ get_or-take t l j 0 h

-- ---- rows without names

pub fresh_later : {ms : List ℕ} {t t₂ : ℕ} → t ≤ t₂ → Fresh ms t → Fresh ms t₂
fresh_later l h = record { none = λ j m. h.none j (omega arith) }

-- a mark below is written
pub fresh_set : {ms : List ℕ} {t : ℕ} (r x : ℕ) → r < t → Fresh ms t → Fresh (set ms r x) t
fresh_set {ms} r x l h = record { none = λ j m. rw (get_or-set_other ms r j x 0 (λ z. omega arith)) (h.none j m) }

-- ---- names of objects from some row on

pub within_empty : {s ms : List ℕ} {o f : ℕ} → Within s ms o f f
within_empty = record { each = λ j l m e. absurd (omega arith) }

-- the mark at j is no name's
pub within_none : {s ms : List ℕ} {o : ℕ} (j : ℕ) → is_name (get_or ms j 0) ≡ false → Within s ms o j (j + 1)
within_none j e = record { each = λ i l m t. let z : i ≡ j = omega arith in clash _ (rw z at t) e }

pub within_join : {s ms : List ℕ} {o f m t : ℕ} → Within s ms o f m → Within s ms o m t → Within s ms o f t
within_join {m = m} a b = record { each = λ j l k e. by_lt j m (λ t. a.each j l t e) (λ t. b.each j t k e) }

pub within_wider : {s ms : List ℕ} {o o₂ f t : ℕ} → o₂ ≤ o → Within s ms o f t → Within s ms o₂ f t
within_wider l a = record { each = λ j k m e. let w = a.each j k m e in (w.0, omega arith, w.2, w.3) }

-- the same marks stand there
within_alike : {s ms ms₂ : List ℕ} {o f t : ℕ} → ((j : ℕ) → f ≤ j → j < t → get_or ms₂ j 0 ≡ get_or ms j 0) → Within s ms o f t → Within s ms₂ o f t
within_alike g a = record { each = λ j l m e. rw (g j l m) (a.each j l m (rw (g j l m) at e)) }

pub within_kept : {s ms ms₂ : List ℕ} {o f t : ℕ} → take t ms₂ ≡ take t ms → Within s ms o f t → Within s ms₂ o f t
within_kept {ms = ms} {ms₂} {t = t} e a = within_alike (λ j _ m. same_below t ms₂ ms e j m) a

-- a mark below is written
pub within_set : {s ms : List ℕ} {o f t : ℕ} (r x : ℕ) → r < f → Within s ms o f t → Within s (set ms r x) o f t
within_set {ms = ms} r x l a = within_alike (λ j m _. get_or-set_other ms r j x 0 (λ z. omega arith)) a

-- ---- the members of an object

pub kept_kept : (s : List ℕ) (o : ℕ) (ms ms₂ : List ℕ) (r : ℕ) (before : Members) (t : ℕ) → take t ms₂ ≡ take t ms → r + sizes_members before ≤ t
    → Kept s o ms r before → Kept s o ms₂ r before
kept_kept s o ms ms₂ r no_member t e l h = tt
kept_kept s o ms ms₂ r (member f g n rest) t e l h =
    let z : get_or ms₂ r 0 ≡ get_or ms r 0 = same_below t ms₂ ms e r (omega arith) in (
      rw z h.0,
      rw z h.1,
      rw z h.2,
      within_alike (λ j _ m. same_below t ms₂ ms e j (omega arith)) h.3,
      kept_kept s o ms ms₂ (r + 1 + size n) rest t e (omega arith) h.4,
    )

-- one more, whose name is at row q
pub kept_add : (s : List ℕ) (o : ℕ) (ms : List ℕ) (r : ℕ) (before : Members) (f e : ℕ) (n : Node) (q : ℕ) → q ≡ r + sizes_members before → Kept s o ms r before
    → Owned s o (get_or ms q 0) → name_first (get_or ms q 0) ≡ f → name_end (get_or ms q 0) ≡ e → Within s ms (q + 1) (q + 1) (q + 1 + size n)
    → Kept s o ms r (add_member before f e n)
kept_add s o ms r no_member f e n q z h a b c w = let y : q ≡ r = omega arith in (rw y at a, rw y at b, rw y at c, rw y at w, tt)
kept_add s o ms r (member g i v rest) f e n q z h a b c w =
    (h.0, h.1, h.2, h.3, kept_add s o ms (r + 1 + size v) rest f e n q (omega arith) h.4 a b c w)

pub kept_within : (s : List ℕ) (o : ℕ) (ms : List ℕ) (r : ℕ) (before : Members) → o < r → o < 65536 → Kept s o ms r before
    → Within s ms o r (r + sizes_members before)
kept_within s o ms r no_member l m h = record { each = λ j k t e. absurd (omega arith) }
kept_within s o ms r (member f e n rest) l m h =
    let z : r + sizes_members (member f e n rest) ≡ r + 1 + size n + sizes_members rest = omega arith in
    let name : Within s ms o r (r + 1) = record { each = λ j k t d. let y : j ≡ r = omega arith in (o, omega arith, m, rw y h.0) } in
    rw z
    (within_join name (within_join (within_wider (omega arith) h.3) (kept_within s o ms (r + 1 + size n) rest (omega arith) m h.4)))

-- no two objects have one hash for a name
own_object : (o p : ℕ) (n : List ℕ) → o < 65536 → p < 65536 → own_hash p n ≡ own_hash o n → p ≡ o
own_object o p n l m e = omega (arith, hash_small n)

module _ (s : List ℕ) (o : ℕ) (ms n : List ℕ) where
  -- a row has the name n of the object: it is that of a member, since the names in the members' values are of other objects
  kept_has : o < 65536 → (r : ℕ) (before : Members) → o < r → Kept s o ms r before → (j : ℕ) → r ≤ j → j < r + sizes_members before → is_name (get_or ms j 0) ≡ true
      → hash_in (get_or ms j 0) ≡ own_hash o n → same (name_in s (get_or ms j 0)) n ≡ true → repeated s before n ≡ true
  unfolding repeated
  kept_has m r no_member l h j k t e d u = absurd (omega arith)
  kept_has m r (member f g v rest) l h j k t e d u =
      by_lt j (r + 1) (λ w. let z : j ≡ r = omega arith in or_left (same (name_of s f g) n) (repeated s rest n) (rw (z, h.1, h.2) at u))
      (λ w. by_lt j (r + 1 + size v)
      (λ y.
      let a = h.3.each j w y e in
      let q : own_hash a.0 n ≡ own_hash o n = rw (same_true (name_in s (get_or ms j 0)) n u) at (sym a.3.hashed ∙ d) in
      absurd (omega (arith, own_object o a.0 n m a.2 q)))
      (λ y. or_right (same (name_of s f g) n) (repeated s rest n) (kept_has m (r + 1 + size v) rest (omega arith) h.4 j y (omega arith) e d u)))

  -- none has
  kept_none : (r : ℕ) (before : Members) → Kept s o ms r before
      → ((j : ℕ) → r ≤ j → is_name (get_or ms j 0) ≡ true → hash_in (get_or ms j 0) ≡ own_hash o n → same (name_in s (get_or ms j 0)) n ≡ false)
      → repeated s before n ≡ false
  unfolding repeated
  kept_none r no_member h c = refl
  kept_none r (member f g v rest) h c =
      let x = get_or ms r 0 in
      let a : same (name_in s x) n ≡ false =
      by_test (same (name_in s x) n) (λ t. c r (omega arith) h.0.named (h.0.hashed ∙ ap (own_hash o) (same_true (name_in s x) n t))) (λ t. t)
      in
      let b : same (name_of s f g) n ≡ false = rw (h.1, h.2) at a in
      rw b (kept_none (r + 1 + size v) rest h.4 (λ j k. c j (omega arith)))

module _ {s : List ℕ} {o : ℕ} {ms : List ℕ} (before : Members) (m : o < 65536) (h : Kept s o ms (o + 1) before)
    (f : Fresh ms (o + 1 + sizes_members before)) where
  pub kept_quoted : Quoted s ms o
  kept_quoted =
      record {
        each = λ j l e. by_lt j (o + 1 + sizes_members before)
            (λ u. let a = (kept_within s o ms (o + 1) before (omega arith) m h).each j (omega arith) u e in (a.3.quoted, a.3.within))
            (λ u. clash _ e (f.none j u));
      }

  -- the search for a name of the object tells whether a member has it: where names are the same, so are their hashes, and then their objects
  pub kept_seen : (n : List ℕ) (r : Bool) → Seen s ms o (own_hash o n) n r → repeated s before n ≡ r
  kept_seen n true z =
      let a = z.found refl in
      by_lt a.0 (o + 1 + sizes_members before)
      (λ u. kept_has s o ms n m (o + 1) before (omega arith) h a.0 (omega arith) u a.2 a.3 a.4) (λ u. clash _ a.2 (f.none a.0 u))
  kept_seen n false z = kept_none s o ms n (o + 1) before h (λ j l. z.missed refl j (omega arith))
