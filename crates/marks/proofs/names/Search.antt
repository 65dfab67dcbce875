-- The search for a name among the marks: from the last name of its hash's bucket along the links.
use mathlib.Core.Path.{◌≡◌, refl}
use mathlib.Core.List.{List}
use mathlib.Core.Logic.{⊎_elim}
use mathlib.Core.Bool.{Bool, true, false}
use Prim.Native.Nat.{ℕ, ◌+◌, ◌-◌, ◌≤◌, ◌<◌}
use native.Mathlib.Nat.{eq-or-lt_of_le}
use native.Mathlib.Decide.{dec_lt}
use native.Mathlib.Omega.{arith}
use lib.ListN.{length, get_or, get_or-eq_default}
use borrow.Author.Tests.{eqb-true}
use Rattle.model.specs.Text.{same}
use Rattle.model.proofs.Basics.{clash, and_ways}
use Rattle.chars.specs.Strings.{characters, part}
use Rattle.chars.specs.Hashing.{last_passing}
use Rattle.chars.proofs.Facts.{last_most, last_found, last_skips}
use Rattle.marks.specs.Packing.{first_in, second_in}
use Rattle.marks.specs.Marks.{is_name}
use Rattle.marks.specs.Names.{name_first, name_end, name_in, link_in, hash_in, bucket_of, row_in, Quoted, Index, Seen}
use Rattle.marks.proofs.marks.Laws.{nothing_unnamed}
use Rattle.marks.proofs.names.Index.{bucket_at, bucket_in_lem, name_inside}

-- a name's characters are those from its first byte's next up to its last byte
pub compared : (s n : List ℕ) (x : ℕ) {a b : ℕ} {t : Bool} → a ≡ second_in x → b ≡ first_in x → t ≡ same (characters (part s (a + 1) b)) n
    → same (name_in s x) n ≡ t
compared s n x p q e = let z : name_end x - 1 ≡ first_in x = omega arith in rw (z, ← p, ← q, e)

-- the mark x is not that of a name with the hash h and the characters n
abbrev pub Differs : List ℕ → ℕ → List ℕ → ℕ → Type 0
Differs s h n x = is_name x ≡ true → hash_in x ≡ h → same (name_in s x) n ≡ false

-- of the rows above o, those above k are passed; the row k, if it is one of them, has a name in the bucket of h
pub record Searched (s ms : List ℕ) (buckets o h : ℕ) (n : List ℕ) (k : ℕ) : Type 0 where
  pub chained : o < k → (k < length ms) × (is_name (get_or ms k 0) ≡ true) × (bucket_at buckets ms k ≡ bucket_of buckets h)
  pub passed : (j : ℕ) → k < j → o < j → Differs s h n (get_or ms j 0)

module _ {s ms : List ℕ} {o h : ℕ} {n : List ℕ} where
  -- the row k has the name
  pub search_found : {buckets k : ℕ} → Searched s ms buckets o h n k → o < k → hash_in (get_or ms k 0) ≡ h → same (name_in s (get_or ms k 0)) n ≡ true
      → Seen s ms o h n true
  search_found {buckets} {k} d l e t = record { found = λ _. (k, l, (d.chained l).1, e, t); missed = λ z. clash true refl z }

  -- no row is left
  pub search_none : {buckets k : ℕ} → Searched s ms buckets o h n k → k ≤ o → Seen s ms o h n false
  search_none d l = record { found = λ z. clash false z refl; missed = λ _ j m. d.passed j (omega arith) m }

-- the name at k
pub record NameHere (s ms : List ℕ) (k : ℕ) : Type 0 where
  pub inside : k < length ms
  pub quotes : (name_first (get_or ms k 0) + 2 ≤ name_end (get_or ms k 0)) × (name_end (get_or ms k 0) ≤ length s)
  pub less : link_in (get_or ms k 0) < k

module _ {hs ms : List ℕ} (x : Index hs ms) {s : List ℕ} {o h : ℕ} {n : List ℕ} where
  -- the last name of the bucket below m; the rows from m on are passed
  from_last : (m : ℕ) → m ≤ length ms → ((j : ℕ) → m ≤ j → o < j → Differs s h n (get_or ms j 0))
      → Searched s ms (length hs) o h n (last_passing (row_in (length hs) ms (bucket_of (length hs) h)) m)
  from_last m u f =
      let b = bucket_of (length hs) h in
      let p = row_in (length hs) ms b in
      let r = last_passing p m in
      record {
        chained = λ l.
            let w = last_most p m in
            and_ways (is_name (get_or ms r 0)) _ (last_found p m (omega arith)) (λ e q. (omega arith, e, eqb-true (bucket_at (length hs) ms r) b q));
        passed = λ j g l. go j g l (dec_lt j m);
      }
    where
      go : (j : ℕ) → last_passing (row_in (length hs) ms (bucket_of (length hs) h)) m < j → o < j → Dec (j < m) → Differs s h n (get_or ms j 0)
      go j g l (yes v) e q =
          absurd (last_skips (row_in (length hs) ms (bucket_of (length hs) h)) m j g v (name_inside (length hs) _ (get_or ms j 0) e (rw q)))
      go j g l (no v) e q = f j (omega arith) l e q

  -- behind the last row stands no name
  pub search_begin : {b : ℕ} → h < 65536 → b ≡ bucket_of (length hs) h → Searched s ms (length hs) o h n (get_or hs b 0)
  search_begin {b} l e =
      rw (e, x.heads (bucket_of (length hs) h) (bucket_in_lem (length hs) h l x.some))
      (from_last (length ms) (omega arith) (λ j g _ t. clash (is_name 0) (rw (get_or-eq_default ms 0 g) at t) nothing_unnamed))

  module _ {k : ℕ} (d : Searched s ms (length hs) o h n k) (l : o < k) where
    -- it has both its quotes, and its link goes down
    pub search_name : Quoted s ms o → NameHere s ms k
    search_name q =
        let c = d.chained l in
        record {
          inside = c.0;
          quotes = q.each k l c.1;
          less = omega (arith, x.links k c.0 c.1, last_most (row_in (length hs) ms (bucket_at (length hs) ms k)) k);
        }

    -- it is another name, and leads on
    pub search_next : {k₂ : ℕ} → k₂ ≡ link_in (get_or ms k 0) → Differs s h n (get_or ms k 0) → Searched s ms (length hs) o h n k₂
    search_next e t =
        let c = d.chained l in
        rw (e, x.links k c.0 c.1, c.2)
        (from_last k (omega arith) (λ j g u. ⊎_elim (λ e. rw e at t) (λ v. d.passed j v u) (eq-or-lt_of_le g)))
