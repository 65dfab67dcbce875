-- The index of the names among the marks: buckets, and the index without names, behind a mark that is no name's, and behind one name more.
use mathlib.Core.Path.{◌≡◌, refl, sym, ◌∙◌}
use mathlib.Core.List.{List}
use mathlib.Core.Bool.{Bool, true, false}
use Prim.Native.Nat.{ℕ, zero, suc, ◌+◌, ◌≤◌, ◌<◌}
use native.Mathlib.Numerals.{add-one}
use native.Mathlib.Nat.{mul_comm, mul-lt-mul_of_pos_right, div-lt_iff_lt-mul}
use native.Mathlib.Decide.{ℕ_discrete, dec_lt}
use native.Mathlib.Omega.{arith}
use lib.ListN.{length, get_or, set, replicate, length-set, length-replicate}
use lib.Seq.{get_or-set_same, get_or-set_other}
use borrow.Author.Tests.{eq-eqb, ne_eqb}
use Rattle.model.proofs.Basics.{clash}
use Rattle.chars.specs.Hashing.{last_passing}
use Rattle.chars.proofs.Facts.{last_here, last_most, last_none, last_nothing, last_same}
use Rattle.marks.specs.Marks.{name_mark, is_name}
use Rattle.marks.specs.Names.{link_in, hash_in, bucket_of, in_bucket, row_in, Fresh, Index}
use Rattle.marks.proofs.marks.Laws.{nothing_unnamed, name_numbers, name_named}

-- ---- buckets

pub bucket_in_lem : (k hash : ℕ) → hash < 65536 → 0 < k → bucket_of k hash < k
bucket_in_lem k hash h l = (div-lt_iff_lt-mul {k = 65536} (omega arith)).1 (rw (mul_comm k 65536) (mul-lt-mul_of_pos_right h l))

-- the bucket, of k, of the mark at j
abbrev pub bucket_at : ℕ → List ℕ → ℕ → ℕ
bucket_at k ms j = bucket_of k (hash_in (get_or ms j 0))

-- a name lies in its bucket, and in no other
pub name_inside : (k b x : ℕ) → is_name x ≡ true → bucket_of k (hash_in x) ≡ b → in_bucket k b x ≡ true
name_inside k b x e q = rw (e, eq-eqb (bucket_of k (hash_in x)) b q)

name_outside : (k b x : ℕ) → is_name x ≡ true → (bucket_of k (hash_in x) ≡ b → ⊥) → in_bucket k b x ≡ false
name_outside k b x e q = rw (e, ne_eqb (bucket_of k (hash_in x)) b q)

plain_outside : (k b x : ℕ) → is_name x ≡ false → in_bucket k b x ≡ false
plain_outside k b x e = rw e

-- ---- the index

-- its facts, with the numbers of buckets and of rows by equations
index_of : (hs ms : List ℕ) (k n : ℕ) → length hs ≡ k → length ms ≡ n → 0 < k → k ≤ 65536 → n ≤ 65536
    → ((b : ℕ) → b < k → get_or hs b 0 ≡ last_passing (row_in k ms b) n)
    → ((j : ℕ) → j < n → is_name (get_or ms j 0) ≡ true → link_in (get_or ms j 0) ≡ last_passing (row_in k ms (bucket_at k ms j)) j) → Index hs ms
index_of hs ms k n d e some few short heads links = record {
  some = omega arith;
  few = omega arith;
  short = omega arith;
  heads = rw (d, e) heads;
  links = rw (d, e) links;
}

pub index_head : {hs ms : List ℕ} {b : ℕ} → Index hs ms → b < length hs → get_or hs b 0 < 65536
index_head {hs} {ms} {b} x l = omega (arith, x.heads b l, last_most (row_in (length hs) ms b) (length ms), x.short)

-- a bucket of the index
pub index_bucket : {hs ms : List ℕ} {hash b : ℕ} → Index hs ms → hash < 65536 → b ≡ bucket_of (length hs) hash → b < length hs
index_bucket {hs} {hash = hash} x l e = rw e (bucket_in_lem (length hs) hash l x.some)

get_d_zeros : (n j : ℕ) → ◌≡◌ {A = ℕ} (get_or (replicate n 0) j 0) 0
get_d_zeros zero j = refl
get_d_zeros (suc n) zero = refl
get_d_zeros (suc n) (suc j) = get_d_zeros n j

-- no mark is a name's
pub index_fresh : (k n : ℕ) → 0 < k → k ≤ 65536 → n ≤ 65536 → Index (replicate k 0) (replicate n 0)
index_fresh k n l m w =
    index_of (replicate k 0) (replicate n 0) k n (length-replicate k 0) (length-replicate n 0) l m w
    (λ b h. get_d_zeros k b ∙ sym (last_nothing (row_in k (replicate n 0) b) n (λ j _. plain_outside k b _ (unnamed j))))
    (λ j h e. clash _ e (unnamed j))
  where
    unnamed : (j : ℕ) → is_name (get_or (replicate n 0) j 0) ≡ false
    unnamed j = rw (get_d_zeros n j) nothing_unnamed

-- a mark that is no name's is written where none stood
pub index_plain : {hs ms : List ℕ} (r x : ℕ) → is_name (get_or ms r 0) ≡ false → is_name x ≡ false → Index hs ms → Index hs (set ms r x)
index_plain {hs} {ms} r x p q d =
    index_of hs (set ms r x) (length hs) (length ms) refl (length-set ms r x) d.some d.few d.short
    (λ b l. d.heads b l ∙ sym (last_same (row_in (length hs) ms b) (row_in (length hs) (set ms r x) b) (length ms) (λ j h. alike b j h (ℕ_discrete j r))))
    (λ j l e. link j l e (ℕ_discrete j r))
  where
    alike : (b j : ℕ) → j < length ms → Dec (j ≡ r) → row_in (length hs) (set ms r x) b j ≡ row_in (length hs) ms b j
    alike b j l (yes z) =
        rw (z, get_or-set_same ms r x 0 (rw z at l)) (plain_outside (length hs) b x q ∙ sym (plain_outside (length hs) b (get_or ms r 0) p))
    alike b j l (no z) = rw (get_or-set_other ms r j x 0 z)

    link : (j : ℕ) → j < length ms → is_name (get_or (set ms r x) j 0) ≡ true → Dec (j ≡ r)
        → link_in (get_or (set ms r x) j 0) ≡ last_passing (row_in (length hs) (set ms r x) (bucket_at (length hs) (set ms r x) j)) j
    link j l e (yes z) = clash _ (rw (z, get_or-set_same ms r x 0 (rw z at l)) at e) q
    link j l e (no z) =
        let b = bucket_at (length hs) ms j in
        let o = get_or-set_other ms r j x 0 z in
        rw o
        (d.links j l (rw o at e)
        ∙ sym (last_same (row_in (length hs) ms b) (row_in (length hs) (set ms r x) b) j (λ i h. alike b i (omega arith) (ℕ_discrete i r))))

module _ (hs ms : List ℕ) (r f e hash : ℕ) (x : Index hs ms) (w : Fresh ms r) (l : r < length ms) (g : f + 2 ≤ e) (h : e ≤ 65536) (i : hash < 65536) where
  abbrev its : ℕ
  its = bucket_of (length hs) hash

  abbrev mark : ℕ
  mark = name_mark f e (get_or hs its 0) hash

  abbrev marks : List ℕ
  marks = set ms r mark

  its_in : its < length hs
  its_in = bucket_in_lem (length hs) hash i x.some

  link-in : link_in mark ≡ get_or hs its 0
  link-in = (name_numbers f e (get_or hs its 0) hash g h (index_head x its_in) i).2

  hash-in : hash_in mark ≡ hash
  hash-in = (name_numbers f e (get_or hs its 0) hash g h (index_head x its_in) i).3

  mark_named : is_name mark ≡ true
  mark_named = name_named f e (get_or hs its 0) hash g h (index_head x its_in) i

  here : get_or marks r 0 ≡ mark
  here = get_or-set_same ms r mark 0 l

  other : (j : ℕ) → (j ≡ r → ⊥) → get_or marks j 0 ≡ get_or ms j 0
  other j z = get_or-set_other ms r j mark 0 z

  -- no name follows
  later : (j : ℕ) → r + 1 ≤ j → is_name (get_or marks j 0) ≡ false
  later j m = rw (other j (λ z. omega arith)) (w.none j (omega arith))

  -- whether a row has a name in a bucket, before and after
  abbrev was : ℕ → ℕ → Bool
  was b j = row_in (length hs) ms b j

  abbrev is : ℕ → ℕ → Bool
  is b j = row_in (length hs) marks b j

  -- it is its bucket's last name
  last_its : last_passing (is its) (length ms) ≡ r
  last_its =
      last_none (is its) (r + 1) (length ms) (omega arith) (λ j m _. plain_outside (length hs) its _ (later j m))
      ∙ rw add-one (last_here (is its) r (rw here (name_inside (length hs) its mark mark_named (rw hash-in))))

  -- the other buckets have theirs as before
  last_others : (b : ℕ) → (b ≡ its → ⊥) → last_passing (is b) (length ms) ≡ last_passing (was b) (length ms)
  last_others b z = last_same (was b) (is b) (length ms) (λ j _. alike j (ℕ_discrete j r))
    where
      alike : (j : ℕ) → Dec (j ≡ r) → is b j ≡ was b j
      alike j (yes q) =
          rw (q, here)
          (name_outside (length hs) b mark mark_named (λ u. z (rw hash-in at (sym u)))
          ∙ sym (plain_outside (length hs) b (get_or ms r 0) (w.none r (omega arith))))
      alike j (no q) = rw (other j q)

  -- and so has each row up to its own
  last_below : (b j : ℕ) → j ≤ r → last_passing (is b) j ≡ last_passing (was b) j
  last_below b j m = last_same (was b) (is b) j (λ n u. rw (other n (λ z. omega arith)))

  heads_after : (b : ℕ) → b < length hs → Dec (b ≡ its) → get_or (set hs its r) b 0 ≡ last_passing (is b) (length ms)
  heads_after b m (yes z) = rw z (get_or-set_same hs its r 0 its_in ∙ sym last_its)
  heads_after b m (no z) = get_or-set_other hs its b r 0 z ∙ x.heads b m ∙ sym (last_others b z)

  link_here : link_in mark ≡ last_passing (is its) r
  link_here =
      link-in ∙ x.heads its its_in ∙ last_none (was its) r (length ms) (omega arith) (λ j m _. plain_outside (length hs) its _ (w.none j m))
      ∙ sym (last_below its r (omega arith))

  links_after : (j : ℕ) → j < length ms → is_name (get_or marks j 0) ≡ true → Dec (j ≡ r) → Dec (j < r)
      → link_in (get_or marks j 0) ≡ last_passing (is (bucket_at (length hs) marks j)) j
  links_after j m n (yes z) u = rw (z, here, hash-in) link_here
  links_after j m n (no z) (yes u) =
      rw (other j z) (x.links j m (rw (other j z) at n) ∙ sym (last_below (bucket_at (length hs) ms j) j (omega arith)))
  links_after j m n (no z) (no u) = clash _ n (later j (omega arith))

  -- a name is written at r, behind which none stands: it leads to its bucket's last name, and is it now
  pub index_push : Index (set hs its r) marks
  index_push =
      index_of (set hs its r) marks (length hs) (length ms) (length-set hs its r) (length-set ms r mark) x.some x.few x.short
      (λ b m. heads_after b m (ℕ_discrete b its)) (λ j m n. links_after j m n (ℕ_discrete j r) (dec_lt j r))
