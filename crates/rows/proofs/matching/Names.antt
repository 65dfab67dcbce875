-- The index of names by the hash of their characters: buckets, the index behind one name more, and all names of an object, one after the other.
use Prim.Native.Nat.{ℕ, zero, suc, ◌+◌, ◌/◌, ◌≤◌, ◌<◌}
use mathlib.Core.Path.{◌≡◌, refl, sym, ap, ◌∙◌}
use mathlib.Core.Logic.{⊎_elim}
use mathlib.Core.List.{List}
use native.Mathlib.Numerals.{add-one}
use native.Mathlib.Nat.{eq-or-lt_of_le}
use native.Mathlib.Decide.{ℕ_discrete}
use native.Mathlib.Omega.{arith}
use lib.ListN.{length, get_or, set, replicate, length-set, length-replicate, get_or-replicate}
use lib.Seq.{get_or-set_same, get_or-set_other}
use borrow.Author.Tests.{eq-eqb, ne_eqb}
use Rattle.std.specs.Prelude.{Option, Some, None}
use Rattle.tokens.specs.Spelling.{IsQuoted}
use Rattle.model.proofs.Basics.{never}
use Rattle.chars.specs.Hashing.{hashed, hashed_at}
use Rattle.std.specs.Prelude.{Ok, Err}
use Rattle.chars.specs.declared.refusals.Refusal.{Refusal}
use Rattle.chars.proofs.Facts.{hash_small, name_hashed, name_broken, last_here, last_before, last_most, last_nothing, last_same}
use Rattle.syntax.specs.Tree.{Members}
use Rattle.syntax.specs.Rows.{count_members}
use Rattle.syntax.specs.Grammar.{name_of}
use Rattle.syntax.specs.Holding.{word}
use Rattle.rows.specs.Records.{Reads, ObjectRow}
use Rattle.rows.specs.Children.{Passes, Begins}
use Rattle.rows.specs.Matching.{bucket_count, member_name, no_entry, entry_at, listed_name, name_bucket, bucket_in, Buckets, up_to, bucket_has, last_in, Indexed}
use Rattle.rows.specs.declared.children.Children.{Children}
use Rattle.rows.specs.declared.matching.Entry.{Entry}
use Rattle.rows.specs.declared.records.Record.{Record}
use Rattle.rows.proofs.records.Trees.{same_members}
use Rattle.rows.proofs.records.Members.{MemberHere, member_read, quoted_read}
use Rattle.rows.proofs.children.Laws.{NamesLeft, names_start, name_here, names_next}

-- ---- buckets

pub bucket_small : (n : List ℕ) → name_bucket n < bucket_count
bucket_small n = omega (arith, hash_small n)

-- the bucket of the name whose opening quote is at f; what is broken there is no name
module _ {s : List ℕ} {f : ℕ} where
  pub name-bucket : {e h : ℕ} → hashed_at s (f + 1) ≡ Ok (hashed e h) → Buckets s f (h / 64)
  name-bucket {e} {h} q =
      let w = name_hashed s (f + 1) e h q in
      record {
        small = omega (arith, w.1, hash_small (name_of s f e));
        tells = λ e₂ r. let z : e ≡ e₂ = cc (w.0, r.ends) in rw z at (ap (λ (x : ℕ). x / 64) w.1);
      }

  pub broken_bucket : {bad : Refusal} → hashed_at s (f + 1) ≡ Err bad → Buckets s f 0
  broken_bucket {bad} q = record { small = omega arith; tells = λ e r. never (cc (name_broken s (f + 1) bad q, r.ends)) }

-- of a name as it was read
pub read_bucket : {s t : List ℕ} {row b : ℕ} {x : Record} → Reads t row x → Buckets s x.first b → IsQuoted s (word t row 1) (word t row 2)
    → b ≡ name_bucket (name_of s (word t row 1) (word t row 2))
read_bucket {s} {t} {row} {b} w k q = let l : Buckets s (word t row 1) b = rw w.first at k in l.tells (word t row 2) q

-- other names behind the first n
last_kept : (f g : ℕ → ℕ) (b n : ℕ) → ((j : ℕ) → j < n → g j ≡ f j) → last_in g b n ≡ last_in f b n
last_kept f g b n h = last_same (bucket_has f b) (bucket_has g b) (suc n) alike
  where
    alike : (j : ℕ) → j < suc n → bucket_has g b j ≡ bucket_has f b j
    alike zero l = refl
    alike (suc j) l = rw (h j (omega arith))

-- ---- the index

-- its lists have their places
pub record Long (k : ℕ) (hs : List (Option ℕ)) (es : List Entry) : Type 0 where
  pub heads : length hs ≡ bucket_count
  pub names : length es ≡ k

-- no name is indexed
index_none : (k : ℕ) (s : List ℕ) (es : List Entry) → Indexed k s (replicate bucket_count None) es 0
index_none k s es = record {
  few = omega arith;
  heads = λ b l. ap up_to (get_or-replicate bucket_count b None None l)
      ∙ sym (last_nothing (bucket_has (bucket_in s es) b) 1 (λ j m. let z : j ≡ 0 = omega arith in rw z));
  links = λ j l. absurd (omega arith);
  quoted = λ j l. absurd (omega arith);
}

module _ {k : ℕ} {s : List ℕ} {hs : List (Option ℕ)} {es : List Entry} {n : ℕ} (x : Indexed k s hs es n) where
  -- the places behind the first n are set anew
  index_kept : {es₂ : List Entry} → ((j : ℕ) → j < n → entry_at es₂ j ≡ entry_at es j) → Indexed k s hs es₂ n
  index_kept {es₂} p =
      let f = bucket_in s es in
      let g = bucket_in s es₂ in
      let w : (j : ℕ) → j < n → g j ≡ f j = λ j l. rw (p j l) in
      record {
        few = x.few;
        heads = λ b l. x.heads b l ∙ sym (last_kept f g b n w);
        links = λ j l. rw (p j l) (x.links j l ∙ sym (last_kept f g (f j) j (λ i m. w i (omega arith))));
        quoted = λ j l. rw (p j l) (x.quoted j l);
      }

  pub index_head : {b : ℕ} → b < bucket_count → up_to (get_or hs b None) ≤ k
  index_head {b} l = omega (arith, x.few, x.heads b l, last_most (bucket_has (bucket_in s es) b) (suc n))

  -- the name at n comes into the index: it leads to its bucket's last name, and is it now
  module _ {b : ℕ} (e : b ≡ bucket_in s es n) (small : b < bucket_count) (long : Long k hs es) where
    more_heads : (c : ℕ) → c < bucket_count → up_to (get_or (set hs b (Some n)) c None) ≡ last_in (bucket_in s es) c (n + 1)
    more_heads c m = go (ℕ_discrete c b)
      where
        go : Dec (c ≡ b) → up_to (get_or (set hs b (Some n)) c None) ≡ last_in (bucket_in s es) c (n + 1)
        go (yes z) =
            rw (z, get_or-set_same hs b (Some n) None (omega (arith, long.heads)), add-one)
            (sym (last_here (bucket_has (bucket_in s es) b) (suc n) (eq-eqb _ b (sym e))))
        go (no z) =
            rw (get_or-set_other hs b c (Some n) None z, add-one)
            (x.heads c m ∙ sym (last_before (bucket_has (bucket_in s es) c) (suc n) (ne_eqb _ c (λ y. z (sym y ∙ sym e)))))

    index_more : n < k → (entry_at es n).before ≡ get_or hs b None → IsQuoted s (entry_at es n).first (entry_at es n).end
        → Indexed k s (set hs b (Some n)) es (n + 1)
    index_more l p q = record {
      few = omega arith;
      heads = more_heads;
      links = λ j m. ⊎_elim (λ z. rw z (ap up_to p ∙ x.heads b small ∙ ap (λ c. last_in (bucket_in s es) c n) e)) (λ u. x.links j u) (eq-or-lt_of_le (omega arith));
      quoted = λ j m. ⊎_elim (λ z. rw z q) (λ u. x.quoted j u) (eq-or-lt_of_le (omega arith));
    }

-- a name is put behind the others
pub index_push : {k : ℕ} {s : List ℕ} {hs : List (Option ℕ)} {es : List Entry} {n b : ℕ} {v : Entry} → Indexed k s hs es n → b ≡ name_bucket (name_of s v.first v.end)
    → b < bucket_count → n < k → Long k hs es → v.before ≡ get_or hs b None → IsQuoted s v.first v.end → Indexed k s (set hs b (Some n)) (set es n v) (n + 1)
index_push {k} {s} {hs} {es} {n} {b} {v} x p small l w e q =
    let y : Indexed k s hs (set es n v) n = index_kept x (λ j m. get_or-set_other es n j v no_entry (λ z. omega arith)) in
    let long : Long k hs (set es n v) = record { heads = w.heads; names = simp length-set w.names } in
    let u : entry_at (set es n v) n ≡ v = get_or-set_same es n v no_entry (omega (arith, w.names)) in
    index_more y (rw u p) small long l (rw u e) (rw u q)

-- ---- the names of an object, one after the other

-- the first i are indexed, in room for k, and those of c are left
pub record Indexing (k : ℕ) (s t : List ℕ) (r : ℕ) (hs : List (Option ℕ)) (es : List Entry) (i : ℕ) (c : Children 1) : Type 0 where
  pub room : i + c.left ≤ k
  pub long : Long k hs es
  pub index : Indexed k s hs es i
  pub rest : Members
  pub ahead : NamesLeft s t c rest
  pub counts : (o : ObjectRow s t r) → i + c.left ≡ count_members o.members
  pub listed : (o : ObjectRow s t r) (j : ℕ) → j < i → listed_name s es j ≡ member_name s o.members j
  pub behind : (o : ObjectRow s t r) (j : ℕ) → member_name s rest j ≡ member_name s o.members (i + j)

module _ {k : ℕ} {s t : List ℕ} {r : ℕ} where
  pub indexing_start : (o : ObjectRow s t r) {c : Children 1} {hs : List (Option ℕ)} {es : List Entry} → Begins t r c → word t r 3 ≤ k
      → (hs ≡ replicate bucket_count None) × (length es ≡ k) → Indexing k s t r hs es 0 c
  indexing_start o {es = es} b l e = record {
    room = omega (arith, b.left);
    long = record { heads = rw e.0 (length-replicate {A = Option ℕ} bucket_count None); names = e.1 };
    index = rw e.0 (index_none k s es);
    rest = o.members;
    ahead = names_start o b;
    counts = λ p. omega (arith, (names_start p b).members.counts);
    listed = λ p j m. absurd (omega arith);
    behind = λ p j. let z : 0 + j ≡ j = omega arith in rw z (ap (λ (ms : Members). member_name s ms j) (same_members o p));
  }

  module _ {hs : List (Option ℕ)} {es : List Entry} {i : ℕ} {c : Children 1} (a : Indexing k s t r hs es i c) where
    module _ {row : ℕ} {d : Children 1} (g : Passes c row d) where
      pub indexing_name : MemberHere s t row a.rest
      indexing_name = name_here a.ahead g

      pub indexing_room : i < k
      indexing_room = omega (arith, a.room, g.some)

      module _ {x : Record} (p : Reads t row x) where
        next_behind : (o : ObjectRow s t r) (j : ℕ) → member_name s indexing_name.others j ≡ member_name s o.members (i + 1 + j)
        next_behind o j =
            let w : i + suc j ≡ i + 1 + j = omega arith in
            sym (ap (λ (ms : Members). member_name s ms (suc j)) (member_read indexing_name p)) ∙ rw w at (a.behind o (suc j))

      module _ {x : Record} (p : Reads t row x) (v : Entry) (z : (v.first ≡ x.first) × (v.end ≡ x.end)) where
        next_listed : (o : ObjectRow s t r) (j : ℕ) → j < i + 1 → listed_name s (set es i v) j ≡ member_name s o.members j
        next_listed o j m = ⊎_elim here_listed (λ u. kept u) (eq-or-lt_of_le (omega arith))
          where
            here_listed : j ≡ i → listed_name s (set es i v) j ≡ member_name s o.members j
            here_listed y =
                let w : i + 0 ≡ i = omega arith in
                let f : entry_at (set es i v) i ≡ v = get_or-set_same es i v no_entry (omega (arith, a.long.names, indexing_room)) in
                rw (y, f, z.0, z.1) (sym (ap (λ (ms : Members). member_name s ms 0) (member_read indexing_name p)) ∙ rw w at (a.behind o 0))

            kept : j < i → listed_name s (set es i v) j ≡ member_name s o.members j
            kept u = rw (get_or-set_other es i j v no_entry (λ y. omega arith)) (a.listed o j u)

        pub indexing_next : {b : ℕ} → Buckets s x.first b → v.before ≡ get_or hs b None → Indexing k s t r (set hs b (Some i)) (set es i v) (i + 1) d
        indexing_next {b} u e =
            let quoted : IsQuoted s v.first v.end = rw (z.0, z.1) (quoted_read p indexing_name.quoted) in
            let w = a.long in
            record {
              room = omega (arith, a.room, g.some, g.left);
              long = record { heads = simp length-set w.heads; names = simp length-set w.names };
              index = index_push a.index (rw (z.0, z.1) (u.tells x.end (quoted_read p indexing_name.quoted))) u.small indexing_room w e quoted;
              rest = indexing_name.others;
              ahead = names_next a.ahead g indexing_name;
              counts = λ o. omega (arith, a.counts o, g.some, g.left);
              listed = next_listed;
              behind = next_behind p;
            }
