-- What is found in one object for the indexed names of another, on plain values.
use Prim.Native.Nat.{ℕ, suc, ◌+◌, ◌≤◌, ◌<◌}
use mathlib.Core.Path.{◌≡◌, refl, sym, ap, ◌∙◌}
use mathlib.Core.Logic.{⊎_elim}
use mathlib.Core.Bool.{Bool, true, false}
use mathlib.Core.List.{List}
use native.Mathlib.Nat.{eq-or-lt_of_le}
use native.Mathlib.Decide.{dec_lt}
use native.Mathlib.Omega.{arith}
use lib.ListN.{length, get_or, set, replicate, length-set, get_or-replicate}
use lib.Seq.{get_or-set_same, get_or-set_other}
use borrow.Author.Tests.{eqb-true, eq-eqb}
use Rattle.std.specs.Prelude.{Option, Some, None}
use Rattle.model.specs.Text.{same}
use Rattle.model.proofs.Basics.{never, by_test}
use Rattle.chars.specs.Strings.{characters}
use Rattle.chars.proofs.Facts.{same_true, last_most, last_found, last_skips}
use Rattle.tokens.proofs.Facts.{quoted_bounds}
use Rattle.syntax.specs.Tree.{Members}
use Rattle.syntax.specs.Rows.{count_members}
use Rattle.syntax.specs.Grammar.{name_of}
use Rattle.syntax.specs.Holding.{word}
use Rattle.rows.specs.Records.{ObjectRow}
use Rattle.rows.specs.Children.{Passes, Begins}
use Rattle.rows.specs.Finding.{Finds}
use Rattle.rows.specs.Matching.{member_name, entry_at, listed_name, name_bucket, bucket_in, up_to, bucket_has, last_in, Indexed, IndexOf, HasIndex, Indexes}
use Rattle.rows.specs.Matching.{filled, found_at, Fills, Matches}
use Rattle.rows.specs.declared.children.Children.{Children}
use Rattle.rows.specs.declared.matching.Entry.{Entry}
use Rattle.rows.specs.declared.matching.Index.{Index}
use Rattle.rows.proofs.records.Members.{MemberHere}
use Rattle.rows.proofs.children.Laws.{NamesLeft, names_start, name_here, names_next}
use Rattle.rows.proofs.finding.Laws.{Seeking, seek, seek_end, hit, missed}
use Rattle.rows.proofs.matching.Names.{bucket_small}

-- ---- along the chain of a bucket

-- the names from k on, of n, are settled, those before k as they were; the one before k, if any, lies in the bucket of m
pub record Filling (s : List ℕ) (es : List Entry) (n : ℕ) (m : List ℕ) (r : ℕ) (vs vs₂ : List (Option ℕ)) (k : ℕ) : Type 0 where
  pub below : k ≤ n
  pub chained : (j : ℕ) → k ≡ suc j → bucket_in s es j ≡ name_bucket m
  pub settled : (j : ℕ) → k ≤ j → j < n → found_at vs₂ j ≡ filled (same (listed_name s es j) m) r (found_at vs j)
  pub ahead : (j : ℕ) → j < k → found_at vs₂ j ≡ found_at vs j

-- the name before k lies in the bucket
passed_in : (f : ℕ → ℕ) (b k j : ℕ) → k ≡ suc j → bucket_has f b k ≡ true → f j ≡ b
passed_in f b k j z e = eqb-true (f j) b (rw z at e)

-- a name in another bucket is another name
other_bucket : (n m : List ℕ) → (name_bucket n ≡ name_bucket m → ⊥) → same n m ≡ false
other_bucket n m f = by_test (same n m) (λ t. absurd (f (ap name_bucket (same_true n m t)))) (λ t. t)

-- and nothing is found for it
filled_other : (r : ℕ) (v : Option ℕ) → filled false r v ≡ v
filled_other r None = refl
filled_other r (Some w) = refl

module _ {s : List ℕ} {es : List Entry} {n : ℕ} (m : List ℕ) {r : ℕ} {vs vs₂ : List (Option ℕ)} where
  -- the last name of the bucket below i; those from i on are settled
  from_last : (i : ℕ) → i ≤ n → ((j : ℕ) → i ≤ j → j < n → found_at vs₂ j ≡ filled (same (listed_name s es j) m) r (found_at vs j))
      → ((j : ℕ) → j < i → found_at vs₂ j ≡ found_at vs j) → Filling s es n m r vs vs₂ (last_in (bucket_in s es) (name_bucket m) i)
  from_last i u f g =
      let p = bucket_has (bucket_in s es) (name_bucket m) in
      let w = last_most p (suc i) in
      record {
        below = omega arith;
        chained = λ j z. passed_in (bucket_in s es) (name_bucket m) _ j z (last_found p (suc i) (omega (arith, z)));
        settled = λ j a l. go j a l (dec_lt j i);
        ahead = λ j l. g j (omega arith);
      }
    where
      go : (j : ℕ) → last_in (bucket_in s es) (name_bucket m) i ≤ j → j < n → Dec (j < i) → found_at vs₂ j ≡ filled (same (listed_name s es j) m) r (found_at vs j)
      go j a l (yes v) =
          let p = bucket_has (bucket_in s es) (name_bucket m) in
          rw (other_bucket (listed_name s es j) m (λ q. last_skips p (suc i) (suc j) (omega arith) (omega arith) (eq-eqb _ _ q)))
          (g j v ∙ sym (filled_other r (found_at vs j)))
      go j a l (no v) = f j (omega arith) l

module _ {room : ℕ} {s : List ℕ} {hs : List (Option ℕ)} {es : List Entry} {n : ℕ} (x : Indexed room s hs es n) {m : List ℕ} {r : ℕ} {vs : List (Option ℕ)} where
  fill_begin : {b : ℕ} → b ≡ name_bucket m → Filling s es n m r vs vs (up_to (get_or hs b None))
  fill_begin e = rw (e, x.heads (name_bucket m) (bucket_small m)) (from_last m n (omega arith) (λ j a l. absurd (omega arith)) (λ j l. refl))

  -- the name before k is settled, and leads on
  module _ {vs₂ : List (Option ℕ)} {k : ℕ} (d : Filling s es n m r vs vs₂ (suc k)) where
    fill_next : k < length vs₂ → {v : Option ℕ} → v ≡ filled (same (listed_name s es k) m) r (found_at vs₂ k)
        → Filling s es n m r vs (set vs₂ k v) (up_to (entry_at es k).before)
    fill_next w {v} e =
        let b = d.below in
        rw (x.links k (omega arith), d.chained k refl)
        (from_last m k (omega arith)
        (λ j a u. ⊎_elim (λ z. rw (← z, get_or-set_same vs₂ k v None w, e, d.ahead k (omega arith)))
        (λ y. get_or-set_other vs₂ k j v None (λ z. omega arith) ∙ d.settled j (omega arith) u) (eq-or-lt_of_le a))
        (λ j u. get_or-set_other vs₂ k j v None (λ z. omega arith) ∙ d.ahead j (omega arith)))

-- two names were compared as the bytes between their quotes
pub compared : {a b x y : List ℕ} {t : Bool} → a ≡ x → b ≡ y → t ≡ same (characters a) (characters b) → t ≡ same (characters x) (characters y)
compared p q e = e ∙ rw (p, q)

-- the same for every number of names that are indexed, before the name at the place v
pub record Along {k : ℕ} (x : Index k) (m : List ℕ) (r : ℕ) (vs vs₂ : List (Option ℕ)) (v : Option ℕ) : Type 0 where
  pub long : length vs₂ ≡ k
  pub each : {n : ℕ} → IndexOf x n → Filling x.tree.text.now x.names n m r vs vs₂ (up_to v)

-- the name at j, in a turn
pub record NameHere {k : ℕ} (x : Index k) (j : ℕ) : Type 0 where
  pub room : j < k
  pub quotes : ((entry_at x.names j).first + 2 ≤ (entry_at x.names j).end) × ((entry_at x.names j).end ≤ length x.tree.text.now)
  pub less : up_to (entry_at x.names j).before ≤ j

module _ {k : ℕ} {x : Index k} {m : List ℕ} {r : ℕ} {vs : List (Option ℕ)} where
  pub along_begin : {b : ℕ} → length vs ≡ k → b ≡ name_bucket m → Along x m r vs vs (get_or x.heads b None)
  along_begin l e = record { long = l; each = λ y. fill_begin y e }

  module _ {vs₂ : List (Option ℕ)} {v : Option ℕ} (a : Along x m r vs vs₂ v) where
    pub along_end : length vs ≡ k → v ≡ None → Fills x m r vs vs₂
    along_end e z = record {
      long = a.long ∙ sym e;
      tells = λ y j u. let f = (a.each y).settled in let l : up_to v ≡ 0 = ap up_to z in f j (omega (arith, l)) u;
    }

    module _ {j : ℕ} (z : v ≡ Some j) where
      -- it has its place and both its quotes, and its link goes down
      pub along_name : HasIndex x → NameHere x j
      along_name h =
          let y = h.index in
          let l : up_to v ≡ suc j = ap up_to z in
          let place : j < h.count = omega (arith, (a.each y).below, l) in
          let b = quoted_bounds (y.quoted j place) in
          record {
            room = omega (arith, y.few);
            quotes = (b.0, b.1);
            less = omega (arith, y.links j place, last_most (bucket_has (bucket_in x.tree.text.now x.names) (bucket_in x.tree.text.now x.names j)) (suc j));
          }

      pub along_next : j < k → {t : Bool} {w : Option ℕ} → t ≡ same (listed_name x.tree.text.now x.names j) m → w ≡ filled t r (found_at vs₂ j)
          → Along x m r vs (set vs₂ j w) (entry_at x.names j).before
      along_next l p e = record { long = simp length-set a.long; each = λ y. fill_next y (rw z at (a.each y)) (omega (arith, a.long)) (rw p at e) }

-- ---- the members of the other object, one after the other

-- of one name: nothing is found so far, or its row
pub record Sought (s t : List ℕ) (r : ℕ) (key : List ℕ) (c : Children 1) (v : Option ℕ) : Type 0 where
  pub unseen : v ≡ None → Seeking s t r key c
  pub done : {w : ℕ} → v ≡ Some w → Finds s t r key v

module _ {s t : List ℕ} {r : ℕ} {key : List ℕ} {c : Children 1} where
  pub sought_none : (o : ObjectRow s t r) → Begins t r c → {v : Option ℕ} → v ≡ None → Sought s t r key c v
  sought_none o b z = record { unseen = λ _. seek o b; done = λ e. never (cc (z, e)) }

  pub sought_end : {v : Option ℕ} → Sought s t r key c v → c.left ≡ 0 → Finds s t r key v
  sought_end {v = None} a l = seek_end (a.unseen refl) l
  sought_end {v = Some w} a l = a.done refl

  module _ {row : ℕ} {d : Children 1} (p : Passes c row d) where
    pub sought_next : (v w : Option ℕ) → Sought s t r key c v → w ≡ filled (same key (name_of s (word t row 1) (word t row 2))) (row + 1) v
        → Sought s t r key d w
    sought_next None w a e =
        by_test (same key (name_of s (word t row 1) (word t row 2)))
        (λ y. let z : w ≡ Some (row + 1) = rw y at e in record { unseen = λ u. never (cc (z, u)); done = λ _. rw z (hit (a.unseen refl) p y) })
        (λ y. let z : w ≡ None = rw y at e in record { unseen = λ _. missed (a.unseen refl) p y; done = λ u. never (cc (z, u)) })
    sought_next (Some v) w a e = record { unseen = λ u. never (cc (e, u)); done = λ _. rw e (a.done refl) }

-- of one name for which v was found before
pub record Adding (s t : List ℕ) (r : ℕ) (key : List ℕ) (c : Children 1) (v v₂ : Option ℕ) : Type 0 where
  pub fresh : v ≡ None → Sought s t r key c v₂
  pub kept : {w : ℕ} → v ≡ Some w → v₂ ≡ v

-- before the members whose names are left
pub record Searching {k : ℕ} (s t : List ℕ) (r : ℕ) (x : Index k) (vs vs₂ : List (Option ℕ)) (c : Children 1) : Type 0 where
  pub long : length vs₂ ≡ length vs
  pub rest : Members
  pub ahead : NamesLeft s t c rest
  pub each : {n : ℕ} → IndexOf x n → (j : ℕ) → j < n → Adding s t r (listed_name x.tree.text.now x.names j) c (found_at vs j) (found_at vs₂ j)

module _ {k : ℕ} {s t : List ℕ} {r : ℕ} {x : Index k} {vs : List (Option ℕ)} {c : Children 1} where
  pub search_start : (o : ObjectRow s t r) → Begins t r c → Searching s t r x vs vs c
  search_start o b = record {
    long = refl;
    rest = o.members;
    ahead = names_start o b;
    each = λ y j l. record { fresh = λ z. sought_none o b z; kept = λ _. refl };
  }

  module _ {vs₂ : List (Option ℕ)} (a : Searching s t r x vs vs₂ c) where
    -- each name of the indexed object
    pub search_end : c.left ≡ 0 → {s₂ t₂ : List ℕ} {r₂ : ℕ} → Indexes s₂ t₂ r₂ x → Matches s t r s₂ t₂ r₂ vs vs₂
    search_end l {s₂} {t₂} {r₂} i = record {
      long = a.long;
      tells = λ o j m.
          (let y = a.each (i.tells o) j m in
          rw (← i.lists.tells o j m, ← i.text) (record { fresh = λ z. sought_end (y.fresh z) l; kept = y.kept }));
    }

    module _ {row : ℕ} {d : Children 1} (p : Passes c row d) where
      pub search_name : MemberHere s t row a.rest
      search_name = name_here a.ahead p

      pub search_next : {vs₃ : List (Option ℕ)} → Fills x (name_of s (word t row 1) (word t row 2)) (row + 1) vs₂ vs₃ → Searching s t r x vs vs₃ d
      search_next {vs₃} f = record {
        long = f.long ∙ a.long;
        rest = search_name.others;
        ahead = names_next a.ahead p search_name;
        each = λ y j l. record {
          fresh = λ u. sought_next p (found_at vs₂ j) (found_at vs₃ j) ((a.each y j l).fresh u) (f.tells y j l);
          kept = λ u. (let e = (a.each y j l).kept u in rw (e, u) at (f.tells y j l) ∙ sym u);
        };
      }

-- where nothing was found before
pub matched_fresh : {k : ℕ} {s₁ t₁ : List ℕ} {r₁ : ℕ} {s₂ t₂ : List ℕ} {r₂ : ℕ} {vs : List (Option ℕ)} → Matches s₁ t₁ r₁ s₂ t₂ r₂ (replicate k None) vs
    → (o : ObjectRow s₂ t₂ r₂) → count_members o.members ≤ k → (j : ℕ) → j < count_members o.members
    → Finds s₁ t₁ r₁ (member_name s₂ o.members j) (found_at vs j)
matched_fresh {k} m o few j l = (m.tells o j l).fresh (get_or-replicate k j None None (omega arith))

-- ---- what holds of the names of the members that are left, and of what was found for them in vs, from i on

pub record Answers (P : List ℕ → Option ℕ → Type 0) (s : List ℕ) (rest : Members) (vs : List (Option ℕ)) (i left : ℕ) : Type 0 where
  pub each : (j : ℕ) → j < left → P (member_name s rest j) (found_at vs (i + j))

module _ {P : List ℕ → Option ℕ → Type 0} {s : List ℕ} {vs : List (Option ℕ)} where
  pub answers_start : {ms : Members} {n : ℕ} → ((j : ℕ) → j < n → P (member_name s ms j) (found_at vs j)) → Answers P s ms vs 0 n
  answers_start f = record { each = λ j l. let z : 0 + j ≡ j = omega arith in rw z (f j l) }

  module _ {t : List ℕ} {row i : ℕ} {rest : Members} {c d : Children 1} (a : Answers P s rest vs i c.left) (p : Passes c row d) (m : MemberHere s t row rest) where
    pub answers_here : P (name_of s (word t row 1) (word t row 2)) (found_at vs i)
    answers_here = let z : i + 0 ≡ i = omega arith in rw (z, m.is) at (a.each 0 p.some)

    pub answers_next : Answers P s m.others vs (i + 1) d.left
    answers_next = record { each = λ j l. let z : i + suc j ≡ i + 1 + j = omega arith in rw (z, m.is) at (a.each (suc j) (omega (arith, p.left))) }
