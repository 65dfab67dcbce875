-- The values of specs/Witness.antt that meet a definition: its sample, and objects with a given member.
use Prim.Native.Nat.{ℕ, zero, suc, ◌+◌, ◌*◌, ◌^◌, ◌≤◌, ◌<◌}
use native.Mathlib.Omega.{arith}
use mathlib.Core.Path.{◌≡◌, refl, sym, ap, ◌∙◌, subst}
use mathlib.Core.Logic.{inl, inr}
use mathlib.Core.Bool.{Bool, true, false, not, cond, ◌&&◌, ◌||◌, false≢true, and-eq-true_iff, or_assoc}
use mathlib.Core.List.{List, [], ◌∷◌, ◌++◌}
use lib.ListN.{length}
use lib.Dec.{leb, eqb}
use borrow.Author.Tests.{leb-true, leb-false, eqb-true, eqb-false, eq-eqb, ne_eqb}
use native.Mathlib.Nat.{pow-suc}
use Rattle.model.specs.Text.{text, same, is_scalar, is_text}
use Rattle.model.specs.Value.{Value, object, Members, mnil, mcons, Under, has_name, is_fraction, IsNumber, IsJson, AreMembers}
use Rattle.model.specs.Definition.{Named, JSON, Schema, Float, Integer, String, Boolean, DateTime, Def, named, array_of, map_of}
use Rattle.model.specs.Definition.{object-of, Fields, fnil, fcons, has_field, disjoint}
use Rattle.model.specs.Meeting.{meets_named, HasNames, Meets, FieldsMeet}
use Rattle.model.specs.Subtype.{field_or, of_objects, other, under}
use Rattle.model.specs.Witness.{plain_value, sample, kept, following, behind, rarer, avoiding, names, own_names, fresh, others, with_member}
use Rattle.model.proofs.Basics.{same_eq, same_of, same_refl, or-true, or-false, or_left, or_right, not-true, clash, false_of, both}
use Rattle.model.proofs.Basics.{by_test}
use Rattle.model.proofs.Formed.{WellFormed, AreFields}

-- a test that every named type passes, computed
abbrev pub every : (Named → Bool) → Bool
every p = p JSON && (p Schema && (p Float && (p Integer && (p String && (p Boolean && p DateTime)))))

parts : (x y : Bool) → x && y ≡ true → (x ≡ true) × (y ≡ true)
parts x y = (and-eq-true_iff x y).0

pub every_at : (p : Named → Bool) → every p ≡ true → (t : Named) → p t ≡ true
every_at p h JSON = (parts (p JSON) _ h).0
every_at p h Schema = (parts (p Schema) _ (parts (p JSON) _ h).1).0
every_at p h Float = (parts (p Float) _ (parts (p Schema) _ (parts (p JSON) _ h).1).1).0
every_at p h Integer = (parts (p Integer) _ (parts (p Float) _ (parts (p Schema) _ (parts (p JSON) _ h).1).1).1).0
every_at p h String = (parts (p String) _ (parts (p Integer) _ (parts (p Float) _ (parts (p Schema) _ (parts (p JSON) _ h).1).1).1).1).0
every_at p h Boolean =
    (parts (p Boolean) _ (parts (p String) _ (parts (p Integer) _ (parts (p Float) _ (parts (p Schema) _ (parts (p JSON) _ h).1).1).1).1).1).0
every_at p h DateTime =
    (parts (p Boolean) _ (parts (p String) _ (parts (p Integer) _ (parts (p Float) _ (parts (p Schema) _ (parts (p JSON) _ h).1).1).1).1).1).1

pub plain_meets : (t : Named) → meets_named t (plain_value t) ≡ true
plain_meets = every_at (λ t. meets_named t (plain_value t)) refl

zero_number : (s f : List ℕ) → s ≡ text "0" ++ (f ++ []) → is_fraction f ≡ true → IsNumber s
zero_number s f e h = record {
  minus = [];
  int = text "0";
  fraction = f;
  exponent = [];
  spelled = e;
  is_minus = inl refl;
  is-int = refl;
  is-fraction = h;
  is-exponent = refl;
}

pub plain_json : (t : Named) → IsJson (plain_value t)
plain_json JSON = tt
plain_json Schema = refl
plain_json Float = zero_number (text "0.5") (text ".5") refl refl
plain_json Integer = zero_number (text "0") [] refl refl
plain_json String = refl
plain_json Boolean = tt
plain_json DateTime = refl

pub under_name : (n : List ℕ) (w : Value) (ms : Members) → Under n w ms → has_name n ms ≡ true
under_name n w mnil u = absurd u
under_name n w (mcons m v ms) (inl e) = or_left (same n m) (has_name n ms) (same_of n m e.0)
under_name n w (mcons m v ms) (inr u) = or_right (same n m) (has_name n ms) (under_name n w ms u)

-- a member that is kept is a field
pub kept_name : (p : List ℕ → Bool) (fs : Fields) (n : List ℕ) → has_name n (kept p fs) ≡ true → has_field n fs ≡ true
kept_name p fnil n = λ h. h
kept_name p (fcons m d fs) n =
    both (λ ms. has_name n ms ≡ true → same n m || has_field n fs ≡ true) (p m)
    (λ e h. elim (or-true (same n m) (has_name n (kept p fs)) h) [
      | inl k ↦ or_left (same n m) (has_field n fs) k
      | inr k ↦ or_right (same n m) (has_field n fs) (kept_name p fs n k)
    ])
    (λ e h. or_right (same n m) (has_field n fs) (kept_name p fs n h))

-- a name that p refuses is not kept
pub kept_not : (p : List ℕ → Bool) (fs : Fields) (n : List ℕ) → p n ≡ false → has_name n (kept p fs) ≡ false
kept_not p fnil n e = refl
kept_not p (fcons m d fs) n e =
    both (λ ms. has_name n ms ≡ false) (p m)
    (λ k. by_test (same n m) (λ q. clash (p n) (rw (same_eq n m q) k) e) (λ q. rw q (kept_not p fs n e)))
    (λ k. kept_not p fs n e)

-- a field that p takes is kept
pub kept_has : (p : List ℕ → Bool) (fs : Fields) (n : List ℕ) → p n ≡ true → has_field n fs ≡ true → has_name n (kept p fs) ≡ true
kept_has p fnil n e h = h
kept_has p (fcons m d fs) n e h =
    both (λ ms. has_name n ms ≡ true) (p m)
    (λ k. elim (or-true (same n m) (has_field n fs) h) [
      | inl q ↦ or_left (same n m) (has_name n (kept p fs)) q
      | inr q ↦ or_right (same n m) (has_name n (kept p fs)) (kept_has p fs n e q)
    ])
    (λ k. elim (or-true (same n m) (has_field n fs) h) [
      | inl q ↦ clash (p n) e (rw (same_eq n m q) k)
      | inr q ↦ kept_has p fs n e q
    ])

-- ---- what the fields ask, by name
pub field_or_absent : (e : Def) (n : List ℕ) (fs : Fields) → has_field n fs ≡ false → field_or e n fs ≡ e
field_or_absent e n fnil h = refl
field_or_absent e n (fcons m d fs) h =
    let k = or-false (same n m) (has_field n fs) h in
    rw k.0 (field_or_absent e n fs k.1)

pub field_or_present : (e e' : Def) (n : List ℕ) (fs : Fields) → has_field n fs ≡ true → field_or e n fs ≡ field_or e' n fs
field_or_present e e' n fnil h = absurd (false≢true h)
field_or_present e e' n (fcons m d fs) h = elim (or-true (same n m) (has_field n fs) h) [
  | inl k ↦ rw k refl
  | inr k ↦ rw (field_or_present e e' n fs k) refl
]

pub field_or_formed : (e : Def) → WellFormed e → (n : List ℕ) (fs : Fields) → AreFields fs → WellFormed (field_or e n fs)
field_or_formed e h n fnil w = h
field_or_formed e h n (fcons m d fs) w = both (λ c. WellFormed c) (same n m) (λ k. w.2) (λ k. field_or_formed e h n fs w.3)

pub disjoint_at : (r o : Fields) → disjoint r o ≡ true → (n : List ℕ) → has_field n r ≡ true → has_field n o ≡ false
disjoint_at r fnil h n k = refl
disjoint_at r (fcons m d fs) h n k =
    let j = (and-eq-true_iff (not (has_field m r)) (disjoint r fs)).0 h in
    by_test (same n m)
    (λ q. clash (has_field n r) k (rw (same_eq n m q) (not-true (has_field m r) j.0)))
    (λ q. rw q (disjoint_at r fs j.1 n k))

-- ---- members that have the names and hold what is asked meet the fields
names_of : (fs : Fields) (ms : Members) → ((n : List ℕ) → has_field n fs ≡ true → has_name n ms ≡ true) → HasNames fs ms
names_of fnil ms h = tt
names_of (fcons m d fs) ms h =
    (h m (or_left (same m m) (has_field m fs) (same_refl m)), names_of fs ms (λ n k. h n (or_right (same n m) (has_field n fs) k)))

fields_of_lem :
    (fs : Fields) → AreFields fs → (ms : Members) → ((n : List ℕ) (w : Value) → Under n w ms → Meets (field_or (named JSON) n fs) w) → FieldsMeet fs ms
fields_of_lem fnil k ms h = tt
fields_of_lem (fcons m d fs) k ms h = (
  λ w u. subst (λ (b : Bool). Meets (cond b d (field_or (named JSON) m fs)) w) (same_refl m) (h m w u),
  fields_of_lem fs k.3 ms (λ n w u. by_test (same n m)
      (λ q. rw (field_or_absent (named JSON) n fs (rw (same_eq n m q) k.1)) refl)
      (λ q. subst (λ (b : Bool). Meets (cond b d (field_or (named JSON) n fs)) w) q (h n w u))),
)

pub object_meets : (r o : Fields) → WellFormed (object-of r o) → (ms : Members)
    → ((n : List ℕ) → has_field n r ≡ true → has_name n ms ≡ true)
    → ((n : List ℕ) (w : Value) → Under n w ms → Meets (under (object-of r o) n) w)
    → Meets (object-of r o) (object ms)
object_meets r o k ms hn hw = (
  names_of r ms hn,
  fields_of_lem r k.0 ms (λ n w u. by_test (has_field n r)
      (λ q. rw (field_or_present (named JSON) (field_or (named JSON) n o) n r q) (hw n w u))
      (λ q. rw (field_or_absent (named JSON) n r q) refl)),
  fields_of_lem o k.1 ms (λ n w u. by_test (has_field n r)
      (λ q. rw (field_or_absent (named JSON) n o (disjoint_at r o k.2 n q)) refl)
      (λ q. rw (field_or_absent (field_or (named JSON) n o) n r q) at (hw n w u))),
)

-- a member that a later field keeps is not of the first field's name
later : (m : List ℕ) (d : Def) (fs : Fields) → AreFields (fcons m d fs) → (p : List ℕ → Bool) (e : Def) (n : List ℕ) (w : Value)
    → Under n w (kept p fs) → Meets (field_or e n fs) w → Meets (field_or e n (fcons m d fs)) w
later m d fs k p e n w u h = both (λ c. Meets c w) (same n m)
    (λ q. clash (has_field n fs) (kept_name p fs n (under_name n w (kept p fs) u)) (rw (same_eq n m q) k.1))
    (λ q. h)

-- ---- every well-formed definition has a value
mutual
  pub sample_meets : (d : Def) → WellFormed d → Meets d (sample d)
  sample_meets (named t) k = plain_meets t
  sample_meets (array_of d) k = λ w i. absurd i
  sample_meets (map_of d) k = λ n w u. absurd u
  sample_meets (object-of r o) k =
      object_meets r o k (kept (λ m. true) r) (λ n h. kept_has (λ m. true) r n refl h)
      (λ n w u. kept_under r k.0 (λ m. true) (field_or (named JSON) n o) n w u)

  -- what is kept meets what the fields ask
  pub kept_under : (fs : Fields) → AreFields fs → (p : List ℕ → Bool) (e : Def) (n : List ℕ) (w : Value) → Under n w (kept p fs) → Meets (field_or e n fs) w
  kept_under fnil k p e n w = λ u. absurd u
  kept_under (fcons m d fs) k p e n w =
      both (λ ms. Under n w ms → Meets (cond (same n m) d (field_or e n fs)) w) (p m)
      (λ q u. elim u [
        | inl h ↦ rw (same_of n m h.0, h.1) (sample_meets d k.2)
        | inr h ↦ later m d fs k p e n w h (kept_under fs k.3 p e n w h)
      ])
      (λ q u. later m d fs k p e n w u (kept_under fs k.3 p e n w u))

mutual
  pub sample_json : (d : Def) → WellFormed d → IsJson (sample d)
  sample_json (named t) k = plain_json t
  sample_json (array_of d) k = tt
  sample_json (map_of d) k = tt
  sample_json (object-of r o) k = kept_json r k.0 (λ m. true)

  pub kept_json : (fs : Fields) → AreFields fs → (p : List ℕ → Bool) → AreMembers (kept p fs)
  kept_json fnil k p = tt
  kept_json (fcons m d fs) k p =
      both (λ ms. AreMembers ms) (p m)
      (λ q.
      (k.0, false_of (has_name m (kept p fs)) (has_field m fs) (kept_name p fs m) k.1, sample_json d k.2, kept_json fs k.3 p))
      (λ q. kept_json fs k.3 p)

-- ---- objects with a given member
pub member_json : (a : Def) → WellFormed a → (n : List ℕ) → is_text n ≡ true → (w : Value) → IsJson w → IsJson (with_member a n w)
member_json (named t) k n nt w j = (nt, refl, j, tt)
member_json (array_of d) k n nt w j = (nt, refl, j, tt)
member_json (map_of d) k n nt w j = (nt, refl, j, tt)
member_json (object-of r o) k n nt w j =
    (nt, kept_not (λ m. not (same n m)) r n (rw (same_refl n) refl), j, kept_json r k.0 (λ m. not (same n m)))

pub member_meets : (a : Def) → of_objects a ≡ true → WellFormed a → (n : List ℕ) (w : Value) → Meets (under a n) w → Meets a (with_member a n w)
member_meets (named t) e k n w h = absurd (false≢true e)
member_meets (array_of d) e k n w h = absurd (false≢true e)
member_meets (map_of d) e k n w h = λ m v u. elim u [ inl q ↦ rw q.1 h | inr q ↦ absurd q ]
member_meets (object-of r o) e k n w h =
    object_meets r o k (mcons n w (kept (λ m. not (same n m)) r))
    (λ m q. by_test (same m n)
    (λ z. or_left (same m n) (has_name m (kept (λ m. not (same n m)) r)) z)
    (λ z. or_right (same m n) (has_name m (kept (λ m. not (same n m)) r))
    (kept_has (λ m. not (same n m)) r m (rw (false_of (same n m) (same m n) (λ x. same_of m n (sym (same_eq n m x))) z) refl) q)))
    (λ m v u. elim u [
      | inl q ↦ rw (q.0, q.1) h
      | inr q ↦ kept_under r k.0 (λ m. not (same n m)) (field_or (named JSON) m o) m v q
    ])

-- ---- the fresh name is none of the definition's names

-- n is one of the names
abbrev is_one : List ℕ → List (List ℕ) → Bool
is_one n [] = false
is_one n (m ∷ ns) = same n m || is_one n ns

one_append : (n : List ℕ) (ns ms : List (List ℕ)) → is_one n (ns ++ ms) ≡ (is_one n ns || is_one n ms)
one_append n [] ms = refl
one_append n (m ∷ ns) ms = rw (one_append n ns ms) (sym (or_assoc (same n m) (is_one n ns) (is_one n ms)))

one_field : (n : List ℕ) (fs : Fields) → has_field n fs ≡ is_one n (names fs)
one_field n fnil = refl
one_field n (fcons m d fs) = ap (λ (b : Bool). same n m || b) (one_field n fs)

-- a name that begins with c is one of the names exactly when the rest of it is one of what follows c
one_following : (c : ℕ) (n m : List ℕ) (ns : List (List ℕ)) → is_one n (following c m ns) ≡ (same (c ∷ n) m || is_one n ns)
one_following c n [] ns = refl
one_following c n (x ∷ m) ns =
    by_test (eqb x c) (λ t. rw (t, eq-eqb c x (sym (eqb-true x c t))))
    (λ f. rw (f, ne_eqb c x (λ q. eqb-false x c f (sym q))))

one_behind : (c : ℕ) (n : List ℕ) (ns : List (List ℕ)) → is_one (c ∷ n) ns ≡ is_one n (behind c ns)
one_behind c n [] = refl
one_behind c n (m ∷ ns) = ap (λ (b : Bool). same (c ∷ n) m || b) (one_behind c n ns) ∙ sym (one_following c n m (behind c ns))

-- at most half of the names begin with the rarer letter
both_letters : (n : List ℕ) (ls ms : List (List ℕ)) → length (following 0x61 n ls) + length (following 0x62 n ms) ≤ suc (length ls + length ms)
both_letters [] ls ms = omega arith
both_letters (x ∷ n) ls ms =
    by_test (eqb x 0x61) (λ t. rw (eqb-true x 0x61 t) (omega arith))
    (λ f. rw f (both (λ ns. length ls + length ns ≤ suc (length ls + length ms)) (eqb x 0x62) (λ _. omega arith) (λ _. omega arith)))

letters : (ns : List (List ℕ)) → length (behind 0x61 ns) + length (behind 0x62 ns) ≤ length ns
letters [] = omega arith
letters (n ∷ ns) = omega (arith, both_letters n (behind 0x61 ns) (behind 0x62 ns), letters ns)

pub half : (ns : List (List ℕ)) → 2 * length (behind (rarer ns) ns) ≤ length ns
half ns =
    let x : ℕ = length (behind 0x61 ns) in
    let y : ℕ = length (behind 0x62 ns) in
    both (λ c. 2 * length (behind c ns) ≤ length ns) (leb x y) (λ t. omega (arith, letters ns, leb-true x y t))
    (λ f. omega (arith, letters ns, leb-false x y f))

avoided : (k : ℕ) (ns : List (List ℕ)) → length ns ≤ k → is_one (avoiding k ns) ns ≡ false
avoided zero [] h = refl
avoided zero (n ∷ ns) h = absurd (omega arith)
avoided (suc k) [] h = refl
avoided (suc k) (n ∷ ns) h =
    let c = rarer (n ∷ ns) in
    one_behind c (avoiding k (behind c (n ∷ ns))) (n ∷ ns) ∙ avoided k (behind c (n ∷ ns)) (omega (arith, half (n ∷ ns)))

-- at most m letters among fewer than 2 ^ m names
pub avoiding_short : (m k : ℕ) (ns : List (List ℕ)) → length ns < 2 ^ m → length (avoiding k ns) ≤ m
avoiding_short m zero ns h = omega arith
avoiding_short m (suc k) [] h = omega arith
avoiding_short zero (suc k) (n ∷ ns) h = absurd (omega arith)
avoiding_short (suc m) (suc k) (n ∷ ns) h =
    let c = rarer (n ∷ ns) in
    omega (arith, avoiding_short m k (behind c (n ∷ ns)) (omega (arith, half (n ∷ ns), pow-suc 2 m)))

fresh_none : (a : Def) → is_one (fresh a) (own_names a) ≡ false
fresh_none a =
    one_behind 0x61 (avoiding (length (own_names a)) (behind 0x61 (own_names a))) (own_names a)
    ∙ avoided (length (own_names a)) (behind 0x61 (own_names a)) (omega (arith, letters (own_names a)))

fresh_absent : (r o : Fields) → (has_field (fresh (object-of r o)) r ≡ false) × (has_field (fresh (object-of r o)) o ≡ false)
fresh_absent r o =
    let n : List ℕ = fresh (object-of r o) in
    let h = or-false (is_one n (names r)) (is_one n (names o)) (sym (one_append n (names r) (names o)) ∙ fresh_none (object-of r o)) in
    (one_field n r ∙ h.0, one_field n o ∙ h.1)

pub fresh_under : (a : Def) → under a (fresh a) ≡ other a
fresh_under (named t) = refl
fresh_under (array_of d) = refl
fresh_under (map_of d) = refl
fresh_under (object-of r o) =
    let n : List ℕ = fresh (object-of r o) in
    field_or_absent (field_or (named JSON) n o) n r (fresh_absent r o).0
    ∙ field_or_absent (named JSON) n o (fresh_absent r o).1

-- a name that the fields lack leaves them all
kept_all : (n : List ℕ) (fs : Fields) → has_field n fs ≡ false → kept (λ m. not (same n m)) fs ≡ kept (λ m. true) fs
kept_all n fnil h = refl
kept_all n (fcons m d fs) h =
    let k = or-false (same n m) (has_field n fs) h in
    rw k.0 (ap (mcons m (sample d)) (kept_all n fs k.1))

-- beside the fresh name stand all required members
pub others_fresh : (r o : Fields) → others (object-of r o) (fresh (object-of r o)) ≡ kept (λ m. true) r
others_fresh r o = kept_all (fresh (object-of r o)) r (fresh_absent r o).0

rarer_text : (ns : List (List ℕ)) → is_scalar (rarer ns) ≡ true
rarer_text ns = both (λ c. is_scalar c ≡ true) (leb (length (behind 0x61 ns)) (length (behind 0x62 ns))) (λ _. refl) (λ _. refl)

avoiding_text : (k : ℕ) (ns : List (List ℕ)) → is_text (avoiding k ns) ≡ true
avoiding_text zero ns = refl
avoiding_text (suc k) [] = refl
avoiding_text (suc k) (n ∷ ns) = rw (rarer_text (n ∷ ns)) (avoiding_text k (behind (rarer (n ∷ ns)) (n ∷ ns)))

pub fresh_text : (a : Def) → is_text (fresh a) ≡ true
fresh_text a = avoiding_text (length (own_names a)) (behind 0x61 (own_names a))

pub other_formed : (a : Def) → WellFormed a → WellFormed (other a)
other_formed (named t) k = tt
other_formed (array_of d) k = tt
other_formed (map_of d) k = k
other_formed (object-of r o) k = tt

pub under_formed : (a : Def) → WellFormed a → (n : List ℕ) → WellFormed (under a n)
under_formed (named t) k n = tt
under_formed (array_of d) k n = tt
under_formed (map_of d) k n = k
under_formed (object-of r o) k n = field_or_formed (field_or (named JSON) n o) (field_or_formed (named JSON) tt n o k.1) n r k.0
