-- What `subtype` refuses is not so: the witness is a JSON value that meets the new definition and fails the old one.
use Prim.Native.Nat.{ℕ}
use mathlib.Core.Path.{◌≡◌, refl, sym, ◌∙◌}
use mathlib.Core.Logic.{inl, inr}
use mathlib.Core.Bool.{Bool, true, false, not, ◌||◌, ◌&&◌, false≢true, true≢false, beq}
use mathlib.Core.List.{List, ◌∷◌}
use lib.ListN.{length}
use Rattle.model.specs.Value.{Value, null, array, object, Values, vnil, Members, mnil, mcons, Among, Under, has_name, IsJson}
use Rattle.model.specs.Definition.{Named, JSON, Schema, Float, Integer, String, Boolean, DateTime, Def, named, array_of, map_of}
use Rattle.model.specs.Definition.{object-of, Fields, fnil, fcons, has_field}
use Rattle.model.specs.Meeting.{IfArray, IfObject, meets_named, HasNames, Meets, FieldsMeet}
use Rattle.model.specs.Carried.{NotCarried}
use Rattle.model.specs.Subtype.{is, subtype_named, of_objects, other, under, requires, requires_all, subtype, subtype_fields}
use Rattle.model.specs.Witness.{plain_value, apart, sample, kept, behind, avoiding, own_names, fresh, others, beyond_named, witness, witness_fields}
use Rattle.model.proofs.Basics.{and_ways, not-true, not-false, clash, false_of, both}
use Rattle.model.proofs.Formed.{WellFormed, AreFields}
use Rattle.model.proofs.Samples.{every, every_at, plain_meets, plain_json, kept_name, sample_meets, sample_json, member_json}
use Rattle.model.proofs.Samples.{member_meets, fresh_text, fresh_under, other_formed, under_formed}

-- v is a JSON value that meets a and fails b
abbrev pub Works : Def → Def → Value → Type 0
Works a b v = IsJson v × Meets a v × (¬ Meets b v)

-- ---- the named types
beq_eq : (x y : Bool) → beq x y ≡ true → x ≡ y
beq_eq true true e = refl
beq_eq true false e = absurd (false≢true e)
beq_eq false true e = absurd (false≢true e)
beq_eq false false e = refl

-- the whole table, computed
apart_test : every (λ s. every (λ t. beq (meets_named t (apart s)) (subtype_named s t))) ≡ true
apart_test = refl

apart_meets : (s t : Named) → meets_named t (apart s) ≡ subtype_named s t
apart_meets s t =
    beq_eq (meets_named t (apart s)) (subtype_named s t)
    (every_at (λ t. beq (meets_named t (apart s)) (subtype_named s t))
    (every_at (λ s. every (λ t. beq (meets_named t (apart s)) (subtype_named s t))) apart_test s) t)

-- what no named type but JSON takes
array_fails : (t : Named) → is t JSON ≡ false → meets_named t (array vnil) ≡ true → ⊥
array_fails t e h = clash _ h (not-true _ (rw e at (every_at (λ t. is t JSON || not (meets_named t (array vnil))) refl t)))

empty_fails : (t : Named) → is t JSON ≡ false → meets_named t (object mnil) ≡ true → ⊥
empty_fails t e h = clash _ h (not-true _ (rw e at (every_at (λ t. is t JSON || not (meets_named t (object mnil))) refl t)))

-- an object whose first name is none of Array, Map and Object
object_fails : (t : Named) → is t JSON ≡ false → (n : List ℕ) (w : Value) (ms : Members) → meets_named t (object (mcons (0x61 ∷ n) w ms)) ≡ true → ⊥
object_fails JSON e n w ms h = true≢false e
object_fails Schema e n w mnil h = false≢true h
object_fails Schema e n w (mcons m v ms) h = false≢true h
object_fails Float e n w ms h = false≢true h
object_fails Integer e n w ms h = false≢true h
object_fails String e n w ms h = false≢true h
object_fails Boolean e n w ms h = false≢true h
object_fails DateTime e n w ms h = false≢true h

apart_json : (s : Named) → IsJson (apart s)
apart_json JSON = plain_json JSON
apart_json Schema = (refl, refl, refl, tt)
apart_json Float = plain_json Float
apart_json Integer = plain_json Integer
apart_json String = plain_json String
apart_json Boolean = plain_json Boolean
apart_json DateTime = plain_json DateTime

apart_self : (s : Named) → meets_named s (apart s) ≡ true
apart_self = every_at (λ s. meets_named s (apart s)) refl

-- ---- the old definition is named
beyond_named_lem : (t : Named) (a : Def) → WellFormed a → subtype a (named t) ≡ false → Works a (named t) (beyond_named a)
beyond_named_lem t (named s) k h = (apart_json s, apart_self s, λ m. clash (subtype_named s t) (sym (apart_meets s t) ∙ m) h)
beyond_named_lem t (array_of p) k h = (tt, λ w i. absurd i, array_fails t h)
beyond_named_lem t (map_of p) k h = (tt, λ n w u. absurd u, empty_fails t h)
beyond_named_lem t (object-of r o) k h =
    let a : Def = object-of r o in (
      member_json a k (fresh a) (fresh_text a) null tt,
      member_meets a refl k (fresh a) null (rw (fresh_under a) refl),
      object_fails t h (avoiding (length (own_names a)) (behind 0x61 (own_names a))) null (others a (fresh a)),
    )

-- ---- the old definition is of arrays
plain_no_array : (P : Values → Type 0) (t : Named) → IfArray P (plain_value t) → ⊥
plain_no_array P JSON h = h
plain_no_array P Schema h = h
plain_no_array P Float h = h
plain_no_array P Integer h = h
plain_no_array P String h = h
plain_no_array P Boolean h = h
plain_no_array P DateTime h = h

to_array : (q : Def) → ((p : Def) → WellFormed p → subtype p q ≡ false → Works p q (witness p q))
    → (a : Def) → WellFormed a → subtype a (array_of q) ≡ false → Works a (array_of q) (witness a (array_of q))
to_array q ih (named s) k h = (plain_json s, plain_meets s, plain_no_array (λ vs. (w : Value) → Among w vs → Meets q w) s)
to_array q ih (array_of p) k h =
    let x = ih p k h in
    ((x.0, tt), λ w i. elim i [ inl e ↦ rw e x.1 | inr z ↦ absurd z ], λ m. x.2 (m (witness p q) (inl refl)))
to_array q ih (map_of p) k h = (tt, λ n w u. absurd u, λ m. m)
to_array q ih (object-of r o) k h = (sample_json (object-of r o) k, sample_meets (object-of r o) k, λ m. m)

-- ---- the old definition is of objects
plain_no_object : (P : Members → Type 0) (t : Named) → IfObject P (plain_value t) → ⊥
plain_no_object P JSON h = h
plain_no_object P Schema h = h
plain_no_object P Float h = h
plain_no_object P Integer h = h
plain_no_object P String h = h
plain_no_object P Boolean h = h
plain_no_object P DateTime h = h

no_object : (a : Def) → of_objects a ≡ false → (P : Members → Type 0) → IfObject P (sample a) → ⊥
no_object (named t) e P m = plain_no_object P t m
no_object (array_of d) e P m = m
no_object (map_of d) e P m = true≢false e
no_object (object-of r o) e P m = true≢false e

-- the sample lacks a name that a does not ask for, and so fails a definition that does
sample_lacks : (a : Def) → of_objects a ≡ true → (n : List ℕ) → requires a n ≡ false
    → (b : Def) → ((ms : Members) → Meets b (object ms) → has_name n ms ≡ true) → Meets b (sample a) → ⊥
sample_lacks (named t) e n z b f m = false≢true e
sample_lacks (array_of d) e n z b f m = false≢true e
sample_lacks (map_of d) e n z b f m = false≢true (f mnil m)
sample_lacks (object-of r o) e n z b f m =
    let ms : Members = kept (λ x. true) r in
    clash (has_name n ms) (f ms m) (false_of (has_name n ms) (has_field n r) (kept_name (λ x. true) r n) z)

-- members that meet b hold what the fields ask, and have their names where these are required
abbrev Asks : Bool → Fields → Def → Type 0
Asks required fs b = (ms : Members) → Meets b (object ms) → (required ≡ true → HasNames fs ms) × FieldsMeet fs ms

mutual
  pub witness_works : (b a : Def) → WellFormed b → WellFormed a → subtype a b ≡ false → IsJson (witness a b) × Meets a (witness a b) × (¬ Meets b (witness a b))
  witness_works (named t) a l k h = beyond_named_lem t a k h
  witness_works (array_of q) a l k h = to_array q (λ p j. witness_works q p l j) a k h
  witness_works (map_of q) a l k h = both (Works a (map_of q)) (of_objects a)
      (λ e.
      let x = witness_works q (other a) l (other_formed a k) (rw e at h) in (
        member_json a k (fresh a) (fresh_text a) (witness (other a) q) x.0,
        member_meets a e k (fresh a) (witness (other a) q) (rw (fresh_under a) x.1),
        λ m. x.2 (m (fresh a) (witness (other a) q) (inl (refl, refl))),
      ))
      (λ e. (sample_json a k, sample_meets a k, no_object a e (λ ms. (n : List ℕ) (w : Value) → Under n w ms → Meets q w)))
  witness_works (object-of r o) a l k h = both (Works a (object-of r o)) (of_objects a)
      (λ e. fields_work r true a l.0 k e (object-of r o) (λ ms m. (λ _. m.0, m.1)) (witness_fields false a o (sample a))
      (λ x y. fields_work o false a l.1 k e (object-of r o) (λ ms m. (λ z. absurd (false≢true z), m.2)) (sample a)
      (λ _ z. clash (subtype a (object-of r o)) (rw (e, x refl, y, z) refl) h)))
      (λ e. (sample_json a k, sample_meets a k, no_object a e (λ ms. HasNames r ms × FieldsMeet r ms × FieldsMeet o ms)))

  -- the value fails b, which asks for what the fields do, if v does where none of them fails
  fields_work : (fs : Fields) (required : Bool) (a : Def) → AreFields fs → WellFormed a → of_objects a ≡ true → (b : Def) → Asks required fs b
      → (v : Value) → ((required ≡ true → requires_all a fs ≡ true) → subtype_fields a fs ≡ true → Works a b v) → Works a b (witness_fields required a fs v)
  fields_work fnil required a l k e b g v f = f (λ _. refl) refl
  fields_work (fcons n q fs) required a l k e b g v f = both (Works a b) (required && not (requires a n))
      (λ t. and_ways required (not (requires a n)) t
      (λ x y. (sample_json a k, sample_meets a k, sample_lacks a e n (not-true (requires a n) y) b (λ ms m. ((g ms m).0 x).0))))
      (λ x. both (Works a b) (subtype (under a n) q)
      (λ z. fields_work fs required a l.3 k e b (λ ms m. (λ y. ((g ms m).0 y).1, (g ms m).1.1)) v
      (λ y w. f (λ u. rw (not-false (requires a n) (rw u at x), y u) refl) (rw (z, w) refl)))
      (λ z.
      let w : Value = witness (under a n) q in
      let x = witness_works q (under a n) l.2 (under_formed a k n) z in (
        member_json a k n l.0 w x.0,
        member_meets a e k n w x.1,
        λ m. x.2 ((g (mcons n w (others a n)) m).1.0 w (inl (refl, refl))),
      )))

pub complete : (b a : Def) → WellFormed b → WellFormed a → subtype a b ≡ false → NotCarried a b
complete b a l k h = let x = witness_works b a l k h in (witness a b, x.0, x.1, x.2)
