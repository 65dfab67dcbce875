-- What `subtype` allows is so: every value that meets the new definition meets the old one.
use Prim.Native.Nat.{ℕ}
use mathlib.Core.Path.{◌≡◌, refl, subst}
use mathlib.Core.Logic.{inl, inr}
use mathlib.Core.Bool.{Bool, true, ◌&&◌, ◌||◌, false≢true, and-eq-true_iff}
use mathlib.Core.List.{List}
use Rattle.model.specs.Text.{same}
use Rattle.model.specs.Value.{Value, null, boolean, number, string, array, object, Values, Members, Among, Under, has_name, is_integer}
use Rattle.model.specs.Date.{is_date}
use Rattle.model.specs.Definition.{Named, Named-discrete, JSON, Float, Integer, String, DateTime, Def, named, array_of, map_of}
use Rattle.model.specs.Definition.{object-of, Fields, fnil, fcons, has_field}
use Rattle.model.specs.Meeting.{IfArray, IfObject, HasNames, Meets, FieldsMeet, if_number, if_string}
use Rattle.model.specs.Subtype.{is_yes, is, subtype_named, field_or, of_objects, other, under, requires, requires_all, subtype, subtype_fields}
use Rattle.model.proofs.Basics.{same_eq, or-true, both}

-- every value that meets a meets b
abbrev pub Within : Def → Def → Type 0
Within a b = (v : Value) → Meets a v → Meets b v

-- every value under the name n meets what the fields ask there
fields_at : (e : Def) (fs : Fields) (ms : Members) → FieldsMeet fs ms → (n : List ℕ) (w : Value) → Under n w ms → Meets e w → Meets (field_or e n fs) w
fields_at e fnil ms h n w u z = z
fields_at e (fcons m d fs) ms h n w u z =
    both (λ c. Meets c w) (same n m) (λ p. h.0 w (subst (λ (k : List ℕ). Under k w ms) (same_eq n m p) u)) (λ p. fields_at e fs ms h.1 n w u z)

is_yes_true : {A : Type 0} (d : Dec A) → is_yes d ≡ true → A
is_yes_true (yes a) e = a
is_yes_true (no f) e = absurd (false≢true e)

pub is_eq : (s t : Named) → is s t ≡ true → s ≡ t
is_eq s t e = is_yes_true (Named-discrete s t) e

number_of : (p : List ℕ → Bool) (v : Value) → if_number p v ≡ true → if_number (λ s. true) v ≡ true
number_of p null h = h
number_of p (boolean b) h = h
number_of p (number s) h = refl
number_of p (string s) h = h
number_of p (array vs) h = h
number_of p (object ms) h = h

string_of : (p : List ℕ → Bool) (v : Value) → if_string p v ≡ true → if_string (λ s. true) v ≡ true
string_of p null h = h
string_of p (boolean b) h = h
string_of p (number s) h = h
string_of p (string s) h = refl
string_of p (array vs) h = h
string_of p (object ms) h = h

sound_named : (s t : Named) → subtype_named s t ≡ true → Within (named s) (named t)
sound_named s t e v h = elim (or-true (is t JSON || is s t || (is s Integer && is t Float)) (is s DateTime && is t String) e) [
  | inl e₁ ↦ elim (or-true (is t JSON || is s t) (is s Integer && is t Float) e₁) [
    | inl e₂ ↦ elim (or-true (is t JSON) (is s t) e₂) [
      | inl e₃ ↦ rw (is_eq t JSON e₃) refl
      | inr e₃ ↦ rw (is_eq s t e₃) at h
    ]
    | inr e₂ ↦
        let k = (and-eq-true_iff (is s Integer) (is t Float)).0 e₂ in
        rw (is_eq t Float k.1) (number_of is_integer v (rw (is_eq s Integer k.0) at h))
  ]
  | inr e₁ ↦
      let k = (and-eq-true_iff (is s DateTime) (is t String)).0 e₁ in
      rw (is_eq t String k.1) (string_of is_date v (rw (is_eq s DateTime k.0) at h))
]

to_json : (a : Def) (t : Named) → is t JSON ≡ true → Within a (named t)
to_json a t e v h = rw (is_eq t JSON e) refl

sound_to_named : (a : Def) (t : Named) → subtype a (named t) ≡ true → Within a (named t)
sound_to_named (named s) t e = sound_named s t e
sound_to_named (array_of p) t e = to_json (array_of p) t e
sound_to_named (map_of p) t e = to_json (map_of p) t e
sound_to_named (object-of r o) t e = to_json (object-of r o) t e

if_array_lem : (P Q : Values → Type 0) → ((vs : Values) → P vs → Q vs) → (v : Value) → IfArray P v → IfArray Q v
if_array_lem P Q f null h = h
if_array_lem P Q f (boolean b) h = h
if_array_lem P Q f (number s) h = h
if_array_lem P Q f (string s) h = h
if_array_lem P Q f (array vs) h = f vs h
if_array_lem P Q f (object ms) h = h

if_object_lem : (P Q : Members → Type 0) → ((ms : Members) → P ms → Q ms) → (v : Value) → IfObject P v → IfObject Q v
if_object_lem P Q f null h = h
if_object_lem P Q f (boolean b) h = h
if_object_lem P Q f (number s) h = h
if_object_lem P Q f (string s) h = h
if_object_lem P Q f (array vs) h = h
if_object_lem P Q f (object ms) h = f ms h

sound_to_array : (q : Def) → ((p : Def) → subtype p q ≡ true → Within p q) → (a : Def) → subtype a (array_of q) ≡ true → Within a (array_of q)
sound_to_array q ih (named s) e v h = absurd (false≢true e)
sound_to_array q ih (array_of p) e v h =
    if_array_lem (λ vs. (w : Value) → Among w vs → Meets p w) (λ vs. (w : Value) → Among w vs → Meets q w) (λ vs k w i. ih p e w (k w i)) v h
sound_to_array q ih (map_of p) e v h = absurd (false≢true e)
sound_to_array q ih (object-of r o) e v h = absurd (false≢true e)

-- a value that meets a definition of objects is an object
as_object : (a : Def) → of_objects a ≡ true → (Q : Members → Type 0) → ((ms : Members) → Meets a (object ms) → Q ms) → (v : Value) → Meets a v → IfObject Q v
as_object (named t) e Q f v h = absurd (false≢true e)
as_object (array_of d) e Q f v h = absurd (false≢true e)
as_object (map_of d) e Q f v h = if_object_lem (λ ms. Meets (map_of d) (object ms)) Q f v h
as_object (object-of r o) e Q f v h = if_object_lem (λ ms. Meets (object-of r o) (object ms)) Q f v h

under_meets : (a : Def) → of_objects a ≡ true → (ms : Members) → Meets a (object ms) → (n : List ℕ) (w : Value) → Under n w ms → Meets (under a n) w
under_meets (named t) e ms h n w u = absurd (false≢true e)
under_meets (array_of d) e ms h n w u = absurd (false≢true e)
under_meets (map_of d) e ms h n w u = h n w u
under_meets (object-of r o) e ms h n w u =
    fields_at (field_or (named JSON) n o) r ms h.1 n w u (fields_at (named JSON) o ms h.2 n w u refl)

other_meets : (a : Def) → of_objects a ≡ true → (ms : Members) → Meets a (object ms) → (n : List ℕ) (w : Value) → Under n w ms → Meets (other a) w
other_meets (named t) e ms h n w u = absurd (false≢true e)
other_meets (array_of d) e ms h n w u = absurd (false≢true e)
other_meets (map_of d) e ms h n w u = h n w u
other_meets (object-of r o) e ms h n w u = refl

names_at : (fs : Fields) (ms : Members) → HasNames fs ms → (n : List ℕ) → has_field n fs ≡ true → has_name n ms ≡ true
names_at fnil ms h n e = absurd (false≢true e)
names_at (fcons m d fs) ms h n e = elim (or-true (same n m) (has_field n fs) e) [
  | inl p ↦ rw (same_eq n m p) h.0
  | inr p ↦ names_at fs ms h.1 n p
]

requires_has : (a : Def) (ms : Members) → Meets a (object ms) → (n : List ℕ) → requires a n ≡ true → has_name n ms ≡ true
requires_has (named t) ms h n e = absurd (false≢true e)
requires_has (array_of d) ms h n e = absurd (false≢true e)
requires_has (map_of d) ms h n e = absurd (false≢true e)
requires_has (object-of r o) ms h n e = names_at r ms h.0 n e

requires_all_lem : (fs : Fields) (a : Def) → requires_all a fs ≡ true → (ms : Members) → Meets a (object ms) → HasNames fs ms
requires_all_lem fnil a e ms h = tt
requires_all_lem (fcons n d fs) a e ms h =
    let k = (and-eq-true_iff (requires a n) (requires_all a fs)).0 e in
    (requires_has a ms h n k.0, requires_all_lem fs a k.1 ms h)

mutual
  pub sound : (b a : Def) → subtype a b ≡ true → Within a b
  sound (named t) a e v h = sound_to_named a t e v h
  sound (array_of q) a e v h = sound_to_array q (λ p. sound q p) a e v h
  sound (map_of q) a e v h =
      let k = (and-eq-true_iff (of_objects a) (subtype (other a) q)).0 e in
      as_object a k.0 (λ ms. (n : List ℕ) (w : Value) → Under n w ms → Meets q w)
      (λ ms m n w u. sound q (other a) k.1 w (other_meets a k.0 ms m n w u)) v h
  sound (object-of r o) a e v h =
      let k = (and-eq-true_iff (of_objects a) (requires_all a r && (subtype_fields a r && subtype_fields a o))).0 e in
      let l = (and-eq-true_iff (requires_all a r) (subtype_fields a r && subtype_fields a o)).0 k.1 in
      let j = (and-eq-true_iff (subtype_fields a r) (subtype_fields a o)).0 l.1 in
      as_object a k.0 (λ ms. HasNames r ms × FieldsMeet r ms × FieldsMeet o ms)
      (λ ms m. (requires_all_lem r a l.0 ms m, sound_fields r a j.0 k.0 ms m, sound_fields o a j.1 k.0 ms m)) v h

  sound_fields : (fs : Fields) (a : Def) → subtype_fields a fs ≡ true → of_objects a ≡ true → (ms : Members) → Meets a (object ms) → FieldsMeet fs ms
  sound_fields fnil a e g ms m = tt
  sound_fields (fcons n q fs) a e g ms m =
      let k = (and-eq-true_iff (subtype (under a n) q) (subtype_fields a fs)).0 e in
      (λ w u. sound q (under a n) k.0 w (under_meets a g ms m n w u), sound_fields fs a k.1 g ms m)
