-- Meeting as a test, and that the test says it.
use Prim.Native.Nat.{ℕ}
use mathlib.Core.Path.{◌≡◌, refl}
use mathlib.Core.Logic.{inl, inr, ◌↔◌}
use mathlib.Core.Bool.{Bool, true, false, not, ◌&&◌, ◌||◌, false≢true, and-eq-true_iff}
use mathlib.Core.List.{List}
use Rattle.model.specs.Text.{same}
use Rattle.model.specs.Value.{Value, null, boolean, number, string, array, object, Values, vnil, vcons, Members, mnil, mcons, Among}
use Rattle.model.specs.Value.{Under, has_name}
use Rattle.model.specs.Definition.{Def, named, array_of, map_of, object-of, Fields, fnil, fcons}
use Rattle.model.specs.Meeting.{IfArray, IfObject, meets_named, HasNames, Meets, FieldsMeet}
use Rattle.model.proofs.Basics.{same_eq, same_of, or_right, by_test}

abbrev pub if_array : (Values → Bool) → Value → Bool
if_array p null = false
if_array p (boolean b) = false
if_array p (number s) = false
if_array p (string s) = false
if_array p (array vs) = p vs
if_array p (object ms) = false

abbrev pub if_object : (Members → Bool) → Value → Bool
if_object p null = false
if_object p (boolean b) = false
if_object p (number s) = false
if_object p (string s) = false
if_object p (array vs) = false
if_object p (object ms) = p ms

abbrev pub all_values : (Value → Bool) → Values → Bool
all_values p vnil = true
all_values p (vcons v vs) = p v && all_values p vs

-- every member passes the test of its name and value
abbrev pub all_members : (List ℕ → Value → Bool) → Members → Bool
all_members p mnil = true
all_members p (mcons n v ms) = p n v && all_members p ms

abbrev pub has_names : Fields → Members → Bool
has_names fnil ms = true
has_names (fcons n d fs) ms = has_name n ms && has_names fs ms

abbrev mutual
  pub meets : Def → Value → Bool
  meets (named t) v = meets_named t v
  meets (array_of d) v = if_array (all_values (meets d)) v
  meets (map_of d) v = if_object (all_members (λ n w. meets d w)) v
  meets (object-of r o) v = if_object (λ ms. has_names r ms && (fields_meet r ms && fields_meet o ms)) v

  pub fields_meet : Fields → Members → Bool
  fields_meet fnil ms = true
  fields_meet (fcons n d fs) ms = all_members (λ m w. not (same n m) || meets d w) ms && fields_meet fs ms

-- ---- the test and the property agree, part by part
if_array_iff : (p : Values → Bool) (P : Values → Type 0) → ((vs : Values) → (p vs ≡ true) ↔ P vs) → (v : Value) → (if_array p v ≡ true) ↔ IfArray P v
if_array_iff p P f null = (λ e. false≢true e, λ x. absurd x)
if_array_iff p P f (boolean b) = (λ e. false≢true e, λ x. absurd x)
if_array_iff p P f (number s) = (λ e. false≢true e, λ x. absurd x)
if_array_iff p P f (string s) = (λ e. false≢true e, λ x. absurd x)
if_array_iff p P f (array vs) = f vs
if_array_iff p P f (object ms) = (λ e. false≢true e, λ x. absurd x)

if_object_iff : (p : Members → Bool) (P : Members → Type 0) → ((ms : Members) → (p ms ≡ true) ↔ P ms) → (v : Value) → (if_object p v ≡ true) ↔ IfObject P v
if_object_iff p P f null = (λ e. false≢true e, λ x. absurd x)
if_object_iff p P f (boolean b) = (λ e. false≢true e, λ x. absurd x)
if_object_iff p P f (number s) = (λ e. false≢true e, λ x. absurd x)
if_object_iff p P f (string s) = (λ e. false≢true e, λ x. absurd x)
if_object_iff p P f (array vs) = (λ e. false≢true e, λ x. absurd x)
if_object_iff p P f (object ms) = f ms

and_iff : (x y : Bool) (P Q : Type 0) → ((x ≡ true) ↔ P) → ((y ≡ true) ↔ Q) → (x && y ≡ true) ↔ (P × Q)
and_iff x y P Q f g = (
  λ e. let k = (and-eq-true_iff x y).0 e in (f.0 k.0, g.0 k.1),
  λ h. (and-eq-true_iff x y).1 (f.1 h.0, g.1 h.1),
)

all_values_iff : (p : Value → Bool) (P : Value → Type 0) → ((w : Value) → (p w ≡ true) ↔ P w) → (vs : Values)
    → (all_values p vs ≡ true) ↔ ((w : Value) → Among w vs → P w)
all_values_iff p P f vnil = (λ e w i. absurd i, λ h. refl)
all_values_iff p P f (vcons v vs) = (
  λ e w i.
      let k = (and-eq-true_iff (p v) (all_values p vs)).0 e in
      elim i [ inl q ↦ rw q ((f v).0 k.0) | inr q ↦ (all_values_iff p P f vs).0 k.1 w q ],
  λ h. (and-eq-true_iff (p v) (all_values p vs)).1 ((f v).1 (h v (inl refl)), (all_values_iff p P f vs).1 (λ w i. h w (inr i))),
)

all_members_iff : (p : List ℕ → Value → Bool) (P : List ℕ → Value → Type 0) → ((n : List ℕ) (w : Value) → (p n w ≡ true) ↔ P n w)
    → (ms : Members) → (all_members p ms ≡ true) ↔ ((n : List ℕ) (w : Value) → Under n w ms → P n w)
all_members_iff p P f mnil = (λ e n w i. absurd i, λ h. refl)
all_members_iff p P f (mcons m v ms) = (
  λ e n w i.
      let k = (and-eq-true_iff (p m v) (all_members p ms)).0 e in
      elim i [ inl q ↦ rw (q.0, q.1) ((f m v).0 k.0) | inr q ↦ (all_members_iff p P f ms).0 k.1 n w q ],
  λ h. (and-eq-true_iff (p m v) (all_members p ms)).1 ((f m v).1 (h m v (inl (refl, refl))), (all_members_iff p P f ms).1 (λ n w i. h n w (inr i))),
)

has_names_iff : (fs : Fields) (ms : Members) → (has_names fs ms ≡ true) ↔ HasNames fs ms
has_names_iff fnil ms = (λ e. tt, λ h. refl)
has_names_iff (fcons n d fs) ms =
    and_iff (has_name n ms) (has_names fs ms) (has_name n ms ≡ true) (HasNames fs ms) (λ e. e, λ e. e) (has_names_iff fs ms)

named_iff : (n m : List ℕ) (x : Bool) (P : Type 0) → ((x ≡ true) ↔ P) → (not (same n m) || x ≡ true) ↔ (n ≡ m → P)
named_iff n m x P f = (
  λ e q. f.0 (rw (same_of n m q) at e),
  λ h. by_test (same n m) (λ q. or_right (not (same n m)) x (f.1 (h (same_eq n m q)))) (λ q. rw q refl),
)

mutual
  pub meets_iff : (d : Def) (v : Value) → (meets d v ≡ true) ↔ Meets d v
  meets_iff (named t) v = (λ e. e, λ e. e)
  meets_iff (array_of d) v =
      if_array_iff (all_values (meets d)) (λ vs. (w : Value) → Among w vs → Meets d w) (λ vs. all_values_iff (meets d) (Meets d) (λ w. meets_iff d w) vs) v
  meets_iff (map_of d) v =
      if_object_iff (all_members (λ n w. meets d w)) (λ ms. (n : List ℕ) (w : Value) → Under n w ms → Meets d w)
      (λ ms. all_members_iff (λ n w. meets d w) (λ n w. Meets d w) (λ n w. meets_iff d w) ms) v
  meets_iff (object-of r o) v =
      if_object_iff (λ ms. has_names r ms && (fields_meet r ms && fields_meet o ms)) (λ ms. HasNames r ms × FieldsMeet r ms × FieldsMeet o ms)
      (λ ms.
      let f = and_iff (fields_meet r ms) (fields_meet o ms) (FieldsMeet r ms) (FieldsMeet o ms) (fields_meet_iff r ms) (fields_meet_iff o ms) in
      let g = and_iff (has_names r ms) (fields_meet r ms && fields_meet o ms) (HasNames r ms) (FieldsMeet r ms × FieldsMeet o ms) (has_names_iff r ms) f in
      (λ e. let k = g.0 e in (k.0, k.1.0, k.1.1), λ h. g.1 (h.0, (h.1, h.2)))) v

  fields_meet_iff : (fs : Fields) (ms : Members) → (fields_meet fs ms ≡ true) ↔ FieldsMeet fs ms
  fields_meet_iff fnil ms = (λ e. tt, λ h. refl)
  fields_meet_iff (fcons n d fs) ms =
      let f = all_members_iff (λ m w. not (same n m) || meets d w) (λ m w. n ≡ m → Meets d w)
      (λ m w. named_iff n m (meets d w) (Meets d w) (meets_iff d w)) ms in
      and_iff (all_members (λ m w. not (same n m) || meets d w) ms) (fields_meet fs ms) ((w : Value) → Under n w ms → Meets d w) (FieldsMeet fs ms)
      (λ e w u. f.0 e n w u refl, λ h. f.1 (λ m w u q. h w (rw q u)))
      (fields_meet_iff fs ms)
