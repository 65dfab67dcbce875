-- A text of the written grammar is one of the trimmed form, of the same value, and the other way about.
use Prim.Native.Nat.{ℕ, zero, suc}
use mathlib.Core.Path.{◌≡◌, refl, sym, ap, ◌∙◌, subst}
use mathlib.Core.Logic.{inl, inr}
use mathlib.Core.Bool.{Bool, true, false, ◌||◌, or_assoc}
use mathlib.Core.List.{List, [], ◌∷◌, ◌++◌, append_assoc}
use Rattle.model.specs.Text.{same}
use Rattle.model.specs.Value.{Value, array, object, Values, vnil, vcons, Members, mnil, mcons, has_name}
use Rattle.model.proofs.Basics.{or-false, same_comm}
use Rattle.grammar.specs.Written.{Language, structural, values, IsArray, is-array, Member, IsMember, is_member, members, Differ}
use Rattle.grammar.specs.Written.{IsObject, is-object, IsValue, IsJsonText, is-text}
use Rattle.grammar.proofs.Trimmed.{Padded, add_value, add_member, TrimmedElement, TrimmedMember, TrimmedBracketed, TrimmedArray}
use Rattle.grammar.proofs.Trimmed.{TrimmedObject, TrimmedValue, TrimmedText}
use Rattle.grammar.proofs.Trimming.{space_append, padded_as, padded_none, adds, Fits, bracketed_trim, bracketed_spread}

-- ---- elements

-- a value may stand behind any others
abbrev Anywhere : Values → Value → Type 0
Anywhere before v = Unit {0}

all_fit : (before : Values) (vs : List Value) → Fits add_value Anywhere before vs
all_fit before [] = tt
all_fit before (v ∷ vs) = (tt, all_fit (add_value before v) vs)

-- values behind values
abbrev append : Values → Values → Values
append vnil vs = vs
append (vcons u us) vs = vcons u (append us vs)

append_last : (us : Values) (v : Value) (vs : Values) → append (add_value us v) vs ≡ append us (vcons v vs)
append_last vnil v vs = refl
append_last (vcons u us) v vs = ap (vcons u) (append_last us v vs)

append_none : (us : Values) → append us vnil ≡ us
append_none vnil = refl
append_none (vcons u us) = ap (vcons u) (append_none us)

-- all values, added one behind the other
values_added : (before : Values) (vs : List Value) → adds add_value before vs ≡ append before (values vs)
values_added before [] = sym (append_none before)
values_added before (v ∷ vs) = values_added (add_value before v) vs ∙ append_last before v (values vs)

module _ (IsItem Item : Language Value) where
  array_trim : ((w : List ℕ) (v : Value) → IsItem w v → Padded Item w v) → {w : List ℕ} {v : Value} → IsArray IsItem w v → Padded (TrimmedArray Item) w v
  array_trim trim (is-array {w} {vs} h) =
      padded_as (λ x t. (values vs, refl, subst (TrimmedBracketed 0x5B 0x5D (TrimmedElement Item) vnil x) (values_added vnil vs) t))
      (bracketed_trim IsItem (TrimmedElement Item) add_value Anywhere vnil
      (λ before w v i _. padded_as (λ x t. record { value = v; is_value = t; added = refl }) (trim w v i)) h (all_fit vnil vs))

  array_spread : ((w : List ℕ) (v : Value) → Item w v → IsItem w v) → (w : List ℕ) (v : Value) → TrimmedArray Item w v → IsArray IsItem w v
  array_spread spread w v h =
      let r = bracketed_spread IsItem (TrimmedElement Item) add_value Anywhere vnil
      (λ before w all e. (e.value, spread w e.value e.is_value, e.added, tt)) h.2 in
      subst (IsArray IsItem w) (ap array (sym (r.adds_up ∙ values_added vnil r.items)) ∙ sym h.1) (is-array r.spells)

-- ---- members

-- one member more, behind the others
abbrev add_pair : Members → Member → Members
add_pair before m = add_member before m.name m.value

-- a member may stand behind others that do not have its name
abbrev NewName : Members → Member → Type 0
NewName before m = has_name m.name before ≡ false

-- members behind members
abbrev append_members : Members → Members → Members
append_members mnil ms = ms
append_members (mcons n v ns) ms = mcons n v (append_members ns ms)

append_member : (ns : Members) (n : List ℕ) (v : Value) (ms : Members) → append_members (add_member ns n v) ms ≡ append_members ns (mcons n v ms)
append_member mnil n v ms = refl
append_member (mcons k u ns) n v ms = ap (mcons k u) (append_member ns n v ms)

append_no_member : (ns : Members) → append_members ns mnil ≡ ns
append_no_member mnil = refl
append_no_member (mcons n v ns) = ap (mcons n v) (append_no_member ns)

-- all members, added one behind the other
members_added : (before : Members) (ms : List Member) → adds add_pair before ms ≡ append_members before (members ms)
members_added before [] = sym (append_no_member before)
members_added before (m ∷ ms) = members_added (add_pair before m) ms ∙ append_member before m.name m.value (members ms)

-- ---- names that differ: each from those behind it (Differ), and each from those before it (NewName)

has_last : (k : List ℕ) (ms : Members) (n : List ℕ) (v : Value) → has_name k (add_member ms n v) ≡ has_name k ms || same k n
has_last k mnil n v = or_none (same k n)
  where
    or_none : (b : Bool) → b || false ≡ b
    or_none true = refl
    or_none false = refl
has_last k (mcons m u ms) n v = ap (λ (b : Bool). same k m || b) (has_last k ms n v) ∙ sym (or_assoc (same k m) (has_name k ms) (same k n))

-- one member more
differ_last : (ms : Members) (n : List ℕ) (v : Value) → Differ ms → has_name n ms ≡ false → Differ (add_member ms n v)
differ_last mnil n v d h = (refl, tt)
differ_last (mcons m u ms) n v d h =
    let x = or-false (same n m) (has_name n ms) h in
    (has_last m ms n v ∙ rw (d.0, same_comm m n) x.0, differ_last ms n v d.1 x.1)

last_differs : (ms : Members) (n : List ℕ) (v : Value) → Differ (add_member ms n v) → Differ ms × (has_name n ms ≡ false)
last_differs mnil n v d = (tt, refl)
last_differs (mcons m u ms) n v d =
    let x = or-false (has_name m ms) (same m n) (sym (has_last m ms n v) ∙ d.0) in
    let r = last_differs ms n v d.1 in
    ((x.0, r.0), rw (same_comm n m, x.1) r.1)

-- all of them
fit_differ : (before : Members) (ms : List Member) → Differ before → Fits add_pair NewName before ms → Differ (adds add_pair before ms)
fit_differ before [] d f = d
fit_differ before (m ∷ ms) d f = fit_differ (add_pair before m) ms (differ_last before m.name m.value d f.0) f.1

differ_fit : (before : Members) (ms : List Member) → Differ (adds add_pair before ms) → Differ before × Fits add_pair NewName before ms
differ_fit before [] d = (d, tt)
differ_fit before (m ∷ ms) d =
    let r = differ_fit (add_pair before m) ms d in
    let x = last_differs before m.name m.value r.0 in
    (x.0, (x.1, r.1))

-- a name, a colon and a value y, which is x between space
joined_member : (q k m a x b y : List ℕ) → y ≡ a ++ (x ++ b) → q ++ (k ++ (0x3A ∷ m) ++ y) ≡ q ++ (k ++ (0x3A ∷ m ++ a ++ x)) ++ b
joined_member q k m a x b y e = rw e (simp append_assoc)

module _ (IsItem Item : Language Value) where
  member_trim : ((w : List ℕ) (v : Value) → IsItem w v → Padded Item w v)
      → (before : Members) (w : List ℕ) (m : Member) → IsMember IsItem w m → NewName before m → Padded (TrimmedMember Item before) w (add_pair before m)
  member_trim trim before w m (is_member {w = q} {x = y} {n} {v} s (structural k c sk sc) i) f =
      let p = trim y v i in
      record {
        a = [];
        x = q ++ (k ++ (0x3A ∷ c ++ p.a ++ p.x));
        b = p.b;
        spelled = joined_member q k c p.a p.x p.b y p.spelled;
        space_a = refl;
        space_b = p.space_b;
        inside = record {
          quoted = q;
          name = n;
          a = k;
          b = c ++ p.a;
          x = p.x;
          value = v;
          spelled = refl;
          is-name = s;
          differs = f;
          space_a = sk;
          space_b = space_append c p.a sc p.space_a;
          is_value = p.inside;
          added = refl;
        };
      }

  object_trim : ((w : List ℕ) (v : Value) → IsItem w v → Padded Item w v) → {w : List ℕ} {v : Value} → IsObject IsItem w v → Padded (TrimmedObject Item) w v
  object_trim trim (is-object {w} {ms} h d) =
      padded_as (λ x t. (members ms, refl, subst (TrimmedBracketed 0x7B 0x7D (TrimmedMember Item) mnil x) (members_added mnil ms) t))
      (bracketed_trim (IsMember IsItem) (TrimmedMember Item) add_pair NewName mnil (member_trim trim) h
      (differ_fit mnil ms (subst Differ (sym (members_added mnil ms)) d)).1)

  object_spread : ((w : List ℕ) (v : Value) → Item w v → IsItem w v) → (w : List ℕ) (v : Value) → TrimmedObject Item w v → IsObject IsItem w v
  object_spread spread w v h =
      let r = bracketed_spread (IsMember IsItem) (TrimmedMember Item) add_pair NewName mnil
      (λ before w all e. (
        record { name = e.name; value = e.value },
        subst (λ (z : List ℕ). IsMember IsItem z (record { name = e.name; value = e.value }))
            (ap (λ (t : List ℕ). e.quoted ++ t) (append_assoc e.a (0x3A ∷ e.b) e.x) ∙ sym e.spelled)
            (is_member e.is-name (structural e.a e.b e.space_a e.space_b) (spread e.x e.value e.is_value)),
        e.added,
        e.differs,
      )) h.2 in
      subst (IsObject IsItem w) (ap object (sym (r.adds_up ∙ members_added mnil r.items)) ∙ sym h.1)
      (is-object r.spells (subst Differ (members_added mnil r.items) (fit_differ mnil r.items tt r.fits)))

-- ---- values and texts

value_trim : (d : ℕ) (w : List ℕ) (v : Value) → IsValue d w v → Padded (TrimmedValue d) w v
unfolding IsValue TrimmedValue
value_trim zero w v h = padded_none h
value_trim (suc d) w v (inl h) = padded_none (inl h)
value_trim (suc d) w v (inr (inl h)) = padded_as (λ x t. inr (inl t)) (array_trim (IsValue d) (TrimmedValue d) (value_trim d) h)
value_trim (suc d) w v (inr (inr h)) = padded_as (λ x t. inr (inr t)) (object_trim (IsValue d) (TrimmedValue d) (value_trim d) h)

value_spread : (d : ℕ) (w : List ℕ) (v : Value) → TrimmedValue d w v → IsValue d w v
unfolding IsValue TrimmedValue
value_spread zero w v h = h
value_spread (suc d) w v (inl h) = inl h
value_spread (suc d) w v (inr (inl h)) = inr (inl (array_spread (IsValue d) (TrimmedValue d) (value_spread d) w v h))
value_spread (suc d) w v (inr (inr h)) = inr (inr (object_spread (IsValue d) (TrimmedValue d) (value_spread d) w v h))

joined_text : (a c x k b y : List ℕ) → y ≡ c ++ (x ++ k) → a ++ (y ++ b) ≡ a ++ c ++ (x ++ (k ++ b))
joined_text a c x k b y e = rw e (simp append_assoc)

pub text_trim : {d : ℕ} {s : List ℕ} {v : Value} → IsJsonText d s v → TrimmedText d s v
text_trim {d} {v = v} (is-text a w b sa h sb) =
    let p = value_trim d w v h in
    record {
      a = a ++ p.a;
      x = p.x;
      b = p.b ++ b;
      spelled = joined_text a p.a p.x p.b b w p.spelled;
      space_a = space_append a p.a sa p.space_a;
      space_b = space_append p.b b p.space_b sb;
      inside = p.inside;
    }

pub text_spread : {d : ℕ} {s : List ℕ} {v : Value} → TrimmedText d s v → IsJsonText d s v
text_spread {d} {v = v} t =
    subst (λ (z : List ℕ). IsJsonText d z v) (sym t.spelled)
    (is-text t.a t.x t.b t.space_a (value_spread d t.x v t.inside) t.space_b)
