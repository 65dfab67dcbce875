-- The spelling of a JSON value is a text of the written grammar, and spells that value.
use Prim.Native.Nat.{ℕ, zero, suc, ◌≤◌}
use mathlib.Core.Path.{◌≡◌, refl, ap, subst}
use mathlib.Core.Logic.{inl, inr}
use mathlib.Core.Bool.{true, false}
use mathlib.Core.List.{List, [], ◌∷◌, ◌++◌, append-nil, append_assoc}
use native.Mathlib.Omega.{arith}
use Rattle.model.specs.Text.{is_text}
use Rattle.model.specs.Value.{Value, null, boolean, number, string, array, object, Values, vnil, vcons, Members, mnil, mcons, IsJson, AreJson}
use Rattle.model.specs.Value.{AreMembers}
use Rattle.grammar.specs.Written.{IsStructural, structural, IsSeries, one, more, IsBracketed, empty, series, values, IsArray, is-array, Member}
use Rattle.grammar.specs.Written.{IsMember, is_member, members, Differ, IsObject, is-object, IsLeaf, IsValue, IsJsonText, is-text}
use Rattle.writer.specs.Spell.{spell, spell_string, spell_values, before_values, spell_members, before_members}
use Rattle.writer.specs.Depth.{depth_of, depth_of_all, depth_of_members}
use Rattle.writer.proofs.StringSpelled.{string_spelled}

-- ---- elements and members as the written grammar lists them

abbrev elements : Values → List Value
elements vnil = []
elements (vcons v vs) = v ∷ elements vs

values_elements : (vs : Values) → values (elements vs) ≡ vs
values_elements vnil = refl
values_elements (vcons v vs) = ap (vcons v) (values_elements vs)

abbrev member : List ℕ → Value → Member
member n v = record { name = n; value = v }

abbrev pairs : Members → List Member
pairs mnil = []
pairs (mcons n v ms) = member n v ∷ pairs ms

members_pairs : (ms : Members) → members (pairs ms) ≡ ms
members_pairs mnil = refl
members_pairs (mcons n v ms) = ap (mcons n v) (members_pairs ms)

names_differ : (ms : Members) → AreMembers ms → Differ ms
names_differ mnil j = tt
names_differ (mcons n v ms) j = (j.1, names_differ ms j.3)

-- ---- values

-- a structural byte with no space
bare : (b : ℕ) → IsStructural b (b ∷ [])
bare b = structural [] [] refl refl

leaf_value : (d : ℕ) (v : Value) → IsLeaf (spell v) v → IsValue d (spell v) v
unfolding IsValue
leaf_value zero v h = h
leaf_value (suc d) v h = inl h

array_value : (d : ℕ) (w : List ℕ) (vs : Values) → IsBracketed 0x5B 0x5D (IsValue d) w (elements vs) → IsValue (suc d) w (array vs)
unfolding IsValue
array_value d w vs h = inr (inl (subst (λ (us : Values). IsArray (IsValue d) w (array us)) (values_elements vs) (is-array h)))

object_value : (d : ℕ) (w : List ℕ) (ms : Members) → IsBracketed 0x7B 0x7D (IsMember (IsValue d)) w (pairs ms) → Differ ms → IsValue (suc d) w (object ms)
unfolding IsValue
object_value d w ms h u = inr (inr (subst (λ (ns : Members). Differ ns → IsObject (IsValue d) w (object ns)) (members_pairs ms) (is-object h) u))

mutual
  pub value_spelled : (d : ℕ) (v : Value) → IsJson v → depth_of v ≤ d → IsValue d (spell v) v
  value_spelled d null j h = leaf_value d null refl
  value_spelled d (boolean true) j h = leaf_value d (boolean true) refl
  value_spelled d (boolean false) j h = leaf_value d (boolean false) refl
  value_spelled d (number s) j h = leaf_value d (number s) (refl, j)
  value_spelled d (string s) j h = leaf_value d (string s) (string_spelled s j)
  value_spelled zero (array vs) j h = absurd (omega arith)
  value_spelled (suc d) (array vs) j h = array_value d (spell (array vs)) vs (array_spelled d vs j (omega arith))
  value_spelled zero (object ms) j h = absurd (omega arith)
  value_spelled (suc d) (object ms) j h = object_value d (spell (object ms)) ms (object_spelled d ms j (omega arith)) (names_differ ms j)

  array_spelled : (d : ℕ) (vs : Values) → AreJson vs → depth_of_all vs ≤ d → IsBracketed 0x5B 0x5D (IsValue d) (spell (array vs)) (elements vs)
  array_spelled d vnil j h = empty (bare 0x5B) (bare 0x5D)
  array_spelled d (vcons v vs) j h =
      series (bare 0x5B) (values_spelled d (spell v) v vs (value_spelled d v j.0 (omega arith)) j.1 (omega arith)) (bare 0x5D)

  -- behind a value v
  values_spelled : (d : ℕ) (w : List ℕ) (v : Value) (vs : Values) → IsValue d w v → AreJson vs → depth_of_all vs ≤ d
      → IsSeries (IsValue d) (w ++ before_values vs (spell_values vs)) (v ∷ elements vs)
  values_spelled d w v vnil i j h = rw append-nil (one i)
  values_spelled d w v (vcons u us) i j h =
      more i (bare 0x2C) (values_spelled d (spell u) u us (value_spelled d u j.0 (omega arith)) j.1 (omega arith))

  object_spelled : (d : ℕ) (ms : Members) → AreMembers ms → depth_of_members ms ≤ d
      → IsBracketed 0x7B 0x7D (IsMember (IsValue d)) (spell (object ms)) (pairs ms)
  object_spelled d mnil j h = empty (bare 0x7B) (bare 0x7D)
  object_spelled d (mcons n v ms) j h =
      series (bare 0x7B) (members_spelled d n (spell v) v ms j.0 (value_spelled d v j.2 (omega arith)) j.3 (omega arith)) (bare 0x7D)

  -- behind a value v and its name n
  members_spelled : (d : ℕ) (n w : List ℕ) (v : Value) (ms : Members) → is_text n ≡ true → IsValue d w v → AreMembers ms → depth_of_members ms ≤ d
      → IsSeries (IsMember (IsValue d)) (spell_string n ++ (0x3A ∷ (w ++ before_members ms (spell_members ms)))) (member n v ∷ pairs ms)
  members_spelled d n w v mnil t i j h = rw append-nil (one (is_member (string_spelled n t) (bare 0x3A) i))
  members_spelled d n w v (mcons m u ms) t i j h =
      rw (append_assoc (spell_string n)) at (more (is_member (string_spelled n t) (bare 0x3A) i) (bare 0x2C)
      (members_spelled d m (spell u) u ms j.0 (value_spelled d u j.2 (omega arith)) j.3 (omega arith)))

-- ---- texts

pub spell_text : (d : ℕ) (v : Value) → IsJson v → depth_of v ≤ d → IsJsonText d (spell v) v
spell_text d v j h = rw append-nil at (is-text [] (spell v) [] refl (value_spelled d v j h) refl)
