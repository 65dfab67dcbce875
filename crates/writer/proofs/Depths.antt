-- A text that is written with at most d brackets open at once spells a value that is no deeper.
use Prim.Native.Nat.{ℕ, zero, suc, ◌≤◌}
use mathlib.Core.Path.{◌≡◌, refl}
use mathlib.Core.Logic.{inl, inr}
use mathlib.Core.List.{List, [], ◌∷◌}
use native.Mathlib.Omega.{arith}
use Rattle.model.specs.Value.{Value, null, boolean, number, string, array, object}
use Rattle.grammar.specs.Written.{Language, IsSeries, one, more, IsBracketed, empty, series, values, IsArray, is-array, Member, IsMember}
use Rattle.grammar.specs.Written.{is_member, members, IsObject, is-object, IsLeaf, IsValue, IsJsonText, is-text}
use Rattle.writer.specs.Depth.{depth_of, depth_of_all, depth_of_members}

-- ---- what stands in brackets: all items have a property that each has

module _ {A : Type 0} (P : A → Type 0) where
  abbrev Every : List A → Type 0
  Every [] = Unit
  Every (a ∷ rest) = P a × Every rest

  module _ (IsItem : Language A) (each : (w : List ℕ) (a : A) → IsItem w a → P a) where
    series_every : {w : List ℕ} {items : List A} → IsSeries IsItem w items → Every items
    series_every (one {w} {a} h) = (each w a h, tt)
    series_every (more {w} {a = a} h c s) = (each w a h, series_every s)

    bracket_every : {o c : ℕ} {w : List ℕ} {items : List A} → IsBracketed o c IsItem w items → Every items
    bracket_every (empty a b) = tt
    bracket_every (series a s b) = series_every s

-- ---- values

module _ (d : ℕ) where
  abbrev Within : Value → Type 0
  Within v = depth_of v ≤ d

  abbrev MemberWithin : Member → Type 0
  MemberWithin m = Within m.value

  all_within : (vs : List Value) → Every Within vs → depth_of_all (values vs) ≤ d
  all_within [] h = omega arith
  all_within (v ∷ vs) h = omega (arith, all_within vs h.1)

  members_within : (ms : List Member) → Every MemberWithin ms → depth_of_members (members ms) ≤ d
  members_within [] h = omega arith
  members_within (m ∷ ms) h = omega (arith, members_within ms h.1)

  module _ (IsItem : Language Value) (each : (w : List ℕ) (v : Value) → IsItem w v → Within v) where
    array_depth : {w : List ℕ} {v : Value} → IsArray IsItem w v → depth_of v ≤ suc d
    array_depth (is-array {vs = vs} h) = omega (arith, all_within vs (bracket_every Within IsItem each h))

    member_depth : (w : List ℕ) (m : Member) → IsMember IsItem w m → MemberWithin m
    member_depth w m (is_member {x = x} {v = v} n c h) = each x v h

    object_depth : {w : List ℕ} {v : Value} → IsObject IsItem w v → depth_of v ≤ suc d
    object_depth (is-object {ms = ms} h u) = omega (arith, members_within ms (bracket_every MemberWithin (IsMember IsItem) member_depth h))

leaf_depth : (w : List ℕ) (v : Value) → IsLeaf w v → depth_of v ≡ 0
leaf_depth w null h = refl
leaf_depth w (boolean b) h = refl
leaf_depth w (number s) h = refl
leaf_depth w (string s) h = refl
leaf_depth w (array vs) h = absurd h
leaf_depth w (object ms) h = absurd h

value_depth : (d : ℕ) (w : List ℕ) (v : Value) → IsValue d w v → depth_of v ≤ d
unfolding IsValue
value_depth zero w v h = omega (arith, leaf_depth w v h)
value_depth (suc d) w v (inl h) = omega (arith, leaf_depth w v h)
value_depth (suc d) w v (inr (inl h)) = array_depth d (IsValue d) (value_depth d) h
value_depth (suc d) w v (inr (inr h)) = object_depth d (IsValue d) (value_depth d) h

pub text_depth : (d : ℕ) (s : List ℕ) (v : Value) → IsJsonText d s v → depth_of v ≤ d
text_depth d s v (is-text a w b sa h sb) = value_depth d w v h
