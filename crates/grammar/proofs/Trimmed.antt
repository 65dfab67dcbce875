-- The written grammar with no space at the ends of a value, and each item added behind those before it: so the reader meets a text.
use Prim.Native.Nat.{ℕ, zero, suc}
use mathlib.Core.Path.{◌≡◌}
use mathlib.Core.Logic.{◌⊎◌}
use mathlib.Core.Bool.{false}
use mathlib.Core.List.{List, [], ◌∷◌, ◌++◌}
use Rattle.model.specs.Value.{Value, array, object, Values, vnil, vcons, Members, mnil, mcons, has_name}
use Rattle.grammar.specs.Written.{Language, IsSpace, IsString, IsLeaf}

-- ws, what is spelled, ws
pub record Padded {A : Type 0} (X : Language A) (w : List ℕ) (thing : A) : Type 0 where
  pub a : List ℕ
  pub x : List ℕ
  pub b : List ℕ
  pub spelled : w ≡ a ++ (x ++ b)
  pub space_a : IsSpace a
  pub space_b : IsSpace b
  pub inside : X x thing

-- an item, or a series, ws, a comma, ws and an item. Item says which bytes make, of the items before, all with one more
pub data TrimmedSeries {L : Type 0} (Item : L → Language L) (empty : L) : List ℕ → L → Type 0 where
  first_item : {w : List ℕ} {all : L} → Item empty w all → TrimmedSeries Item empty w all
  next_item : {w : List ℕ} (a b : List ℕ) {x : List ℕ} {before all : L} → TrimmedSeries Item empty w before → IsSpace a → IsSpace b → Item before x all
      → TrimmedSeries Item empty (w ++ (a ++ (0x2C ∷ b ++ x))) all

-- an opening byte, ws, perhaps a series and ws, a closing byte
pub data TrimmedBracketed {L : Type 0} (opening closing : ℕ) (Item : L → Language L) (empty : L) : List ℕ → L → Type 0 where
  no_items : (a : List ℕ) → IsSpace a → TrimmedBracketed opening closing Item empty (opening ∷ a ++ (closing ∷ [])) empty
  some_items : (a : List ℕ) {x : List ℕ} (b : List ℕ) {all : L} → IsSpace a → TrimmedSeries Item empty x all → IsSpace b
      → TrimmedBracketed opening closing Item empty (opening ∷ a ++ (x ++ (b ++ (closing ∷ [])))) all

-- one value more, behind the others
abbrev pub add_value : Values → Value → Values
add_value vnil v = vcons v vnil
add_value (vcons u us) v = vcons u (add_value us v)

abbrev pub add_member : Members → List ℕ → Value → Members
add_member mnil n v = mcons n v mnil
add_member (mcons m u ms) n v = mcons m u (add_member ms n v)

-- an element: a value
pub record TrimmedElement (IsItem : Language Value) (before : Values) (w : List ℕ) (all : Values) : Type 0 where
  pub value : Value
  pub is_value : IsItem w value
  pub added : all ≡ add_value before value

-- a string, ws, a colon, ws and a value, with a name that none before has
pub record TrimmedMember (IsItem : Language Value) (before : Members) (w : List ℕ) (all : Members) : Type 0 where
  pub quoted : List ℕ
  pub name : List ℕ
  pub a : List ℕ
  pub b : List ℕ
  pub x : List ℕ
  pub value : Value
  pub spelled : w ≡ quoted ++ (a ++ (0x3A ∷ b ++ x))
  pub is-name : IsString quoted name
  pub differs : has_name name before ≡ false
  pub space_a : IsSpace a
  pub space_b : IsSpace b
  pub is_value : IsItem x value
  pub added : all ≡ add_member before name value

abbrev pub TrimmedArray : Language Value → Language Value
TrimmedArray IsItem w v = (vs : Values) × (v ≡ array vs) × TrimmedBracketed 0x5B 0x5D (TrimmedElement IsItem) vnil w vs

abbrev pub TrimmedObject : Language Value → Language Value
TrimmedObject IsItem w v = (ms : Members) × (v ≡ object ms) × TrimmedBracketed 0x7B 0x7D (TrimmedMember IsItem) mnil w ms

unfoldable pub TrimmedValue : ℕ → Language Value
TrimmedValue zero w v = IsLeaf w v
TrimmedValue (suc d) w v = IsLeaf w v ⊎ (TrimmedArray (TrimmedValue d) w v ⊎ TrimmedObject (TrimmedValue d) w v)

abbrev pub TrimmedText : ℕ → Language Value
TrimmedText d w v = Padded (TrimmedValue d) w v
