-- The lengths of spellings: of an array or an object, a bracket, and its items with a byte behind each.
use Prim.Native.Nat.{ℕ, ◌+◌, max}
use mathlib.Core.Path.{◌≡◌, refl}
use mathlib.Core.List.{List, [], ◌∷◌, ◌++◌}
use native.Mathlib.Omega.{arith}
use lib.ListN.{length, length-append}
use Rattle.model.specs.Value.{array, object, Values, vnil, vcons, Members, mnil, mcons}
use Rattle.writer.specs.Spell.{spell_chars, spell_string, before_values, before_members, spell, spell_values, spell_members}

pub string_length : (n : List ℕ) → length (spell_string n) ≡ length (spell_chars n) + 2
string_length n = omega (arith, length-append (spell_chars n) (0x22 ∷ []))

-- ---- elements

abbrev pub weight_of : Values → ℕ
weight_of vnil = 0
weight_of (vcons v vs) = length (spell v) + 1 + weight_of vs

before_length : (vs : Values) → length (before_values vs (spell_values vs)) ≡ weight_of vs
before_length vnil = refl
before_length (vcons v vs) = omega (arith, length-append (spell v) (before_values vs (spell_values vs)), before_length vs)

pub array_length : (vs : Values) → length (spell (array vs)) ≡ max 2 (1 + weight_of vs)
array_length vnil = refl
array_length (vcons v vs) = omega (arith, length-append (spell_values (vcons v vs)) (0x5D ∷ []), before_length (vcons v vs))

-- ---- members

abbrev pub weight_of_members : Members → ℕ
weight_of_members mnil = 0
weight_of_members (mcons n v ms) = length (spell_string n) + length (spell v) + 2 + weight_of_members ms

before_members_length : (ms : Members) → length (before_members ms (spell_members ms)) ≡ weight_of_members ms
before_members_length mnil = refl
before_members_length (mcons n v ms) =
    let rest = before_members ms (spell_members ms) in
    omega (arith, length-append (spell_string n) (0x3A ∷ (spell v ++ rest)), length-append (spell v) rest, before_members_length ms)

pub object_length : (ms : Members) → length (spell (object ms)) ≡ max 2 (1 + weight_of_members ms)
object_length mnil = refl
object_length (mcons n v ms) = omega (arith, length-append (spell_members (mcons n v ms)) (0x7D ∷ []), before_members_length (mcons n v ms))
