-- What a schema spends on its definition: bytes, brackets that are open at once, and bytes of its longest name.
use mathlib.Core.Path.{◌≡◌, refl, sym, ◌∙◌}
use mathlib.Core.Option.{Option, none, some}
use mathlib.Core.List.{List}
use mathlib.Core.Bool.{false}
use Prim.Native.Nat.{ℕ, suc, ◌+◌, ◌≤◌, max}
use native.Mathlib.Omega.{arith}
use lib.ListN.{length}
use Rattle.model.specs.Text.{text, same}
use Rattle.model.specs.Value.{Value, null, boolean, number, string, array, object, Members, mnil, mcons}
use Rattle.model.specs.Definition.{Named, JSON, Schema, Float, Integer, String, Boolean, DateTime, Def, named, array_of, map_of, object-of}
use Rattle.model.specs.Definition.{Fields, fnil, fcons, disjoint, named_by, is_empty, mapped, added, joined, constructed, definition_of, single}
use Rattle.model.specs.Definition.{object_of, fields_under, fields_of, fields_in}
use Rattle.model.proofs.Basics.{both, same_eq, same_of, clash}
use Rattle.grammar.specs.Utf8.{utf8}
use Rattle.writer.specs.Spell.{spell_char, spell_chars, spell_string, spell}
use Rattle.writer.specs.Depth.{depth_of, depth_of_members}
use Rattle.counterexample.specs.Names.{longest_name, longest_of_members}
use Rattle.counterexample.proofs.Lengths.{weight_of_members, object_length}

-- ---- the least that a definition takes

-- with quotes
abbrev pub name_size : Named → ℕ
name_size JSON = 6
name_size Schema = 8
name_size Float = 7
name_size Integer = 9
name_size String = 8
name_size Boolean = 9
name_size DateTime = 10

abbrev mutual
  pub size_of : Def → ℕ
  size_of (named t) = name_size t
  size_of (array_of d) = 10 + size_of d
  size_of (map_of d) = 8 + size_of d
  size_of (object-of r o) = 12 + (size_of_fields r + size_of_fields o)

  pub size_of_fields : Fields → ℕ
  size_of_fields fnil = 0
  size_of_fields (fcons n d fs) = length (spell_string n) + size_of d + 2 + size_of_fields fs

abbrev mutual
  pub brackets_of : Def → ℕ
  brackets_of (named t) = 0
  brackets_of (array_of d) = suc (brackets_of d)
  brackets_of (map_of d) = suc (brackets_of d)
  brackets_of (object-of r o) = suc (max (brackets_of_fields r) (brackets_of_fields o))

  pub brackets_of_fields : Fields → ℕ
  brackets_of_fields fnil = 0
  brackets_of_fields (fcons n d fs) = max (brackets_of d) (brackets_of_fields fs)

abbrev mutual
  pub name_of_def : Def → ℕ
  name_of_def (named t) = 0
  name_of_def (array_of d) = name_of_def d
  name_of_def (map_of d) = name_of_def d
  name_of_def (object-of r o) = max (name_of_fields r) (name_of_fields o)

  pub name_of_fields : Fields → ℕ
  name_of_fields fnil = 0
  name_of_fields (fcons n d fs) = max (length (spell_chars n)) (max (name_of_def d) (name_of_fields fs))

-- ---- a schema takes at least that, if it is a definition

abbrev size_if : Option Def → ℕ
size_if none = 0
size_if (some d) = size_of d

abbrev brackets_if : Option Def → ℕ
brackets_if none = 0
brackets_if (some d) = brackets_of d

abbrev name_if : Option Def → ℕ
name_if none = 0
name_if (some d) = name_of_def d

abbrev size_if_fields : Option Fields → ℕ
size_if_fields none = 0
size_if_fields (some fs) = size_of_fields fs

abbrev brackets_if_fields : Option Fields → ℕ
brackets_if_fields none = 0
brackets_if_fields (some fs) = brackets_of_fields fs

abbrev name_if_fields : Option Fields → ℕ
name_if_fields none = 0
name_if_fields (some fs) = name_of_fields fs

abbrev pub Costs : (k h l : ℕ) → Option Def → Type 0
Costs k h l d = (size_if d ≤ k) × (brackets_if d ≤ h) × (name_if d ≤ l)

abbrev FieldsCost : (k h l : ℕ) → Option Fields → Type 0
FieldsCost k h l fs = (size_if_fields fs ≤ k) × (brackets_if_fields fs ≤ h) × (name_if_fields fs ≤ l)

-- ---- by the ways to make one

array_costs : (d : Option Def) → Costs (10 + size_if d) (suc (brackets_if d)) (name_if d) (mapped array_of d)
array_costs none = omega arith
array_costs (some d) = omega arith

map_costs : (d : Option Def) → Costs (8 + size_if d) (suc (brackets_if d)) (name_if d) (mapped map_of d)
map_costs none = omega arith
map_costs (some d) = omega arith

joined_costs : (r o : Option Fields)
    → Costs (12 + (size_if_fields r + size_if_fields o)) (suc (max (brackets_if_fields r) (brackets_if_fields o))) (max (name_if_fields r) (name_if_fields o)) (joined r o)
joined_costs none o = omega arith
joined_costs (some r) none = omega arith
joined_costs (some r) (some o) = both (Costs _ _ _) (disjoint r o) (λ _. omega arith) (λ _. omega arith)

added_costs : (n : List ℕ) (k h l k₂ h₂ l₂ : ℕ) (d : Option Def) (fs : Option Fields) → Costs k h l d → FieldsCost k₂ h₂ l₂ fs
    → FieldsCost (length (spell_string n) + k + 2 + k₂) (max h h₂) (max (length (spell_chars n)) (max l l₂)) (added n d fs)
added_costs n k h l k₂ h₂ l₂ none fs g f = omega arith
added_costs n k h l k₂ h₂ l₂ (some d) none g f = omega arith
added_costs n k h l k₂ h₂ l₂ (some d) (some fs) g f = omega arith

-- a string that names a type
named_costs : (s : List ℕ) → Costs (length (spell_string s)) 0 0 (mapped named (named_by s))
unfolding spell_char utf8
named_costs s =
    let P : Option Named → Type 0 = λ o. Costs (length (spell_string s)) 0 0 (mapped named o) in
    both P (same s (text "JSON")) (λ t. rw (same_eq s (text "JSON") t) (omega arith))
    (λ _. both P (same s (text "Schema")) (λ t. rw (same_eq s (text "Schema") t) (omega arith))
    (λ _. both P (same s (text "Float")) (λ t. rw (same_eq s (text "Float") t) (omega arith))
    (λ _. both P (same s (text "Integer")) (λ t. rw (same_eq s (text "Integer") t) (omega arith))
    (λ _. both P (same s (text "String")) (λ t. rw (same_eq s (text "String") t) (omega arith))
    (λ _. both P (same s (text "Boolean")) (λ t. rw (same_eq s (text "Boolean") t) (omega arith))
    (λ _. both P (same s (text "DateTime")) (λ t. rw (same_eq s (text "DateTime") t) (omega arith)) (λ _. omega arith)))))))

-- a member of the name n, with the definitions d and o of its value
constructed_costs : (n : List ℕ) (k h l : ℕ) (d o : Option Def) → Costs k h l d → Costs (11 + k) (suc h) l o
    → Costs (length (spell_string n) + k + 3) (suc h) l (constructed n d o)
unfolding spell_char utf8
constructed_costs n k h l d o g f =
    let P : Option Def → Type 0 = Costs (length (spell_string n) + k + 3) (suc h) l in
    both P (same n (text "Array")) (λ t. rw (same_eq n (text "Array") t) (omega (arith, array_costs d)))
    (λ _. both P (same n (text "Map")) (λ t. rw (same_eq n (text "Map") t) (omega (arith, map_costs d)))
    (λ _. both P (same n (text "Object")) (λ t. rw (same_eq n (text "Object") t) (omega arith)) (λ _. omega arith)))

-- ---- values

mutual
  pub def_costs : (v : Value) → Costs (length (spell v)) (depth_of v) (longest_name v) (definition_of v)
  def_costs null = omega arith
  def_costs (boolean b) = omega arith
  def_costs (number s) = omega arith
  def_costs (string s) = named_costs s
  def_costs (array vs) = omega arith
  def_costs (object ms) = rw (object_length ms) (single_costs ms)

  single_costs : (ms : Members) → Costs (max 2 (1 + weight_of_members ms)) (suc (depth_of_members ms)) (longest_of_members ms) (single ms)
  single_costs mnil = omega arith
  single_costs (mcons n v ms) =
      let c = constructed_costs n (length (spell v)) (depth_of v) (longest_name v) (definition_of v) (object_of v) (def_costs v) (object_costs v) in
      both (Costs _ _ _) (is_empty ms) (λ _. (omega (arith, c.0), omega (arith, c.1), omega (arith, c.2))) (λ _. omega arith)

  object_costs : (v : Value) → Costs (11 + length (spell v)) (suc (depth_of v)) (longest_name v) (object_of v)
  object_costs null = omega arith
  object_costs (boolean b) = omega arith
  object_costs (number s) = omega arith
  object_costs (string s) = omega arith
  object_costs (array vs) = omega arith
  object_costs (object ms) =
      let r = fields_under (text "required") ms in
      let o = fields_under (text "optional") ms in
      let j = joined_costs r o in
      let x = part_costs ms (text "required") in
      let y = part_costs ms (text "optional") in
      let z = parts_size ms (text "required") (text "optional") refl in
      (omega (arith, j.0, z, object_length ms), omega (arith, j.1, x.1, y.1), omega (arith, j.2, x.2, y.2))

  -- two parts of different names
  parts_size : (ms : Members) (k l : List ℕ) → same k l ≡ false → size_if_fields (fields_under k ms) + size_if_fields (fields_under l ms) ≤ weight_of_members ms
  parts_size mnil k l e = omega arith
  parts_size (mcons n v ms) k l e =
      let P : Option Fields → Option Fields → Type 0 = λ r o. size_if_fields r + size_if_fields o ≤ weight_of_members (mcons n v ms) in
      let x = (fields_costs v).0 in
      both (λ r. P r (fields_under l (mcons n v ms))) (same k n)
      (λ t. both (P (fields_of v)) (same l n) (λ u. clash (same k l) (same_of k l (same_eq k n t ∙ sym (same_eq l n u))) e)
      (λ _. omega (arith, x, (part_costs ms l).0)))
      (λ _. both (P (fields_under k ms)) (same l n) (λ _. omega (arith, x, (part_costs ms k).0)) (λ _. omega (arith, parts_size ms k l e)))

  part_costs : (ms : Members) (k : List ℕ) → FieldsCost (weight_of_members ms) (depth_of_members ms) (longest_of_members ms) (fields_under k ms)
  part_costs mnil k = omega arith
  part_costs (mcons n v ms) k =
      let x = fields_costs v in
      let y = part_costs ms k in
      both (FieldsCost _ _ _) (same k n) (λ _. (omega (arith, x.0), omega (arith, x.1), omega (arith, x.2)))
      (λ _. (omega (arith, y.0), omega (arith, y.1), omega (arith, y.2)))

  fields_costs : (v : Value) → FieldsCost (length (spell v)) (depth_of v) (longest_name v) (fields_of v)
  fields_costs null = omega arith
  fields_costs (boolean b) = omega arith
  fields_costs (number s) = omega arith
  fields_costs (string s) = omega arith
  fields_costs (array vs) = omega arith
  fields_costs (object ms) = let x = in_costs ms in (omega (arith, x.0, object_length ms), omega (arith, x.1), x.2)

  in_costs : (ms : Members) → FieldsCost (weight_of_members ms) (depth_of_members ms) (longest_of_members ms) (fields_in ms)
  in_costs mnil = omega arith
  in_costs (mcons n v ms) =
      added_costs n (length (spell v)) (depth_of v) (longest_name v) (weight_of_members ms) (depth_of_members ms) (longest_of_members ms)
      (definition_of v) (fields_in ms) (def_costs v) (in_costs ms)
