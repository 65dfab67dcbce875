-- The words that names are compared with are spelled plainly, and what a name that is one of them names.
use Prim.Native.Nat.{ℕ}
use mathlib.Core.Path.{◌≡◌, refl, sym, ap, ◌∙◌}
use mathlib.Core.Bool.{Bool, true}
use mathlib.Core.List.{List}
use Rattle.model.specs.Text.{text, same}
use Rattle.chars.specs.Characters.{char_from, char_at}
use Rattle.chars.specs.Strings.{chars_from, chars_at, characters}
use Rattle.model.specs.Definition.{named_by}
use Rattle.definitions.specs.Types.{type_name, generic_of}
use Rattle.chars.proofs.Facts.{same_true}

pub record Spelled : Type 0 where
  pub json : characters (text "JSON") ≡ text "JSON"
  pub schema : characters (text "Schema") ≡ text "Schema"
  pub float : characters (text "Float") ≡ text "Float"
  pub integer : characters (text "Integer") ≡ text "Integer"
  pub string : characters (text "String") ≡ text "String"
  pub boolean : characters (text "Boolean") ≡ text "Boolean"
  pub date_time : characters (text "DateTime") ≡ text "DateTime"
  pub array : characters (text "Array") ≡ text "Array"
  pub map : characters (text "Map") ≡ text "Map"
  pub object : characters (text "Object") ≡ text "Object"
  pub required : characters (text "required") ≡ text "required"
  pub optional : characters (text "optional") ≡ text "optional"

pub spelled : Spelled
unfolding char_from char_at chars_from chars_at
spelled = record {
  json = refl;
  schema = refl;
  float = refl;
  integer = refl;
  string = refl;
  boolean = refl;
  date_time = refl;
  array = refl;
  map = refl;
  object = refl;
  required = refl;
  optional = refl;
}

-- a name n was compared with a plainly spelled word w
module _ {w : List ℕ} (p : characters w ≡ w) (n : List ℕ) {b : Bool} (e : b ≡ same n (characters w)) where
  pub compared : {c : Bool} → b ≡ c → same n w ≡ c
  compared h = sym (rw p at e) ∙ h

  -- where it is the word, it names what the word names
  pub type_by : b ≡ true → type_name (named_by w) ≡ type_name (named_by n)
  type_by h = ap (λ (k : List ℕ). type_name (named_by k)) (sym (same_true n w (compared h)))

  pub generic_by : b ≡ true → generic_of w ≡ generic_of n
  generic_by h = ap generic_of (sym (same_true n w (compared h)))
