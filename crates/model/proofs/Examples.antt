-- Worked examples of the definitions, computed.
use mathlib.Core.Path.{◌≡◌, refl}
use mathlib.Core.Logic.{inl, inr}
use mathlib.Core.Bool.{true, false}
use mathlib.Core.List.{[], ◌∷◌}
use Rattle.model.specs.Text.{text, same, is_scalar, is_text}
use Rattle.model.specs.Value.{null, boolean, number, string, array, object, vcons, vnil, mcons, mnil, is_int, is_fraction, is_exponent}
use Rattle.model.specs.Value.{is_integer, IsNumber, IsJson, has_name}

names :
    (same (text "a") (text "a") ≡ true)
    × (same (text "a") (text "A") ≡ false)
    × (same (text "a") (text "ab") ≡ false)
    × (same (text "ab") (text "a") ≡ false)
    × (same (text "") (text "") ≡ true)
names = (refl, refl, refl, refl, refl)

-- the ends of the ranges of scalar values
scalars :
    (is_scalar 0 ≡ true)
    × (is_scalar 0xD7FF ≡ true)
    × (is_scalar 0xD800 ≡ false)
    × (is_scalar 0xDFFF ≡ false)
    × (is_scalar 0xE000 ≡ true)
    × (is_scalar 0x10FFFF ≡ true)
    × (is_scalar 0x110000 ≡ false)
scalars = (refl, refl, refl, refl, refl, refl, refl)

-- the parts of a number
parts :
    (is_int (text "0") ≡ true)
    × (is_int (text "10") ≡ true)
    × (is_int (text "01") ≡ false)
    × (is_int (text "") ≡ false)
    × (is_int (text "+1") ≡ false)
    × (is_fraction (text "") ≡ true)
    × (is_fraction (text ".0") ≡ true)
    × (is_fraction (text ".") ≡ false)
    × (is_exponent (text "") ≡ true)
    × (is_exponent (text "e1") ≡ true)
    × (is_exponent (text "E+01") ≡ true)
    × (is_exponent (text "e-") ≡ false)
    × (is_exponent (text "e") ≡ false)
parts = (refl, refl, refl, refl, refl, refl, refl, refl, refl, refl, refl, refl, refl)

-- "`1.0` is no Integer and `-0` is one"
integers :
    (is_integer (text "-0") ≡ true)
    × (is_integer (text "10") ≡ true)
    × (is_integer (text "1.0") ≡ false)
    × (is_integer (text "1e2") ≡ false)
    × (is_integer (text "1E2") ≡ false)
integers = (refl, refl, refl, refl, refl)

-- -1.5e+7
number_example : IsNumber (text "-1.5e+7")
number_example = record {
  minus = text "-";
  int = text "1";
  fraction = text ".5";
  exponent = text "e+7";
  spelled = refl;
  is_minus = inr refl;
  is-int = refl;
  is-fraction = refl;
  is-exponent = refl;
}

-- {"a":[1,null],"b":"x"} but not {"a":null,"a":true}, nor a string with a surrogate
one : IsNumber (text "1")
one = record {
  minus = [];
  int = text "1";
  fraction = [];
  exponent = [];
  spelled = refl;
  is_minus = inl refl;
  is-int = refl;
  is-fraction = refl;
  is-exponent = refl;
}

json : IsJson (object (mcons (text "a") (array (vcons (number (text "1")) (vcons null vnil))) (mcons (text "b") (string (text "x")) mnil)))
json = (refl, refl, (one, (tt, tt)), (refl, refl, refl, tt))

not_json :
    (has_name (text "a") (mcons (text "a") (boolean true) mnil) ≡ true)
    × (is_text (0xD800 ∷ []) ≡ false)
not_json = (refl, refl)
