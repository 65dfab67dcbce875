-- JSON values (01, "Text"):
-- "null, false, true, a number as spelled, a string of Unicode scalar values, a list of values, or a list of members whose names differ."
-- "Space and escapes are no part of it."
use Rattle.std.specs.Prelude.{ℕ, ◌≡◌, ◌⊎◌, Bool, true, false, not, ◌&&◌, ◌||◌, List, [], ◌∷◌, ◌++◌, leb, eqb}
use Rattle.model.specs.Text.{text, same, all, is_text}

mutual
  pub data Value : Type 0 where
    null : Value
    boolean : Bool → Value
    number : List ℕ → Value  -- the bytes that spell it
    string : List ℕ → Value  -- its characters
    array : Values → Value
    object : Members → Value

  pub data Values : Type 0 where
    vnil : Values
    vcons : Value → Values → Values

  -- each member is a name and a value
  pub data Members : Type 0 where
    mnil : Members
    mcons : List ℕ → Value → Members → Members

-- w is one of the values
abbrev pub Among : Value → Values → Type 0
Among w vnil = ⊥
Among w (vcons v vs) = (w ≡ v) ⊎ Among w vs

-- some member has the name n
abbrev pub has_name : List ℕ → Members → Bool
has_name n mnil = false
has_name n (mcons m v ms) = same n m || has_name n ms

-- w stands under the name n
abbrev pub Under : List ℕ → Value → Members → Type 0
Under n w mnil = ⊥
Under n w (mcons m v ms) = ((n ≡ m) × (w ≡ v)) ⊎ Under n w ms

-- ---- numbers, by the grammar of RFC 8259, section 6: minus = %x2D, plus = %x2B, zero = %x30, digit1-9 = %x31-39, decimal-point = %x2E, e = %x65 / %x45

abbrev pub is_digit : ℕ → Bool
is_digit c = leb 0x30 c && leb c 0x39

-- 1*DIGIT
abbrev pub is_digits : List ℕ → Bool
is_digits [] = false
is_digits (c ∷ s) = is_digit c && all is_digit s

-- int = zero / ( digit1-9 *DIGIT )
abbrev pub is_int : List ℕ → Bool
is_int [] = false
is_int (c ∷ s) = same (c ∷ s) (text "0") || (leb 0x31 c && leb c 0x39 && all is_digit s)

-- [ frac ], frac = decimal-point 1*DIGIT
abbrev pub is_fraction : List ℕ → Bool
is_fraction [] = true
is_fraction (c ∷ s) = eqb c 0x2E && is_digits s

-- [ minus / plus ] 1*DIGIT
abbrev pub is_power : List ℕ → Bool
is_power [] = false
is_power (c ∷ s) = is_digits (c ∷ s) || ((eqb c 0x2B || eqb c 0x2D) && is_digits s)

-- [ exp ], exp = e [ minus / plus ] 1*DIGIT
abbrev pub is_exponent : List ℕ → Bool
is_exponent [] = true
is_exponent (c ∷ s) = (eqb c 0x45 || eqb c 0x65) && is_power s

-- number = [ minus ] int [ frac ] [ exp ]
pub record IsNumber (s : List ℕ) : Type 0 where
  pub minus : List ℕ
  pub int : List ℕ
  pub fraction : List ℕ
  pub exponent : List ℕ
  pub spelled : s ≡ minus ++ (int ++ (fraction ++ exponent))
  pub is_minus : (minus ≡ []) ⊎ (minus ≡ text "-")
  pub is-int : is_int int ≡ true
  pub is-fraction : is_fraction fraction ≡ true
  pub is-exponent : is_exponent exponent ≡ true

-- "a number without fraction or exponent": no '.', 'E' or 'e' stands in it
abbrev pub is_integer : List ℕ → Bool
is_integer s = all (λ c. not (eqb c 0x2E || eqb c 0x45 || eqb c 0x65)) s

-- ---- the values that are JSON values: numbers follow the grammar, strings and names are of scalar values, and the names of an object differ
abbrev mutual
  pub IsJson : Value → Type 0
  IsJson null = Unit
  IsJson (boolean b) = Unit
  IsJson (number s) = IsNumber s
  IsJson (string s) = is_text s ≡ true
  IsJson (array vs) = AreJson vs
  IsJson (object ms) = AreMembers ms

  pub AreJson : Values → Type 0
  AreJson vnil = Unit
  AreJson (vcons v vs) = IsJson v × AreJson vs

  pub AreMembers : Members → Type 0
  AreMembers mnil = Unit
  AreMembers (mcons n v ms) = (is_text n ≡ true) × (has_name n ms ≡ false) × IsJson v × AreMembers ms
