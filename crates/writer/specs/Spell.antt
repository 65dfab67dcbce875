-- The one spelling of a JSON value (02, L6).
use Rattle.std.specs.Prelude.{ℕ, ◌+◌, ◌/◌, ◌%◌, List, [], ◌∷◌, ◌++◌, Bool, true, false, cond, ◌||◌, ltb, eqb, Option, Some, None}
use Rattle.model.specs.Text.{text}
use Rattle.model.specs.Value.{Value, null, boolean, number, string, array, object, Values, vnil, vcons, Members, mnil, mcons}
use Rattle.grammar.specs.Utf8.{utf8}

-- ---- strings

-- "in strings only `"`, `\` and bytes under 20 hex escaped"
abbrev pub is_escaped : ℕ → Bool
is_escaped c = ltb c 0x20 || eqb c 0x22 || eqb c 0x5C

-- "by the short forms where there is one": the byte behind the backslash
unfoldable pub letter_of : ℕ → Option ℕ
letter_of c =
    cond (eqb c 0x22) (Some 0x22)
    (cond (eqb c 0x5C) (Some 0x5C)
    (cond (eqb c 0x08) (Some 0x62)
    (cond (eqb c 0x0C) (Some 0x66)
    (cond (eqb c 0x0A) (Some 0x6E)
    (cond (eqb c 0x0D) (Some 0x72)
    (cond (eqb c 0x09) (Some 0x74) None))))))

-- "lower-case digits": that of a number below 16
unfoldable pub hex_digit : ℕ → ℕ
hex_digit n = cond (ltb n 10) (0x30 + n) (0x57 + n)

-- "else `\u00` with lower-case digits"
abbrev pub long_form : ℕ → List ℕ
long_form c = 0x5C ∷ 0x75 ∷ 0x30 ∷ 0x30 ∷ hex_digit (c / 16) ∷ hex_digit (c % 16) ∷ []

-- the short form by its letter, and the long one where there is none
abbrev pub form : ℕ → Option ℕ → List ℕ
form c (Some l) = 0x5C ∷ l ∷ []
form c None = long_form c

abbrev pub escape : ℕ → List ℕ
escape c = form c (letter_of c)

-- a character: an escape, or its bytes of UTF-8
unfoldable pub spell_char : ℕ → List ℕ
spell_char c = cond (is_escaped c) (escape c) (utf8 c)

-- one character behind the other
abbrev pub spell_chars : List ℕ → List ℕ
spell_chars [] = []
spell_chars (c ∷ s) = spell_char c ++ spell_chars s

-- a string or a name, with its quotes
abbrev pub spell_string : List ℕ → List ℕ
spell_string s = 0x22 ∷ (spell_chars s ++ (0x22 ∷ []))

-- ---- values

-- the literal names of RFC 8259, section 3
abbrev pub spell_boolean : Bool → List ℕ
spell_boolean true = text "true"
spell_boolean false = text "false"

-- "no space": a comma alone stands before the rest t, where more follow
abbrev pub before_values : Values → List ℕ → List ℕ
before_values vnil t = t
before_values (vcons v vs) t = 0x2C ∷ t

abbrev pub before_members : Members → List ℕ → List ℕ
before_members mnil t = t
before_members (mcons n v ms) t = 0x2C ∷ t

abbrev mutual
  -- "numbers as spelled"; brackets, commas and colons are RFC 8259's, sections 4 and 5
  pub spell : Value → List ℕ
  spell null = text "null"
  spell (boolean b) = spell_boolean b
  spell (number s) = s
  spell (string s) = spell_string s
  spell (array vs) = 0x5B ∷ (spell_values vs ++ (0x5D ∷ []))
  spell (object ms) = 0x7B ∷ (spell_members ms ++ (0x7D ∷ []))

  pub spell_values : Values → List ℕ
  spell_values vnil = []
  spell_values (vcons v vs) = spell v ++ before_values vs (spell_values vs)

  -- "members in their order"
  pub spell_members : Members → List ℕ
  spell_members mnil = []
  spell_members (mcons n v ms) = spell_string n ++ (0x3A ∷ (spell v ++ before_members ms (spell_members ms)))
