-- The written grammar: RFC 8259, sections 2 to 7, as 01 ("Text") narrows it:
-- strict UTF-8, surrogate escapes in pairs, names that differ, a limit on open brackets.
-- Each production says of a list of bytes that it is spelled so, and what it spells.
-- There is no place and no order of reading here, and no limit on the length.
use Rattle.std.specs.Prelude.{ℕ, zero, suc, ◌+◌, ◌-◌, ◌*◌, ◌≤◌, ◌≡◌, ◌⊎◌, true, false, ◌||◌, List, [], ◌∷◌, ◌++◌, eqb}
use Rattle.model.specs.Text.{text, all}
use Rattle.model.specs.Value.{Value, null, boolean, number, string, array, object, Values, vnil, vcons, Members, mnil, mcons, has_name, IsNumber}
use Rattle.grammar.specs.Utf8.{In, IsUtf8}

-- a language: which lists of bytes spell which things
abbrev pub Language : Type 0 → Type 1
Language A = List ℕ → A → Type 0

-- ---- section 2: tokens

-- ws = *( %x20 / %x09 / %x0A / %x0D )
abbrev pub IsSpace : List ℕ → Type 0
IsSpace w = all (λ b. eqb b 0x20 || eqb b 0x09 || eqb b 0x0A || eqb b 0x0D) w ≡ true

-- begin-array = ws %x5B ws, begin-object = ws %x7B ws, end-array = ws %x5D ws, end-object = ws %x7D ws,
-- name-separator = ws %x3A ws, value-separator = ws %x2C ws: the byte b with ws on both sides
pub data IsStructural (b : ℕ) : List ℕ → Type 0 where
  structural : (a c : List ℕ) → IsSpace a → IsSpace c → IsStructural b (a ++ (b ∷ c))

-- ---- section 7: strings

-- unescaped = %x20-21 / %x23-5B / %x5D-10FFFF
abbrev pub IsUnescaped : ℕ → Type 0
IsUnescaped v = In 0x20 0x21 v ⊎ (In 0x23 0x5B v ⊎ In 0x5D 0x10FFFF v)

-- %x22 / %x5C / %x2F / %x62 / %x66 / %x6E / %x72 / %x74, and the character that each stands for behind a backslash
pub data IsShort : ℕ → ℕ → Type 0 where
  quotation_mark : IsShort 0x22 0x22
  reverse_solidus : IsShort 0x5C 0x5C
  solidus : IsShort 0x2F 0x2F
  backspace : IsShort 0x62 0x08
  form_feed : IsShort 0x66 0x0C
  line_feed : IsShort 0x6E 0x0A
  carriage_return : IsShort 0x72 0x0D
  tab : IsShort 0x74 0x09

-- HEXDIG = DIGIT / "A" / "B" / "C" / "D" / "E" / "F" (RFC 5234), of either case, and its value
pub data IsHexDigit : ℕ → ℕ → Type 0 where
  decimal : (x : ℕ) → x ≤ 9 → IsHexDigit (0x30 + x) x
  upper : (x : ℕ) → x ≤ 5 → IsHexDigit (0x41 + x) (10 + x)
  lower : (x : ℕ) → x ≤ 5 → IsHexDigit (0x61 + x) (10 + x)

-- 4HEXDIG
pub data IsHex : List ℕ → ℕ → Type 0 where
  hex : {a b c d w x y z : ℕ} → IsHexDigit a w → IsHexDigit b x → IsHexDigit c y → IsHexDigit d z → IsHex (a ∷ b ∷ c ∷ d ∷ []) (4096 * w + 256 * x + 16 * y + z)

-- char = unescaped / escape ( %x22 / %x5C / %x2F / %x62 / %x66 / %x6E / %x72 / %x74 / %x75 4HEXDIG ), with escape = %x5C
pub data IsChar : List ℕ → ℕ → Type 0 where
  unescaped : {w : List ℕ} {v : ℕ} → IsUtf8 w v → IsUnescaped v → IsChar w v
  short : {b v : ℕ} → IsShort b v → IsChar (0x5C ∷ b ∷ []) v
  -- no surrogate
  unicode : {w : List ℕ} {v : ℕ} → IsHex w v → (In 0xD800 0xDFFF v → ⊥) → IsChar (0x5C ∷ 0x75 ∷ w) v
  -- two escapes for one character: "A high surrogate escape (D800 to DBFF) must be followed by `\uDC00` to `\uDFFF`."
  surrogates : {w x : List ℕ} {h l : ℕ} → IsHex w h → In 0xD800 0xDBFF h → IsHex x l → In 0xDC00 0xDFFF l
      → IsChar (0x5C ∷ 0x75 ∷ w ++ (0x5C ∷ 0x75 ∷ x)) (0x10000 + 0x400 * (h - 0xD800) + (l - 0xDC00))

-- *char
pub data IsChars : List ℕ → List ℕ → Type 0 where
  no_char : IsChars [] []
  char : {w r : List ℕ} {v : ℕ} {vs : List ℕ} → IsChar w v → IsChars r vs → IsChars (w ++ r) (v ∷ vs)

-- string = quotation_mark *char quotation_mark, with quotation_mark = %x22
pub record IsString (w vs : List ℕ) : Type 0 where
  pub body : List ℕ
  pub spelled : w ≡ 0x22 ∷ body ++ (0x22 ∷ [])
  pub chars : IsChars body vs

-- ---- sections 4 and 5: what stands in brackets

-- item *( value-separator item )
pub data IsSeries {A : Type 0} (IsItem : Language A) : List ℕ → List A → Type 0 where
  one : {w : List ℕ} {a : A} → IsItem w a → IsSeries IsItem w (a ∷ [])
  more : {w c x : List ℕ} {a : A} {rest : List A} → IsItem w a → IsStructural 0x2C c → IsSeries IsItem x rest → IsSeries IsItem (w ++ (c ++ x)) (a ∷ rest)

-- begin [ item *( value-separator item ) ] end
pub data IsBracketed {A : Type 0} (opening closing : ℕ) (IsItem : Language A) : List ℕ → List A → Type 0 where
  empty : {a b : List ℕ} → IsStructural opening a → IsStructural closing b → IsBracketed opening closing IsItem (a ++ b) []
  series : {a x b : List ℕ} {items : List A} → IsStructural opening a → IsSeries IsItem x items → IsStructural closing b
      → IsBracketed opening closing IsItem (a ++ (x ++ b)) items

-- the values of an array
abbrev pub values : List Value → Values
values [] = vnil
values (v ∷ vs) = vcons v (values vs)

-- array = begin-array [ value *( value-separator value ) ] end-array
pub data IsArray (IsItem : Language Value) : List ℕ → Value → Type 0 where
  is-array : {w : List ℕ} {vs : List Value} → IsBracketed 0x5B 0x5D IsItem w vs → IsArray IsItem w (array (values vs))

-- a member: its name after unescaping, and its value
pub record Member : Type 0 where
  pub name : List ℕ
  pub value : Value

-- member = string name-separator value
pub data IsMember (IsItem : Language Value) : List ℕ → Member → Type 0 where
  is_member : {w c x n : List ℕ} {v : Value} → IsString w n → IsStructural 0x3A c → IsItem x v
      → IsMember IsItem (w ++ (c ++ x)) (record { name = n; value = v })

-- the members of an object
abbrev pub members : List Member → Members
members [] = mnil
members (m ∷ ms) = mcons m.name m.value (members ms)

-- "a list of members whose names differ"
abbrev pub Differ : Members → Type 0
Differ mnil = Unit
Differ (mcons n v ms) = (has_name n ms ≡ false) × Differ ms

-- object = begin-object [ member *( value-separator member ) ] end-object
pub data IsObject (IsItem : Language Value) : List ℕ → Value → Type 0 where
  is-object : {w : List ℕ} {ms : List Member} → IsBracketed 0x7B 0x7D (IsMember IsItem) w ms → Differ (members ms) → IsObject IsItem w (object (members ms))

-- ---- sections 3 and 2: values and texts

-- false = %x66.61.6c.73.65, null = %x6e.75.6c.6c, true = %x74.72.75.65; number (section 6) is `IsNumber` of model/specs/Value
abbrev pub IsLeaf : Language Value
IsLeaf w null = w ≡ text "null"
IsLeaf w (boolean false) = w ≡ text "false"
IsLeaf w (boolean true) = w ≡ text "true"
IsLeaf w (number n) = (w ≡ n) × IsNumber w
IsLeaf w (string vs) = IsString w vs
IsLeaf w (array vs) = ⊥
IsLeaf w (object ms) = ⊥

-- value = false / null / true / object / array / number / string, with at most d brackets open at once
unfoldable pub IsValue : ℕ → Language Value
IsValue zero w v = IsLeaf w v
IsValue (suc d) w v = IsLeaf w v ⊎ (IsArray (IsValue d) w v ⊎ IsObject (IsValue d) w v)

-- JSON-text = ws value ws
pub data IsJsonText (d : ℕ) : List ℕ → Value → Type 0 where
  is-text : (a w b : List ℕ) {v : Value} → IsSpace a → IsValue d w v → IsSpace b → IsJsonText d (a ++ (w ++ b)) v

-- some text begins with s
pub record Begins (d : ℕ) (s : List ℕ) : Type 0 where
  pub rest : List ℕ
  pub value : Value
  pub spells : IsJsonText d (s ++ rest) value
