-- Well-formed UTF-8: the table of byte sequences of RFC 3629, section 4. 01, "Text": "UTF-8 is strict: no overlong form, no surrogate, nothing above 10FFFF."
use Rattle.std.specs.Prelude.{ℕ, ◌+◌, ◌-◌, ◌*◌, ◌/◌, ◌%◌, ◌≤◌, cond, List, [], ◌∷◌, ltb}

-- %xlo-hi
abbrev pub In : ℕ → ℕ → ℕ → Type 0
In lo hi b = (lo ≤ b) × (b ≤ hi)

-- UTF8-tail = %x80-BF
abbrev pub IsTail : ℕ → Type 0
IsTail b = In 0x80 0xBF b

-- the first two bytes of UTF8-3 = %xE0 %xA0-BF UTF8-tail / %xE1-EC 2( UTF8-tail ) / %xED %x80-9F UTF8-tail / %xEE-EF 2( UTF8-tail )
pub data StartsThree : ℕ → ℕ → Type 0 where
  e0 : {c : ℕ} → In 0xA0 0xBF c → StartsThree 0xE0 c
  e1_ec : {b c : ℕ} → In 0xE1 0xEC b → IsTail c → StartsThree b c
  ed : {c : ℕ} → In 0x80 0x9F c → StartsThree 0xED c
  ee_ef : {b c : ℕ} → In 0xEE 0xEF b → IsTail c → StartsThree b c

-- the first two bytes of UTF8-4 = %xF0 %x90-BF 2( UTF8-tail ) / %xF1-F3 3( UTF8-tail ) / %xF4 %x80-8F 2( UTF8-tail )
pub data StartsFour : ℕ → ℕ → Type 0 where
  f0 : {c : ℕ} → In 0x90 0xBF c → StartsFour 0xF0 c
  f1_f3 : {b c : ℕ} → In 0xF1 0xF3 b → IsTail c → StartsFour b c
  f4 : {c : ℕ} → In 0x80 0x8F c → StartsFour 0xF4 c

-- UTF8-char = UTF8-1 / UTF8-2 / UTF8-3 / UTF8-4, and the character: the bits behind the marks of its bytes (section 3)
pub data IsUtf8 : List ℕ → ℕ → Type 0 where
  -- UTF8-1 = %x00-7F
  utf8_1 : {b : ℕ} → In 0x00 0x7F b → IsUtf8 (b ∷ []) b
  -- UTF8-2 = %xC2-DF UTF8-tail
  utf8_2 : {b c : ℕ} → In 0xC2 0xDF b → IsTail c → IsUtf8 (b ∷ c ∷ []) (64 * (b - 0xC0) + (c - 0x80))
  utf8_3 : {b c d : ℕ} → StartsThree b c → IsTail d → IsUtf8 (b ∷ c ∷ d ∷ []) (4096 * (b - 0xE0) + 64 * (c - 0x80) + (d - 0x80))
  utf8_4 : {b c d e : ℕ} → StartsFour b c → IsTail d → IsTail e
      → IsUtf8 (b ∷ c ∷ d ∷ e ∷ []) (262144 * (b - 0xF0) + 4096 * (c - 0x80) + 64 * (d - 0x80) + (e - 0x80))

-- the bytes of a Unicode scalar value (section 3): the only ones that the table has for it (`utf8_spelled`, `utf8_only`)
unfoldable pub utf8 : ℕ → List ℕ
utf8 v =
    cond (ltb v 0x80) (v ∷ [])
    (cond (ltb v 0x800) ((0xC0 + v / 64) ∷ (0x80 + v % 64) ∷ [])
    (cond (ltb v 0x10000) ((0xE0 + v / 4096) ∷ (0x80 + v / 64 % 64) ∷ (0x80 + v % 64) ∷ [])
    ((0xF0 + v / 262144) ∷ (0x80 + v / 4096 % 64) ∷ (0x80 + v / 64 % 64) ∷ (0x80 + v % 64) ∷ [])))
