-- What stands at a place i of a string of the text s.
use Rattle.std.specs.Prelude.{ℕ, ◌+◌, ◌-◌, ◌*◌, List, Bool, cond, ◌||◌, length, ltb, eqb, Ok, Err, Option, Some, None}
use Rattle.chars.specs.declared.characters.Character.{Character}
use Rattle.chars.specs.declared.characters.Step.{Step}
use Rattle.chars.specs.declared.characters.Step.TheVariants.{Char, Quote}
use Rattle.chars.specs.declared.refusals.Code.{Code}
use Rattle.chars.specs.declared.refusals.Code.TheVariants.{Ended, NotAllowed, NotUtf8, LoneSurrogate}
use Rattle.chars.specs.declared.refusals.Refusal.{Refusal}
use Rattle.chars.specs.Refusals.{refusal, Reading}
use Rattle.chars.specs.Bytes.{byte_at, from_to, code_of, digit, escape_of, lowest, highest, six_bits}

-- the byte at i is an offence with the code c, unless the text ended before it
unfoldable pub refusal_at : List ℕ → ℕ → Code → Refusal
refusal_at s i c = cond (ltb i (length s)) (refusal c i) (refusal Ended (length s))

abbrev pub stop_at : {A : Type 0} → List ℕ → ℕ → Code → Reading A
stop_at s i c = Err (refusal_at s i c)

-- the byte at i is none that the escape may hold there
abbrev pub wrong : List ℕ → ℕ → Refusal
wrong s i = refusal_at s i (code_of (byte_at s i))

-- where the test holds, what follows; otherwise the offence
abbrev pub need : Bool → Reading Step → Reading Step → Reading Step
need t other go = cond t go other

-- where there is a value, what follows on it; otherwise the offence
abbrev pub need_some : {A B : Type 0} → Option A → Reading B → (A → Reading B) → Reading B
need_some (Some x) other k = k x
need_some None other k = other

-- two hex digits
unfoldable pub hex_pair : List ℕ → ℕ → Reading ℕ
hex_pair s i =
    need_some (digit (byte_at s i)) (Err (wrong s i)) (λ a.
    need_some (digit (byte_at s (i + 1))) (Err (wrong s (i + 1))) (λ b. Ok (16 * a + b)))

-- what follows on two digits
abbrev pub with_pair : (ℕ → Reading Step) → Reading ℕ → Reading Step
with_pair k (Ok v) = k v
with_pair k (Err r) = Err r

-- the scalar value of a pair of surrogates
abbrev pub pair_value : ℕ → ℕ → ℕ
pair_value high low = 0x10000 + 0x400 * (high - 0xD800) + (low - 0xDC00)

-- behind the escape of a high surrogate: `\`, `u`, D or d, a digit C to F, and two digits more
unfoldable pub partner_at : List ℕ → ℕ → ℕ → Reading Step
partner_at s i high =
    need (eqb (byte_at s i) 0x5C) (stop_at s i LoneSurrogate)
    (need (eqb (byte_at s (i + 1)) 0x75) (stop_at s (i + 1) LoneSurrogate)
    (need (eqb (byte_at s (i + 2)) 0x44 || eqb (byte_at s (i + 2)) 0x64) (stop_at s (i + 2) LoneSurrogate)
    (need_some (digit (byte_at s (i + 3))) (stop_at s (i + 3) LoneSurrogate) (λ d.
    need (from_to 12 15 d) (stop_at s (i + 3) LoneSurrogate)
    (with_pair (λ l. Ok (Char (pair_value high (256 * (0xD0 + d) + l)) (i + 6))) (hex_pair s (i + 4)))))))

-- the escape at i, whose first two digits are h
unfoldable pub rest_at : List ℕ → ℕ → ℕ → Reading Step
rest_at s i h = with_pair (λ l. cond (from_to 0xD8 0xDB h) (partner_at s (i + 6) (256 * h + l)) (Ok (Char (256 * h + l) (i + 6)))) (hex_pair s (i + 4))

-- the escape at i with four hex digits; no low surrogate comes first
unfoldable pub unicode_at : List ℕ → ℕ → Reading Step
unicode_at s i = with_pair (λ h. cond (from_to 0xDC 0xDF h) (Err (refusal LoneSurrogate (i + 3))) (rest_at s i h)) (hex_pair s (i + 2))

-- the escape whose backslash is at i
unfoldable pub escape_at : List ℕ → ℕ → Reading Step
escape_at s i =
    let b = byte_at s (i + 1) in
    cond (eqb b 0x75) (unicode_at s i) (need_some (escape_of b) (Err (wrong s (i + 1))) (λ v. Ok (Char v (i + 2))))

-- characters of two, three and four bytes, of which the first, b, is at i
unfoldable pub two_at : List ℕ → ℕ → ℕ → Reading Step
two_at s i b =
    need_some (six_bits (byte_at s (i + 1)) 0x80 0xBF) (stop_at s (i + 1) NotUtf8) (λ c.
    Ok (Char (64 * (b - 0xC0) + c) (i + 2)))

unfoldable pub three_at : List ℕ → ℕ → ℕ → Reading Step
three_at s i b =
    need_some (six_bits (byte_at s (i + 1)) (lowest b) (highest b)) (stop_at s (i + 1) NotUtf8) (λ c.
    need_some (six_bits (byte_at s (i + 2)) 0x80 0xBF) (stop_at s (i + 2) NotUtf8) (λ d.
    Ok (Char (4096 * (b - 0xE0) + 64 * c + d) (i + 3))))

unfoldable pub four_at : List ℕ → ℕ → ℕ → Reading Step
four_at s i b =
    need_some (six_bits (byte_at s (i + 1)) (lowest b) (highest b)) (stop_at s (i + 1) NotUtf8) (λ c.
    need_some (six_bits (byte_at s (i + 2)) 0x80 0xBF) (stop_at s (i + 2) NotUtf8) (λ d.
    need_some (six_bits (byte_at s (i + 3)) 0x80 0xBF) (stop_at s (i + 3) NotUtf8) (λ e.
    Ok (Char (262144 * (b - 0xF0) + 4096 * c + 64 * d + e) (i + 4)))))

-- the character at i, by its first byte
unfoldable pub char_from : List ℕ → ℕ → ℕ → Reading Step
char_from s i b =
    cond (eqb b 0x22) (Ok Quote)
    (cond (eqb b 0x5C) (escape_at s i)
    (cond (ltb b 0x20) (stop_at s i NotAllowed)
    (cond (ltb b 0x80) (Ok (Char b (i + 1)))
    (cond (ltb b 0xC2) (stop_at s i NotUtf8)
    (cond (ltb b 0xE0) (two_at s i b)
    (cond (ltb b 0xF0) (three_at s i b)
    (cond (ltb b 0xF5) (four_at s i b) (stop_at s i NotUtf8))))))))

unfoldable pub char_at : List ℕ → ℕ → Reading Step
char_at s i = char_from s i (byte_at s i)

-- the character that stands at i, where one does
abbrev pub character : ℕ → ℕ → Character
character value next = record { value = value; next = next }

abbrev pub character_in : Reading Step → Option Character
character_in (Ok (Char v j)) = Some (character v j)
character_in (Ok Quote) = None
character_in (Err r) = None

abbrev pub character_at : List ℕ → ℕ → Option Character
character_at s i = character_in (char_at s i)
