-- For private contracts: the tokens of a text, and what is written for them.
use Rattle.std.specs.Prelude.{ℕ, ◌+◌, ◌≤◌, ◌<◌, ◌≡◌, true, false, cond, ◌||◌, List, [], ◌∷◌, ◌++◌, length, eqb, Option, Some, None, Ok, Err}
use Rattle.chars.specs.declared.characters.Character.{Character}
use Rattle.chars.specs.Refusals.{Reading}
use Rattle.chars.specs.Bytes.{byte_at}
use Rattle.chars.specs.Characters.{character_at}
use Rattle.tokens.specs.Space.{is_space}
use Rattle.chars.specs.Strings.{string_at, chars_at, part}
use Rattle.tokens.specs.Spelling.{IsQuoted}
use Rattle.syntax.specs.declared.answers.Answer.{Answer}
use Rattle.writer.specs.Spell.{spell_char, spell_string}
use Rattle.writer.specs.Compact.{over, written_answer, written_buffer}
use Rattle.writer.specs.Runs.{ordinary_end, is_structural, atom_end}
use Rattle.writer.specs.declared.pieces.Piece.{Piece}

-- ---- a piece of a string, at i

-- a character that an escape spells: the place behind it, and what is written for it
abbrev pub next_of : ℕ → Option Character → ℕ
next_of i (Some c) = c.next
next_of i None = i

abbrev pub bytes_of : Option Character → List ℕ
bytes_of (Some c) = spell_char c.value
bytes_of None = []

-- an escape; or the bytes that are copied, up to the next escape or the closing quote
unfoldable pub stretch_end : List ℕ → ℕ → ℕ
stretch_end s i = cond (eqb (byte_at s i) 0x5C) (next_of i (character_at s i)) (ordinary_end s i)

unfoldable pub stretch_bytes : List ℕ → ℕ → List ℕ
stretch_bytes s i = cond (eqb (byte_at s i) 0x5C) (bytes_of (character_at s i)) (part s i (ordinary_end s i))

-- ---- one token, at i

abbrev pub end_of : Reading ℕ → ℕ
end_of (Ok e) = e
end_of (Err r) = r.place

-- a string or a name: the place behind it, and what is written for it
abbrev pub string_end : List ℕ → ℕ → ℕ
string_end s i = end_of (string_at s (i + 1))

abbrev pub string_bytes : List ℕ → ℕ → List ℕ
string_bytes s i = spell_string (chars_at s (i + 1))

-- any token
unfoldable pub token_end : List ℕ → ℕ → ℕ
token_end s i = cond (eqb (byte_at s i) 0x22) (string_end s i) (cond (is_structural (byte_at s i)) (i + 1) (atom_end s i))

unfoldable pub token_bytes : List ℕ → ℕ → List ℕ
token_bytes s i = cond (eqb (byte_at s i) 0x22) (string_bytes s i) (part s i (token_end s i))

-- the place behind a token, and how many bytes are written for it
abbrev pub piece : ℕ → List ℕ → Piece
piece e w = record { next = e; len = length w }

-- ---- all that follow

-- from i on, the tokens of s are written as w: space is left out, strings are spelled anew, all else is copied
pub data Tokens (s : List ℕ) : ℕ → List ℕ → Type 0 where
  ended : {i : ℕ} → length s ≤ i → Tokens s i []
  space : {i : ℕ} {w : List ℕ} → i < length s → is_space (byte_at s i) ≡ true → Tokens s (i + 1) w → Tokens s i w
  quoted : {i e : ℕ} {w : List ℕ} → IsQuoted s i e → Tokens s e w → Tokens s i (string_bytes s i ++ w)
  copied : {i : ℕ} {w : List ℕ} → i < length s → is_space (byte_at s i) || eqb (byte_at s i) 0x22 ≡ false → Tokens s (i + 1) w → Tokens s i (byte_at s i ∷ w)

-- ---- what the functions ask and tell

-- a token stands at i, a string whole, and there is room for what is written for it
pub record TokenReady (s : List ℕ) (i room : ℕ) : Type 0 where
  pub inside : i < length s
  pub string : byte_at s i ≡ 0x22 → IsQuoted s i (string_end s i)
  pub fits : length (token_bytes s i) ≤ room

-- s is made of tokens, and there is room for what is written for them
pub record Writable (s : List ℕ) (room : ℕ) : Type 0 where
  pub bytes : List ℕ
  pub tokens : Tokens s 0 bytes
  pub fits : length bytes ≤ room

-- r is how many bytes are written for s
abbrev pub Measures : List ℕ → ℕ → Type 0
Measures s r = (w : List ℕ) → Tokens s 0 w → r ≡ length w

-- and they are written
abbrev pub Writes : List ℕ → ℕ → List ℕ → List ℕ → Type 0
Writes s r out out₂ = (w : List ℕ) → Tokens s 0 w → (r ≡ length w) × (out₂ ≡ over w out)

-- and they are written where there is room
abbrev pub Answers : List ℕ → Answer → List ℕ → List ℕ → Type 0
Answers s r out out₂ = (w : List ℕ) → Tokens s 0 w → (r ≡ written_answer (length out) w) × (out₂ ≡ written_buffer out w)
