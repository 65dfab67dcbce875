-- What an answer of Read says of its text, by the written grammar. `l` are the limits that the text is held to.
use Rattle.std.specs.Prelude.{ℕ, ◌+◌, ◌≤◌, ◌<◌, min, ◌≡◌, ◌⊎◌, List, length, take}
use Rattle.model.specs.Value.{Value}
use Rattle.syntax.specs.declared.answers.Answer.{Answer}
use Rattle.syntax.specs.declared.limits.Limits.{Limits}
use Rattle.grammar.specs.Written.{IsJsonText, Begins}

-- the limits that count: none above a document's (syntax/specs/Answer, `read_within`)
abbrev pub bytes_within : Limits → ℕ
bytes_within l = min l.bytes 65536

abbrev pub depth_within : Limits → ℕ
depth_within l = min l.depth 32

-- the text was read: 0, or 8 where the table has no room for it
abbrev pub IsRead : Answer → Type 0
IsRead a = (a.code ≡ 0) ⊎ (a.code ≡ 8)

-- demand 1, "No text is refused on a ground that documents 01 and 02 don't state": read are exactly the texts of the grammar within the length
pub record ReadsExactly (l : Limits) (s : List ℕ) (a : Answer) : Type 0 where
  pub sound : IsRead a → (length s ≤ bytes_within l) × ((v : Value) × IsJsonText (depth_within l) s v)
  pub complete : length s ≤ bytes_within l → (v : Value) → IsJsonText (depth_within l) s v → IsRead a

-- request L14 of 02. The length limit is set aside: the text that the bytes begin may have any length
pub record PlaceMeans (l : Limits) (s : List ℕ) (a : Answer) : Type 0 where
  -- "for codes 2 to 7 the first "place" bytes begin some well-formed text under the same depth"
  pub begins : 2 ≤ a.code → a.code ≤ 7 → Begins (depth_within l) (take a.place s)
  -- "for 3 to 7 that one byte more begins none"
  pub ends : 3 ≤ a.code → a.code ≤ 7 → Begins (depth_within l) (take (a.place + 1) s) → ⊥
  -- s has these bytes: code 2 stands at its end, and any other at a byte of it
  pub at_end : a.code ≡ 2 → a.place ≡ length s
  pub at_byte : 3 ≤ a.code → a.code ≤ 7 → a.place < length s
