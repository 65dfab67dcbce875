-- For private contracts: what the first pass is given, and what it answers.
use Rattle.std.specs.Prelude.{ℕ, ◌+◌, ◌*◌, ◌≤◌, ◌<◌, ◌≡◌, false, List, [], ◌∷◌, ◌++◌, length, take, set, Ok, Err}
use Rattle.std.proofs.Math.Seq.{slice}
use Rattle.chars.specs.Bytes.{byte_at}
use Rattle.chars.specs.Refusals.{refusal, Reading}
use Rattle.tokens.specs.Parse.{Parse, refused, parsed, reading_of}
use Rattle.tokens.specs.Space.{skip}
use Rattle.tokens.specs.Scalars.{first_of}
use Rattle.tokens.specs.declared.scalars.First.{First}
use Rattle.syntax.specs.Tree.{Node, Members}
use Rattle.syntax.specs.Rows.{size, sizes_members, entries, entries_members}
use Rattle.syntax.specs.Grammar.{value_at, member_at}
use Rattle.marks.specs.Marks.{is_name, mark_entry, mark_entries}
use Rattle.marks.specs.Names.{Fresh, Within, Kept, Index}
use Rattle.reader.specs.declared.scanning.Following.{Following}
use Rattle.reader.specs.declared.scanning.Following.TheVariants.{Closing, Item, Other}
use Rattle.reader.specs.declared.scanning.Scanned.{Scanned}

abbrev pub scanned : ℕ → ℕ → Scanned
scanned end rows = record { end = end; rows = rows }

abbrev pub scan_of : Parse Node → Reading Scanned
scan_of o = reading_of (λ n e. scanned e (size n)) o

-- ---- what the first pass is given

-- room for the text's rows: a row takes two bytes, but for the brackets that are open
pub record Room (s ms : List ℕ) : Type 0 where
  pub short : length s ≤ 65536
  pub rows : length s + 33 ≤ 2 * length ms

-- room of h heads and m marks, all of it cleared, can hold the text's rows
pub record CanHold (h m : ℕ) (s : List ℕ) : Type 0 where
  pub short : length s ≤ 65536
  pub rows : length s + 33 ≤ 2 * m
  pub some : 0 < h
  pub few : h ≤ 65536
  pub marked : m ≤ 65536

-- a value at a place that holds no other, with a mark free at `row`
pub record LeafReady (s ms : List ℕ) (row i : ℕ) : Type 0 where
  pub short : length s ≤ 65536
  pub free : i < length s → row < length ms

-- f is what the byte at i begins
pub record Begun (s : List ℕ) (i : ℕ) (f : First) : Type 0 where
  pub first : f ≡ first_of (byte_at s i)

-- a value at a place, with d more brackets allowed to open, and its row free from `row` on
pub record Ready (s hs ms : List ℕ) (d row i : ℕ) : Type 0 where
  pub room : Room s ms
  pub index : Index hs ms
  pub fresh : Fresh ms row
  pub rowed : 2 * row + d ≤ i + 33
  pub inside : i ≤ length s

-- the numbers of a list's mark fit, and there is a place for it among w
abbrev pub ListFits : (o i e children rows row w : ℕ) → Type 0
ListFits o i e children rows row w = (i < e) × (e ≤ 65536) × (2 * children + o < 65536) × (rows < 65536) × (row < w)

-- a member at a place of the object at row o, behind some others
pub record MemberReady (s hs ms : List ℕ) (d o row i : ℕ) : Type 0 where
  pub ready : Ready s hs ms d row i
  pub before : Members
  pub kept : Kept s o ms (o + 1) before
  pub behind : row ≡ o + 1 + sizes_members before

-- ---- what it answers

-- what stands at j, behind an item of a list that the byte `closing` ends and the space after it
abbrev pub Follows : ℕ → List ℕ → ℕ → Following → Type 0
Follows closing s j (Closing e) = (byte_at s j ≡ closing) × (e ≡ j + 1)
Follows closing s j (Item i) = (byte_at s j ≡ 0x2C) × (i ≡ skip s (j + 1))
Follows closing s j (Other i) = (i ≡ j) × (byte_at s j ≡ 0x2C → ⊥) × (byte_at s j ≡ closing → ⊥)

-- the mark is no name's
abbrev pub LeafAfter : Parse Node → ℕ → List ℕ → List ℕ → Type 0
LeafAfter (refused c p) row ms ms₂ = ms₂ ≡ ms
LeafAfter (parsed n e) row ms ms₂ = (x : ℕ) × (ms₂ ≡ set ms row x) × (mark_entry x ∷ [] ≡ entries n) × (is_name x ≡ false)

pub record LeafTold (o : Parse Node) (r : Reading Scanned) (row : ℕ) (ms ms₂ : List ℕ) : Type 0 where
  pub scan : r ≡ scan_of o
  pub after : LeafAfter o row ms ms₂

-- the value's rows stand from `row` on, with names of its own objects; below them all is as it was
pub record Marked (s : List ℕ) (n : Node) (row : ℕ) (ms hs₂ ms₂ : List ℕ) : Type 0 where
  pub index : Index hs₂ ms₂
  pub fresh : Fresh ms₂ (row + size n)
  pub below : take row ms₂ ≡ take row ms
  pub rows : mark_entries (slice row (row + size n) ms₂) ≡ entries n
  pub owned : Within s ms₂ row row (row + size n)

-- nothing is said behind a refusal
abbrev pub After : List ℕ → Parse Node → ℕ → (ms hs₂ ms₂ : List ℕ) → Type 0
After s (refused c p) row ms hs₂ ms₂ = Unit
After s (parsed n e) row ms hs₂ ms₂ = Marked s n row ms hs₂ ms₂

pub record Told (s : List ℕ) (o : Parse Node) (r : Reading Scanned) (row : ℕ) (ms hs₂ ms₂ : List ℕ) : Type 0 where
  pub scan : r ≡ scan_of o
  pub after : After s o row ms hs₂ ms₂

-- the member's rows stand from `row` on, k of them
pub record MemberMarked (s : List ℕ) (before all : Members) (k o row : ℕ) (ms hs₂ ms₂ : List ℕ) : Type 0 where
  pub adds : sizes_members all ≡ sizes_members before + k
  pub index : Index hs₂ ms₂
  pub fresh : Fresh ms₂ (row + k)
  pub below : take row ms₂ ≡ take row ms
  pub rows : entries_members all ≡ entries_members before ++ mark_entries (slice row (row + k) ms₂)
  pub kept : Kept s o ms₂ (o + 1) all

abbrev pub MemberScan : List ℕ → Members → Parse Members → Reading Scanned → (o row : ℕ) → (ms hs₂ ms₂ : List ℕ) → Type 0
MemberScan s before (refused c p) r o row ms hs₂ ms₂ = r ≡ Err (refusal c p)
MemberScan s before (parsed all e) r o row ms hs₂ ms₂ = (k : ℕ) × (r ≡ Ok (scanned e k)) × MemberMarked s before all k o row ms hs₂ ms₂

pub record MemberTold (s : List ℕ) (d : ℕ) (r : Reading Scanned) (o row i : ℕ) (ms hs₂ ms₂ : List ℕ) : Type 0 where
  pub tells : (before : Members) → Kept s o ms (o + 1) before → row ≡ o + 1 + sizes_members before
      → MemberScan s before (member_at (value_at d s) s before i) r o row ms hs₂ ms₂
