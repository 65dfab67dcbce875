-- For private contracts: the names among the marks, by which the first pass finds a repeated one, and their index by hash.
use Rattle.std.specs.Prelude.{ℕ, ◌+◌, ◌*◌, ◌/◌, ◌%◌, ◌≤◌, ◌<◌, ◌≡◌, Bool, true, false, ◌&&◌, List, length, get_or, eqb}
use Rattle.model.specs.Text.{same}
use Rattle.tokens.specs.Parse.{Parse, reading_of}
use Rattle.tokens.specs.declared.tokens.Kind.{Kind}
use Rattle.chars.specs.declared.hashing.Hashed.{Hashed}
use Rattle.chars.specs.Refusals.{Reading}
use Rattle.chars.specs.Hashing.{hash_of, hashed, last_passing}
use Rattle.syntax.specs.Tree.{Members, no_member, member}
use Rattle.syntax.specs.Rows.{size, sizes_members}
use Rattle.syntax.specs.Grammar.{name_of, name_at}
use Rattle.marks.specs.Packing.{first_in, second_in, third_in, fourth_in}
use Rattle.marks.specs.Marks.{is_name}

-- ---- the mark of a name

abbrev pub name_first : ℕ → ℕ
name_first x = second_in x

-- the byte after its last
abbrev pub name_end : ℕ → ℕ
name_end x = first_in x + 1

-- the row of the name before it with the same bucket; 0 for none
abbrev pub link_in : ℕ → ℕ
link_in x = third_in x

abbrev pub hash_in : ℕ → ℕ
hash_in x = fourth_in x

-- its characters in the text s
abbrev pub name_in : List ℕ → ℕ → List ℕ
name_in s x = name_of s (name_first x) (name_end x)

-- the hash of the name n in the object at row o: no other object has it for the same name
abbrev pub own_hash : ℕ → List ℕ → ℕ
own_hash o n = (hash_of n + o) % 65536

-- the mark x is that of a name of the object at row o, with both its quotes in the text s
pub record Owned (s : List ℕ) (o x : ℕ) : Type 0 where
  pub named : is_name x ≡ true
  pub quoted : name_first x + 2 ≤ name_end x
  pub within : name_end x ≤ length s
  pub hashed : hash_in x ≡ own_hash o (name_in s x)

-- ---- where names stand among the marks ms

-- none from row r on
pub record Fresh (ms : List ℕ) (r : ℕ) : Type 0 where
  pub none : (j : ℕ) → r ≤ j → is_name (get_or ms j 0) ≡ false

-- those above row o have both their quotes in the text s
pub record Quoted (s ms : List ℕ) (o : ℕ) : Type 0 where
  pub each : (j : ℕ) → o < j → is_name (get_or ms j 0) ≡ true → (name_first (get_or ms j 0) + 2 ≤ name_end (get_or ms j 0)) × (name_end (get_or ms j 0) ≤ length s)

-- those from row f up to t are names of objects at row o or above
pub record Within (s ms : List ℕ) (o f t : ℕ) : Type 0 where
  pub each : (j : ℕ) → f ≤ j → j < t → is_name (get_or ms j 0) ≡ true → (p : ℕ) × (o ≤ p) × (p < 65536) × Owned s p (get_or ms j 0)

-- from row r on stand the members of the object at row o: of each its name, and its value, which has names of objects in it alone
abbrev pub Kept : List ℕ → ℕ → List ℕ → ℕ → Members → Type 0
Kept s o ms r no_member = Unit
Kept s o ms r (member f e n rest) =
    Owned s o (get_or ms r 0) × (name_first (get_or ms r 0) ≡ f) × (name_end (get_or ms r 0) ≡ e)
    × Within s ms (r + 1) (r + 1) (r + 1 + size n) × Kept s o ms (r + 1 + size n) rest

-- ---- the index: for each bucket its last name, from which the links lead to the others

-- the bucket of a hash, of k
abbrev pub bucket_of : ℕ → ℕ → ℕ
bucket_of k hash = hash * k / 65536

-- the mark x is that of a name in the bucket b of k
abbrev pub in_bucket : ℕ → ℕ → ℕ → Bool
in_bucket k b x = is_name x && eqb (bucket_of k (hash_in x)) b

-- row j has such a mark
abbrev pub row_in : ℕ → List ℕ → ℕ → ℕ → Bool
row_in k ms b j = in_bucket k b (get_or ms j 0)

-- hs has the row of each bucket's last name, and each name that of the last one before it; row 0 is no name's, and stands for none
pub record Index (hs ms : List ℕ) : Type 0 where
  pub some : 0 < length hs
  pub few : length hs ≤ 65536
  pub short : length ms ≤ 65536
  pub heads : (b : ℕ) → b < length hs → get_or hs b 0 ≡ last_passing (row_in (length hs) ms b) (length ms)
  pub links : (j : ℕ) → j < length ms → is_name (get_or ms j 0) ≡ true
      → link_in (get_or ms j 0) ≡ last_passing (row_in (length hs) ms (bucket_of (length hs) (hash_in (get_or ms j 0)))) j

-- ---- the search for a name

-- r says whether a name above row o has the hash h and the characters n
pub record Seen (s ms : List ℕ) (o h : ℕ) (n : List ℕ) (r : Bool) : Type 0 where
  pub found : r ≡ true → (j : ℕ) × (o < j) × (is_name (get_or ms j 0) ≡ true) × (hash_in (get_or ms j 0) ≡ h) × (same (name_in s (get_or ms j 0)) n ≡ true)
  pub missed : r ≡ false → (j : ℕ) → o < j → is_name (get_or ms j 0) ≡ true → hash_in (get_or ms j 0) ≡ h → same (name_in s (get_or ms j 0)) n ≡ false

-- the next name of the object at row o is looked for behind its members
pub record NameReady (s hs ms : List ℕ) (o : ℕ) : Type 0 where
  pub index : Index hs ms
  pub small : o < 65536
  pub before : Members
  pub kept : Kept s o ms (o + 1) before
  pub fresh : Fresh ms (o + 1 + sizes_members before)

-- what is told of a name that was read
abbrev pub hashed_of : List ℕ → ℕ → ℕ → Parse Kind → Reading Hashed
hashed_of s o i r = reading_of (λ k e. hashed e (own_hash o (name_of s i e))) r

-- the name at a place, behind the members that the marks hold
pub record NameTold (s ms : List ℕ) (o i : ℕ) (r : Reading Hashed) : Type 0 where
  pub tells : (before : Members) → Kept s o ms (o + 1) before → Fresh ms (o + 1 + sizes_members before) → r ≡ hashed_of s o i (name_at s before i)
