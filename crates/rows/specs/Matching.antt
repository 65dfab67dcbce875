-- For private contracts: the names of an object by the hash of their characters, and what stands under each of them in another object.
use Rattle.std.specs.Prelude.{ℕ, zero, suc, ◌/◌, ◌≤◌, ◌<◌, ◌≡◌, Bool, false, cond, List, [], length, get_or, eqb, Option, Some, None}
use Rattle.model.specs.Text.{same}
use Rattle.tokens.specs.Spelling.{IsQuoted}
use Rattle.chars.specs.Hashing.{hash_of, last_passing}
use Rattle.syntax.specs.Tree.{Members, no_member, member}
use Rattle.syntax.specs.Rows.{count_members}
use Rattle.syntax.specs.Grammar.{name_of}
use Rattle.rows.specs.Records.{ObjectRow}
use Rattle.rows.specs.Finding.{Finds}
use Rattle.rows.specs.declared.matching.Entry.{Entry}
use Rattle.rows.specs.declared.matching.Index.{Index}

-- how many names an index has room for at most, and in how many buckets
abbrev pub most_names : ℕ
most_names = 2048

abbrev pub bucket_count : ℕ
bucket_count = 1024

-- ---- names, counted from 0

-- the name of the member at j
abbrev pub member_name : List ℕ → Members → ℕ → List ℕ
member_name s no_member j = []
member_name s (member f e n ms) zero = name_of s f e
member_name s (member f e n ms) (suc j) = member_name s ms j

-- what stands at a place where no name is
abbrev pub no_entry : Entry
no_entry = record { first = 0; end = 0; before = None }

-- the entry of the name at j, and the name
abbrev pub entry_at : List Entry → ℕ → Entry
entry_at es j = get_or es j no_entry

abbrev pub listed_name : List ℕ → List Entry → ℕ → List ℕ
listed_name s es j = name_of s (entry_at es j).first (entry_at es j).end

-- these are the names of the object at row r
pub record Lists (s t : List ℕ) (r : ℕ) (es : List Entry) : Type 0 where
  pub tells : (o : ObjectRow s t r) (j : ℕ) → j < count_members o.members → listed_name s es j ≡ member_name s o.members j

-- ---- their index: for each bucket its last name, from which the entries lead to the others

-- the bucket of a name
abbrev pub name_bucket : List ℕ → ℕ
name_bucket n = hash_of n / 64

abbrev pub bucket_in : List ℕ → List Entry → ℕ → ℕ
bucket_in s es j = name_bucket (listed_name s es j)

-- the bucket of the name whose first byte is f
pub record Buckets (s : List ℕ) (f b : ℕ) : Type 0 where
  pub small : b < bucket_count
  pub tells : (e : ℕ) → IsQuoted s f e → b ≡ name_bucket (name_of s f e)

-- how many names there are up to the one at a place; 0 for none
abbrev pub up_to : Option ℕ → ℕ
up_to None = 0
up_to (Some j) = suc j

-- of names in the buckets f, whether the last of the first k lies in the bucket b
abbrev pub bucket_has : (ℕ → ℕ) → ℕ → ℕ → Bool
bucket_has f b zero = false
bucket_has f b (suc j) = eqb (f j) b

-- how many there are up to the last of the first n that does; 0 for none
abbrev pub last_in : (ℕ → ℕ) → ℕ → ℕ → ℕ
last_in f b n = last_passing (bucket_has f b) (suc n)

-- of the first n names, in room for k; hs has the last name of each bucket, each entry the one before it
pub record Indexed (k : ℕ) (s : List ℕ) (hs : List (Option ℕ)) (es : List Entry) (n : ℕ) : Type 0 where
  pub few : n ≤ k
  pub heads : (b : ℕ) → b < bucket_count → up_to (get_or hs b None) ≡ last_in (bucket_in s es) b n
  pub links : (j : ℕ) → j < n → up_to (entry_at es j).before ≡ last_in (bucket_in s es) (bucket_in s es j) j
  pub quoted : (j : ℕ) → j < n → IsQuoted s (entry_at es j).first (entry_at es j).end

module _ {k : ℕ} where
  -- so of an index with n names
  abbrev pub IndexOf : Index k → ℕ → Type 0
  IndexOf x n = Indexed k x.tree.text.now x.heads x.names n

  pub record HasIndex (x : Index k) : Type 0 where
    pub count : ℕ
    pub index : IndexOf x count

  -- the names of the object at row r
  pub record Indexes (s t : List ℕ) (r : ℕ) (x : Index k) : Type 0 where
    pub text : x.tree.text.now ≡ s
    pub lists : Lists s t r x.names
    pub tells : (o : ObjectRow s t r) → IndexOf x (count_members o.members)

-- ---- what is found for them, where anything is

-- what was found before stays; else the value at row r, behind a member that has the name or not
abbrev pub filled : Bool → ℕ → Option ℕ → Option ℕ
filled same r None = cond same (Some r) None
filled same r (Some v) = Some v

abbrev pub found_at : List (Option ℕ) → ℕ → Option ℕ
found_at vs j = get_or vs j None

-- after a member with the name m, for each name of an index
pub record Fills {k : ℕ} (x : Index k) (m : List ℕ) (r : ℕ) (vs vs₂ : List (Option ℕ)) : Type 0 where
  pub long : length vs₂ ≡ length vs
  pub tells : {n : ℕ} → IndexOf x n → (j : ℕ) → j < n → found_at vs₂ j ≡ filled (same (listed_name x.tree.text.now x.names j) m) r (found_at vs j)

-- what was found for the name n stays; else it is looked up in the object at row r
pub record Adds (s t : List ℕ) (r : ℕ) (n : List ℕ) (v v₂ : Option ℕ) : Type 0 where
  pub fresh : v ≡ None → Finds s t r n v₂
  pub kept : {w : ℕ} → v ≡ Some w → v₂ ≡ v

-- what stands in the object at row r₁ under each name of that at row r₂
pub record Matches (s₁ t₁ : List ℕ) (r₁ : ℕ) (s₂ t₂ : List ℕ) (r₂ : ℕ) (vs vs₂ : List (Option ℕ)) : Type 0 where
  pub long : length vs₂ ≡ length vs
  pub tells : (o : ObjectRow s₂ t₂ r₂) (j : ℕ) → j < count_members o.members → Adds s₁ t₁ r₁ (member_name s₂ o.members j) (found_at vs j) (found_at vs₂ j)
