-- For private contracts: the hash of a name's characters, and the order in which an index of names by hash leads through them.
use Rattle.std.specs.Prelude.{ℕ, zero, suc, ◌+◌, ◌-◌, ◌*◌, ◌/◌, ◌%◌, Bool, cond, List, [], ◌∷◌, Ok, Err}
use Rattle.chars.specs.declared.hashing.Hashed.{Hashed}
use Rattle.chars.specs.Refusals.{Reading}
use Rattle.chars.specs.Strings.{string_at, characters, part}

-- behind one character more
abbrev pub mix : ℕ → ℕ → ℕ
mix h c = (h * 257 + c) % 4294967296

-- 16 bits from the middle of a product, so that the low bits count in them too
abbrev pub finish : ℕ → ℕ
finish h = h * 2654435769 / 65536 % 65536

abbrev pub hash_from : ℕ → List ℕ → ℕ
hash_from h [] = finish h
hash_from h (c ∷ cs) = hash_from (mix h c) cs

-- the same for every spelling of the same characters
abbrev pub hash_of : List ℕ → ℕ
hash_of cs = hash_from 0 cs

abbrev pub hashed : ℕ → ℕ → Hashed
hashed end hash = record { end = end; hash = hash }

abbrev pub hashed_by : List ℕ → ℕ → Reading ℕ → Reading Hashed
hashed_by s i (Ok e) = Ok (hashed e (hash_of (characters (part s i (e - 1)))))
hashed_by s i (Err r) = Err r

-- the name whose characters begin at i
unfoldable pub hashed_at : List ℕ → ℕ → Reading Hashed
hashed_at s i = hashed_by s i (string_at s i)

-- ---- an index leads from the last name of a bucket to the one before it

-- the last number below n that passes the test; 0 for none
unfoldable pub last_passing : (ℕ → Bool) → ℕ → ℕ
last_passing p zero = 0
last_passing p (suc n) = let r = last_passing p n in cond (p n) n r
