-- For the theorem of Compare, and the document of its sister (02, L1): a value that meets the new definition and fails the old one,
-- where the new is not carried to the old. That it does is proofs/Complete.antt.
-- Its size: each required field of the new definition gives at most one member, and each Object or Map on the way to what fails one more.
-- That one's name is from the old definition, or is of few letters: at most 13 where the new definition has fewer than 4,096 names.
-- So it takes at most three times the bytes of the new schema and once those of the old one, and one bracket more than the new schema:
-- counterexample/proofs/Shown.antt.
use Rattle.std.specs.Prelude.{ℕ, zero, suc, Bool, true, false, not, cond, ◌&&◌, List, [], ◌∷◌, ◌++◌, leb, eqb, length}
use Rattle.model.specs.Text.{text, same}
use Rattle.model.specs.Value.{Value, null, boolean, number, string, array, object, vnil, vcons, Members, mnil, mcons}
use Rattle.model.specs.Definition.{Named, JSON, Schema, Float, Integer, String, Boolean, DateTime, Def, named, array_of, map_of}
use Rattle.model.specs.Definition.{object-of, Fields, fnil, fcons}
use Rattle.model.specs.Subtype.{of_objects, other, under, requires, subtype}

-- a value of each named type that is neither array nor object
abbrev pub plain_value : Named → Value
plain_value JSON = null
plain_value Schema = string (text "JSON")
plain_value Float = number (text "0.5")
plain_value Integer = number (text "0")
plain_value String = string []
plain_value Boolean = boolean true
plain_value DateTime = string (text "2000-01-01T00:00:00Z")

-- a value of each named type that meets only the named types that take all of it
abbrev pub apart : Named → Value
apart JSON = plain_value JSON
apart Schema = object (mcons (text "Array") (string (text "JSON")) mnil)
apart Float = plain_value Float
apart Integer = plain_value Integer
apart String = plain_value String
apart Boolean = plain_value Boolean
apart DateTime = plain_value DateTime

-- a value of every definition: an object has the required members alone, of which `kept p` has those whose names pass p
abbrev mutual
  pub sample : Def → Value
  sample (named t) = plain_value t
  sample (array_of d) = array vnil
  sample (map_of d) = object mnil
  sample (object-of r o) = object (kept (λ m. true) r)

  pub kept : (List ℕ → Bool) → Fields → Members
  kept p fnil = mnil
  kept p (fcons m d fs) = cond (p m) (mcons m (sample d) (kept p fs)) (kept p fs)

-- ---- a name that is none of some names: letter by letter, each time the one of 'a' and 'b' with which fewer of the names go on, until none does

-- what follows the letter c in the name n, if n begins with it, before the others
abbrev pub following : ℕ → List ℕ → List (List ℕ) → List (List ℕ)
following c [] ns = ns
following c (x ∷ n) ns = cond (eqb x c) (n ∷ ns) ns

-- what follows the letter c in the names that begin with it
abbrev pub behind : ℕ → List (List ℕ) → List (List ℕ)
behind c [] = []
behind c (n ∷ ns) = following c n (behind c ns)

-- the letter with which fewer of the names begin
abbrev pub rarer : List (List ℕ) → ℕ
rarer ns = cond (leb (length (behind 0x61 ns)) (length (behind 0x62 ns))) 0x61 0x62

-- the letters; k is at least the number of names
abbrev pub avoiding : ℕ → List (List ℕ) → List ℕ
avoiding zero ns = []
avoiding (suc k) [] = []
avoiding (suc k) (n ∷ ns) = let c = rarer (n ∷ ns) in c ∷ avoiding k (behind c (n ∷ ns))

-- in their order
abbrev pub names : Fields → List (List ℕ)
names fnil = []
names (fcons n d fs) = n ∷ names fs

-- the definition's own names
abbrev pub own_names : Def → List (List ℕ)
own_names (named t) = []
own_names (array_of d) = []
own_names (map_of d) = []
own_names (object-of r o) = names r ++ names o

-- an 'a' and letters that the definition's names do not go on with: none of its names
abbrev pub fresh : Def → List ℕ
fresh a = 0x61 ∷ avoiding (length (own_names a)) (behind 0x61 (own_names a))

-- for private contracts: whether the name n begins with p, and how many of the names do
abbrev pub begins : List ℕ → List ℕ → Bool
begins [] n = true
begins (c ∷ p) [] = false
begins (c ∷ p) (x ∷ n) = eqb x c && begins p n

abbrev pub counted : List ℕ → List (List ℕ) → ℕ
counted p [] = 0
counted p (n ∷ ns) = cond (begins p n) (suc (counted p ns)) (counted p ns)

-- ---- objects

-- the required members but the one of the name n
abbrev pub others : Def → List ℕ → Members
others (named t) n = mnil
others (array_of d) n = mnil
others (map_of d) n = mnil
others (object-of r o) n = kept (λ m. not (same n m)) r

-- w under the name n, and the other required members
abbrev pub with_member : Def → List ℕ → Value → Value
with_member a n w = object (mcons n w (others a n))

-- a value of every definition that meets only the named types that take all of it
abbrev pub beyond_named : Def → Value
beyond_named (named s) = apart s
beyond_named (array_of d) = array vnil
beyond_named (map_of d) = object mnil
beyond_named (object-of r o) = with_member (object-of r o) (fresh (object-of r o)) null

-- where the new definition, the first, is not carried to the old one: a value that meets the new and fails the old
abbrev mutual
  pub witness : Def → Def → Value
  witness a (named t) = beyond_named a
  witness a (array_of q) =
      elim a [
        | named s ↦ plain_value s
        | array_of p ↦ array (vcons (witness p q) vnil)
        | map_of p ↦ object mnil
        | object-of r o ↦ sample (object-of r o)
      ]
  witness a (map_of q) = cond (of_objects a) (with_member a (fresh a) (witness (other a) q)) (sample a)
  witness a (object-of r o) = cond (of_objects a) (witness_fields true a r (witness_fields false a o (sample a))) (sample a)

  -- the first of the old definition's fields that fails gives the member; v where none does
  -- `required`: a name that the new definition does not ask for is missing in its sample
  pub witness_fields : Bool → Def → Fields → Value → Value
  witness_fields required a fnil v = v
  witness_fields required a (fcons n q fs) v =
      cond (required && not (requires a n)) (sample a) (cond (subtype (under a n) q) (witness_fields required a fs v) (with_member a n (witness (under a n) q)))
