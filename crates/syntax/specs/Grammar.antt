-- The grammar of a text, with places (01, "Text"; RFC 8259, sections 2 to 5): what stands at a place, read from left to right.
use Rattle.std.specs.Prelude.{ℕ, zero, suc, ◌+◌, ◌-◌, List, Bool, false, cond, ◌||◌, length, ltb, eqb}
use Rattle.model.specs.Text.{same}
use Rattle.chars.specs.Bytes.{byte_at}
use Rattle.tokens.specs.Parse.{Parse, refused, parsed, then, unexpected}
use Rattle.tokens.specs.Space.{skip}
use Rattle.chars.specs.Strings.{string_at, characters, part}
use Rattle.tokens.specs.declared.tokens.Kind.{Kind}
use Rattle.tokens.specs.Scalars.{first_of, quoted, scalar_at}
use Rattle.tokens.specs.declared.scalars.First.{First}
use Rattle.tokens.specs.declared.scalars.First.TheVariants.{Array, Object, Quote, Number, LetterN, LetterF, LetterT, Other}
use Rattle.syntax.specs.Tree.{Node, scalar, array, object, Nodes, none, add_node, Members, no_member, member, add_member}
use Rattle.chars.specs.declared.refusals.Code.TheVariants.{TooLong, Ended, NotAllowed, NameTwice, TooDeep}

-- ---- elements and members: one or more, with commas between, up to a closing byte

-- behind what was read so far and the space after it: a comma and the rest, or the closing byte
unfoldable pub after_item : {L : Type 0} → ℕ → (ℕ → Parse L) → List ℕ → L → ℕ → Parse L
after_item closing rest s all j =
    let r = rest j in
    cond (eqb (byte_at s j) 0x2C) r (cond (eqb (byte_at s j) closing) (parsed all (j + 1)) (unexpected s j))

-- from i on, behind those before; item reads one more. k is at least the bytes left, so that without any the text has ended
unfoldable pub items_from : {L : Type 0} → ℕ → ℕ → (L → ℕ → Parse L) → List ℕ → L → ℕ → Parse L
items_from zero closing item s before i = refused Ended (length s)
items_from (suc k) closing item s before i =
    then (item before i) (λ all e. after_item closing (λ j. items_from k closing item s all (skip s (j + 1))) s all (skip s e))

unfoldable pub items_at : {L : Type 0} → ℕ → (L → ℕ → Parse L) → List ℕ → L → ℕ → Parse L
items_at closing item s before i = items_from (length s - i) closing item s before i

-- what the opening byte at i begins: nothing but space, or items
unfoldable pub list_at : {L : Type 0} → ℕ → (L → ℕ → Parse L) → List ℕ → L → ℕ → Parse L
list_at closing item s empty i =
    let j = skip s (i + 1) in
    let r = items_at closing item s empty j in
    cond (eqb (byte_at s j) closing) (parsed empty (j + 1)) r

-- ---- arrays; value reads a value at a place

-- one more element
abbrev pub element_at : (ℕ → Parse Node) → Nodes → ℕ → Parse Nodes
element_at value before i = then (value i) (λ n e. parsed (add_node before n) e)

abbrev pub array_at : (ℕ → Parse Node) → List ℕ → ℕ → Parse Node
array_at value s i = then (list_at 0x5D (element_at value) s none i) (λ ns e. parsed (array i e ns) e)

-- ---- objects

-- the characters of the name from its opening quote at f up to e
abbrev pub name_of : List ℕ → ℕ → ℕ → List ℕ
name_of s f e = characters (part s (f + 1) (e - 1))

-- "Two names are the same when their characters after unescaping are."
unfoldable pub repeated : List ℕ → Members → List ℕ → Bool
repeated s no_member n = false
repeated s (member f e v ms) n = same (name_of s f e) n || repeated s ms n

-- a name at i that none before has; code 6 at its closing quote where one has
unfoldable pub name_at : List ℕ → Members → ℕ → Parse Kind
name_at s before i =
    let r = then (quoted (string_at s (i + 1))) (λ k e. cond (repeated s before (name_of s i e)) (refused NameTwice (e - 1)) (parsed k e)) in
    cond (eqb (byte_at s i) 0x22) r (unexpected s i)

-- behind the name from i up to e: a colon and a value
unfoldable pub after_name : (ℕ → Parse Node) → List ℕ → Members → ℕ → ℕ → Parse Members
after_name value s before i e =
    let j = skip s e in
    let r = then (value (skip s (j + 1))) (λ n p. parsed (add_member before i e n) p) in
    cond (eqb (byte_at s j) 0x3A) r (unexpected s j)

-- one more member
abbrev pub member_at : (ℕ → Parse Node) → List ℕ → Members → ℕ → Parse Members
member_at value s before i = then (name_at s before i) (λ k e. after_name value s before i e)

abbrev pub object_at : (ℕ → Parse Node) → List ℕ → ℕ → Parse Node
object_at value s i = then (list_at 0x7D (member_at value s) s no_member i) (λ ms e. parsed (object i e ms) e)

-- ---- values

abbrev pub leaf_at : List ℕ → ℕ → Parse Node
leaf_at s i = then (scalar_at s i) (λ k e. parsed (scalar k i e) e)

-- the value at i, by what its first byte begins
abbrev pub value_by : First → (ℕ → Parse Node) → (ℕ → Parse Node) → List ℕ → ℕ → Parse Node
value_by Array opensArray opensObject s i = opensArray i
value_by Object opensArray opensObject s i = opensObject i
value_by Quote opensArray opensObject s i = leaf_at s i
value_by Number opensArray opensObject s i = leaf_at s i
value_by LetterN opensArray opensObject s i = leaf_at s i
value_by LetterF opensArray opensObject s i = leaf_at s i
value_by LetterT opensArray opensObject s i = leaf_at s i
value_by Other opensArray opensObject s i = leaf_at s i

-- the value at i, with d more brackets allowed to open; code 7 at one too many
unfoldable pub value_at : ℕ → List ℕ → ℕ → Parse Node
value_at zero s i = value_by (first_of (byte_at s i)) (λ j. refused TooDeep j) (λ j. refused TooDeep j) s i
value_at (suc d) s i = value_by (first_of (byte_at s i)) (λ j. array_at (value_at d s) s j) (λ j. object_at (value_at d s) s j) s i

-- ---- texts

-- nothing but space stands behind the value
unfoldable pub alone : List ℕ → Node → ℕ → Parse Node
alone s n e = let j = skip s e in cond (ltb j (length s)) (refused NotAllowed j) (parsed n j)

-- space, a value and space
abbrev pub whole_at : ℕ → List ℕ → Parse Node
whole_at depth s = then (value_at depth s (skip s 0)) (λ n e. alone s n e)

-- a text of at most `bytes` bytes with at most `depth` brackets open at once; code 1 for a longer one
unfoldable pub read_text : ℕ → ℕ → List ℕ → Parse Node
read_text bytes depth s = let r = whole_at depth s in cond (ltb bytes (length s)) (refused TooLong bytes) r
