-- The JSON Pointer of each value of a text (RFC 6901), and what a lent buffer gets of one.
use Rattle.std.specs.Prelude.{ℕ, zero, suc, ◌+◌, ◌/◌, ◌%◌, cond, List, [], ◌∷◌, ◌++◌, ltb, eqb}
use Rattle.grammar.specs.Utf8.{utf8}
use Rattle.tokens.specs.Parse.{Parse, refused, parsed}
use Rattle.syntax.specs.Tree.{Node, scalar, array, object, Nodes, none, more, Members, no_member, member}
use Rattle.syntax.specs.Rows.{size}
use Rattle.syntax.specs.Grammar.{name_of}
use Rattle.schema.specs.Checking.{read_document}
use Rattle.schema.specs.Paths.{check_path}

-- ---- reference tokens

-- section 3, escaped = "~" ( "0" / "1" ), for `~` and `/`; any other character is unescaped, in UTF-8
unfoldable pub token_char : ℕ → List ℕ
token_char c = cond (eqb c 0x7E) (0x7E ∷ 0x30 ∷ []) (cond (eqb c 0x2F) (0x7E ∷ 0x31 ∷ []) (utf8 c))

-- section 3, reference-token = *( unescaped / escaped )
abbrev pub token_chars : List ℕ → List ℕ
token_chars [] = []
token_chars (c ∷ cs) = token_char c ++ token_chars cs

-- the digits of n; k is at least n, so that without any n is 0
unfoldable pub digits : ℕ → ℕ → List ℕ
digits zero n = (0x30 + n) ∷ []
digits (suc k) n = cond (ltb n 10) ((0x30 + n) ∷ []) (digits k (n / 10) ++ ((0x30 + n % 10) ∷ []))

-- section 4, array-index = %x30 / ( %x31-39 *(%x30-39) )
abbrev pub decimal : ℕ → List ℕ
decimal n = digits n n

-- section 3, json-pointer = *( "/" reference-token ): one turn of it, for a member by its name, and for an element by its index, from 0
abbrev pub name_token : List ℕ → List ℕ
name_token name = 0x2F ∷ token_chars name

abbrev pub index_token : ℕ → List ℕ
index_token i = 0x2F ∷ decimal i

-- ---- the values of a text

-- a value: its row, and the bytes of its pointer
pub record Pointer : Type 0 where
  pub row : ℕ
  pub bytes : List ℕ

abbrev pub pointer : ℕ → List ℕ → Pointer
pointer row bytes = record { row = row; bytes = bytes }

-- section 4, from the whole document on, token by token: each value of the one at row r, whose pointer is `before`
abbrev mutual
  pub pointers : List ℕ → List ℕ → ℕ → Node → List Pointer
  pointers s before r (scalar k f e) = pointer r before ∷ []
  pointers s before r (array f e ns) = pointer r before ∷ pointers_all s before 0 (r + 1) ns
  pointers s before r (object f e ms) = pointer r before ∷ pointers_members s before (r + 1) ms

  -- elements, of which the first has the index i
  pub pointers_all : List ℕ → List ℕ → ℕ → ℕ → Nodes → List Pointer
  pointers_all s before i r none = []
  pointers_all s before i r (more n ns) = pointers s (before ++ index_token i) r n ++ pointers_all s before (i + 1) (r + size n) ns

  -- a name's row stands before its value's
  pub pointers_members : List ℕ → List ℕ → ℕ → Members → List Pointer
  pointers_members s before r no_member = []
  pointers_members s before r (member f e n ms) = pointers s (before ++ name_token (name_of s f e)) (r + 1) n ++ pointers_members s before (r + 1 + size n) ms

-- ---- a lent buffer

-- what fits of the bytes, from byte 0 on, and the rest of the buffer as found
abbrev pub fitted : List ℕ → List ℕ → List ℕ
fitted [] out = out
fitted (b ∷ bs) [] = []
fitted (b ∷ bs) (o ∷ os) = b ∷ fitted bs os

-- ---- the pointer to Check's mismatch

-- of the value at row r
abbrev pub pointer_at : ℕ → List Pointer → List ℕ
pointer_at r [] = []
pointer_at r (p ∷ ps) = cond (eqb p.row r) p.bytes (pointer_at r ps)

-- of the value to which a path leads: its first row
abbrev pub pointer_to : List ℕ → List ℕ → Parse Node → List ℕ
pointer_to s [] o = []
pointer_to s (row ∷ around) (refused c p) = []
pointer_to s (row ∷ around) (parsed n e) = pointer_at row (pointers s [] 0 n)

-- 02, L11: "To print the path to a misfit"
unfoldable pub check_pointer : ℕ → ℕ → List ℕ → List ℕ → List ℕ
check_pointer w₁ w₂ document schema = pointer_to document (check_path w₁ w₂ document schema) (read_document document)
