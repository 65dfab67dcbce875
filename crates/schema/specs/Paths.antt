-- The path to a mismatch (02, L11).
use Rattle.std.specs.Prelude.{ℕ, ◌+◌, ◌<◌, Bool, cond, ◌&&◌, List, [], ◌∷◌, ◌++◌, length, drop, leb, ltb, eqb}
use Rattle.tokens.specs.Parse.{Parse, refused, parsed}
use Rattle.syntax.specs.Tree.{Node, scalar, array, object, Nodes, none, more, Members, no_member, member}
use Rattle.syntax.specs.Rows.{size}
use Rattle.syntax.specs.Holding.{word}
use Rattle.syntax.specs.Answer.{answer}
use Rattle.syntax.specs.declared.answers.Answer.{Answer}
use Rattle.schema.specs.Checking.{read_document, check_answer}

-- ---- the chain of values around a value

-- a value: its first byte, its row, and the rows of the values around it, from the inside out
pub record Path : Type 0 where
  pub place : ℕ
  pub row : ℕ
  pub around : List ℕ

abbrev pub path : ℕ → ℕ → List ℕ → Path
path place row around = record { place = place; row = row; around = around }

-- each value of the one at row r, around which stand those of the rows `around`
abbrev mutual
  pub paths : List ℕ → ℕ → Node → List Path
  paths around r (scalar k f e) = path f r around ∷ []
  paths around r (array f e ns) = path f r around ∷ paths_all (r ∷ around) (r + 1) ns
  paths around r (object f e ms) = path f r around ∷ paths_members (r ∷ around) (r + 1) ms

  pub paths_all : List ℕ → ℕ → Nodes → List Path
  paths_all around r none = []
  paths_all around r (more n ns) = paths around r n ++ paths_all around (r + size n) ns

  -- a name's row stands before its value's
  pub paths_members : List ℕ → ℕ → Members → List Path
  paths_members around r no_member = []
  paths_members around r (member f e n ms) = paths around (r + 1) n ++ paths_members around (r + 1 + size n) ms

-- "row numbers from the value at "place" up to 0, each by one step"
abbrev pub path_to : ℕ → List Path → List ℕ
path_to place [] = []
path_to place (p ∷ ps) = cond (eqb p.place place) (p.row ∷ p.around) (path_to place ps)

-- ---- Check

-- "On 20 to 22 Check also writes the path into a lent list"
abbrev pub is_mismatch : ℕ → Bool
is_mismatch code = leb 20 code && leb code 22

abbrev pub path_of : Answer → Parse Node → List ℕ
path_of a (refused c p) = []
path_of a (parsed n e) = cond (is_mismatch a.code) (path_to a.place (paths [] 0 n)) []

unfoldable pub check_path : ℕ → ℕ → List ℕ → List ℕ → List ℕ
check_path w₁ w₂ document schema = path_of (check_answer w₁ w₂ document schema) (read_document document)

-- "The rest of the list, and all of it on other codes, is as found."
abbrev pub list_after : List ℕ → List ℕ → List ℕ
list_after rows list = rows ++ drop (length rows) list

-- "A list under 33 words is 8 with text 0 and other 33, before everything"
abbrev pub path_words : ℕ
path_words = 33

abbrev pub short_answer : Answer
short_answer = answer 8 0 0 path_words

-- what there is with a list of w words: `short` where it is short, `long` where it is not
abbrev pub by_list : {A : Type 0} → ℕ → A → A → A
by_list w short long = cond (ltb w path_words) short long

-- ---- the same in the table

-- from row r up to 0, from each row to the one that its sixth word names: these rows
pub data Leads (t : List ℕ) : ℕ → List ℕ → Type 0 where
  top : Leads t 0 (0 ∷ [])
  up : {r : ℕ} {rows : List ℕ} → word t r 5 < r → Leads t (word t r 5) rows → Leads t r (r ∷ rows)
