-- The dates of a document (02, L3): "how many values were judged as DateTime, and their earliest and latest".
use Rattle.std.specs.Prelude.{ℕ, ◌≡◌, cond, ◌⊎◌, List, [], ◌∷◌, ◌++◌, ℤ, pos, length, get_or, ◌≤ℤ◌}
use Rattle.std.specs.Int.Signed.{lt_z}
use Rattle.model.specs.Definition.{Named, JSON, Schema, Float, Integer, String, Boolean, DateTime}
use Rattle.model.specs.Date.{moment}
use Rattle.syntax.specs.Tree.{Node, scalar, array, object}
use Rattle.syntax.specs.Grammar.{name_of}
use Rattle.definitions.specs.Definitions.{named-at, array_at, map_at, object-at}
use Rattle.schema.specs.Judging.{is_string, Visit, value-by, missing_name}

-- ---- the moments, in the order of judging

-- of a string; a value of another kind is no date
abbrev pub string_moment : List ℕ → Node → List ℤ
string_moment s (scalar k f e) = cond (is_string k) (moment (name_of s f e) ∷ []) []
string_moment s (array f e ns) = []
string_moment s (object f e ms) = []

-- of a value by a type name
abbrev pub named_moment : List ℕ → Named → Node → List ℤ
named_moment s JSON n = []
named_moment s Schema n = []
named_moment s Float n = []
named_moment s Integer n = []
named_moment s String n = []
named_moment s Boolean n = []
named_moment s DateTime n = string_moment s n

-- of what is judged
abbrev pub visit_moment : List ℕ → Visit → List ℤ
visit_moment s (value-by (named-at p t) n) = named_moment s t n
visit_moment s (value-by (array_at p d) n) = []
visit_moment s (value-by (map_at p d) n) = []
visit_moment s (value-by (object-at p r o) n) = []
visit_moment s (missing_name brace q) = []

-- of all that is judged
abbrev pub moments : List ℕ → List Visit → List ℤ
moments s [] = []
moments s (v ∷ vs) = visit_moment s v ++ moments s vs

-- ---- how many, the earliest and the latest

-- the earlier and the later of two
abbrev pub lesser : ℤ → ℤ → ℤ
lesser a b = cond (lt_z a b) a b

abbrev pub greater : ℤ → ℤ → ℤ
greater a b = cond (lt_z a b) b a

-- the least and the greatest of m and more
unfoldable pub least_of : ℤ → List ℤ → ℤ
least_of m [] = m
least_of m (k ∷ ks) = least_of (lesser k m) ks

unfoldable pub greatest_of : ℤ → List ℤ → ℤ
greatest_of m [] = m
greatest_of m (k ∷ ks) = greatest_of (greater m k) ks

-- "all three are 0 where there were none"
unfoldable pub earliest : List ℤ → ℤ
earliest [] = pos 0
earliest (m ∷ ms) = least_of m ms

unfoldable pub latest : List ℤ → ℤ
latest [] = pos 0
latest (m ∷ ms) = greatest_of m ms

-- the three numbers
abbrev pub dates_of : List ℤ → List ℤ
dates_of ms = pos (length ms) ∷ earliest ms ∷ latest ms ∷ []

-- ---- what holds of the three numbers

-- m is one of the moments
abbrev pub Listed : ℤ → List ℤ → Type 0
Listed m [] = ⊥
Listed m (k ∷ ks) = (m ≡ k) ⊎ Listed m ks

-- ds are how many moments there are, the earliest and the latest: each of these is one of them, and none is before or behind
pub record Spans (ms ds : List ℤ) : Type 0 where
  pub count : get_or ds 0 (pos 0) ≡ pos (length ms)
  pub none : ms ≡ [] → ds ≡ pos 0 ∷ pos 0 ∷ pos 0 ∷ []
  pub first : (ms ≡ [] → ⊥) → Listed (get_or ds 1 (pos 0)) ms
  pub before_none : (m : ℤ) → Listed m ms → get_or ds 1 (pos 0) ≤ℤ m
  pub last : (ms ≡ [] → ⊥) → Listed (get_or ds 2 (pos 0)) ms
  pub behind_none : (m : ℤ) → Listed m ms → m ≤ℤ get_or ds 2 (pos 0)
