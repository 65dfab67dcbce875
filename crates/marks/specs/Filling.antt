-- For private contracts: the rows that marks stand for, each with the row that it stands in, as the second pass finds it.
use Rattle.std.specs.Prelude.{ℕ, zero, suc, ◌+◌, ◌≤◌, ◌<◌, ◌≡◌, cond, List, [], ◌∷◌, ◌++◌, length, get_or, take, ltb, eqb}
use Rattle.syntax.specs.Rows.{entry, lay_out}
use Rattle.syntax.specs.Rows as rows
use Rattle.marks.specs.declared.filling.Entry.{Entry}
use Rattle.marks.specs.Marks.{mark_entry, mark_entries}

-- what the code has of a row, as an entry
abbrev pub entry_of : Entry → rows.Entry
entry_of x = entry x.kind x.first x.end x.children x.rows

-- of the rows below k, the last whose subtree holds row i, by how many rows each subtree has; 0 where there is none
abbrev pub last_open : (ℕ → ℕ) → ℕ → ℕ → ℕ
last_open rows i zero = 0
last_open rows i (suc k) = cond (ltb i (k + rows k)) k (last_open rows i k)

-- what the first k rows stand in
abbrev pub parents_to : (ℕ → ℕ) → ℕ → List ℕ
parents_to rows zero = []
parents_to rows (suc k) = parents_to rows k ++ (last_open rows k k ∷ [])

-- how many rows the subtree has at a row of the marks
abbrev pub mark_size : List ℕ → ℕ → ℕ
mark_size ms k = (mark_entry (get_or ms k 0)).rows

-- the words of the first k marks' rows
abbrev pub mark_words : List ℕ → ℕ → List ℕ
mark_words ms k = lay_out (mark_entries (take k ms)) (parents_to (mark_size ms) k)

-- where to go on behind a row that ends at `last`, in row `parent`, which ends at `end`: there, or where that is gone on from
abbrev pub onward : List ℕ → ℕ → ℕ → ℕ → ℕ
onward ms last parent end = cond (eqb last end) (get_or ms parent 0) parent

-- the first k marks are those of a tree: the top has all rows, and the subtree of each ends in that of the row that it stands in
pub record FillReady (ms : List ℕ) (k : ℕ) : Type 0 where
  pub few : k ≤ length ms
  pub small : k ≤ 65536
  pub top : 0 < k → mark_size ms 0 ≡ k
  pub within : (j : ℕ) → j < k → j + mark_size ms j ≤ k
  pub nests : (j : ℕ) → j < k → j + mark_size ms j ≤ last_open (mark_size ms) j j + mark_size ms (last_open (mark_size ms) j j)
