-- For private contracts: the entries of a text as the first pass keeps them, a word for each, until the table may be written.
use Rattle.std.specs.Prelude.{ℕ, ◌+◌, ◌-◌, ◌*◌, ◌/◌, ◌%◌, Bool, cond, List, [], ◌∷◌, eqb, ltb}
use Rattle.marks.specs.declared.marks.Branch.{Branch}
use Rattle.marks.specs.declared.marks.Branch.TheVariants.{Array, Object}
use Rattle.syntax.specs.Rows.{Entry, entry}
use Rattle.marks.specs.Packing.{packed, first_in, second_in, third_in, fourth_in}

-- a value that holds no other: its first byte, its last, 0 and its kind
abbrev pub leaf_mark : ℕ → ℕ → ℕ → ℕ
leaf_mark k f e = packed f (e - 1) 0 k

-- an array is 0 in a mark, and an object 1
abbrev pub branch_number : Branch → ℕ
branch_number Array = 0
branch_number Object = 1

-- an array or an object (o is its number): its first byte, its last, its rows, and its children in front of o
abbrev pub list_mark : ℕ → ℕ → ℕ → ℕ → ℕ → ℕ
list_mark o f e children rows = packed f (e - 1) rows (2 * children + o)

-- a name: its last byte, its first, its link and its hash
abbrev pub name_mark : ℕ → ℕ → ℕ → ℕ → ℕ
name_mark f e link hash = packed (e - 1) f link hash

-- a name has two quotes, so the greater of two places comes first in its mark alone
unfoldable pub is_name : ℕ → Bool
is_name x = ltb (second_in x) (first_in x)

-- the entry that a mark stands for
unfoldable pub mark_entry : ℕ → Entry
mark_entry x =
    cond (is_name x) (entry 9 (second_in x) (first_in x + 1) 0 1)
    (cond (eqb (third_in x) 0) (entry (fourth_in x) (first_in x) (second_in x + 1) 0 1)
    (entry (7 + fourth_in x % 2) (first_in x) (second_in x + 1) (fourth_in x / 2) (third_in x)))

unfoldable pub mark_entries : List ℕ → List Entry
mark_entries [] = []
mark_entries (x ∷ xs) = mark_entry x ∷ mark_entries xs
