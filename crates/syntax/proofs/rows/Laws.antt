-- The rows of a tree: how many, which words they have, and where they are stored.
use mathlib.Core.Path.{◌≡◌, refl, ap, ◌∙◌}
use mathlib.Core.List.{List, [], ◌∷◌, ◌++◌}
use Prim.Native.Nat.{ℕ, zero, suc, ◌+◌, ◌*◌, ◌≤◌, ◌<◌}
use native.Mathlib.Omega.{arith}
use lib.ListN.{length, get_or, drop, length-append, get_or-append}
use lib.Seq.{sets, sets-eq, get_or-append-add}
use Rattle.syntax.specs.Tree.{Node, scalar, array, object, Nodes, none, more, Members, no_member, member}
use Rattle.syntax.specs.Rows.{Entry, entry, size, sizes, sizes_members, entries, entries_all, entries_members, parents, parents_all, parents_members}
use Rattle.syntax.specs.Rows.{row_words, row, lay_out, words}
use Rattle.syntax.specs.Holding.{word}

mutual
  pub entries_length : (n : Node) → length (entries n) ≡ size n
  entries_length (scalar k f e) = refl
  entries_length (array f e ns) = omega (arith, entries_all_length ns)
  entries_length (object f e ms) = omega (arith, entries_members_length ms)

  pub entries_all_length : (ns : Nodes) → length (entries_all ns) ≡ sizes ns
  entries_all_length none = refl
  entries_all_length (more n ns) = omega (arith, length-append (entries n) (entries_all ns), entries_length n, entries_all_length ns)

  pub entries_members_length : (ms : Members) → length (entries_members ms) ≡ sizes_members ms
  entries_members_length no_member = refl
  entries_members_length (member f e n ms) =
      omega (arith, length-append (entries n) (entries_members ms), entries_length n, entries_members_length ms)

mutual
  pub parents_length : (p r : ℕ) (n : Node) → length (parents p r n) ≡ size n
  parents_length p r (scalar k f e) = refl
  parents_length p r (array f e ns) = omega (arith, parents_all_length r (r + 1) ns)
  parents_length p r (object f e ms) = omega (arith, parents_members_length r (r + 1) ms)

  pub parents_all_length : (p r : ℕ) (ns : Nodes) → length (parents_all p r ns) ≡ sizes ns
  parents_all_length p r none = refl
  parents_all_length p r (more n ns) =
      omega (arith, length-append (parents p r n) (parents_all p (r + size n) ns), parents_length p r n, parents_all_length p (r + size n) ns)

  pub parents_members_length : (p r : ℕ) (ms : Members) → length (parents_members p r ms) ≡ sizes_members ms
  parents_members_length p r no_member = refl
  parents_members_length p r (member f e n ms) =
      omega (
        arith,
        length-append (parents p (r + 1) n) (parents_members p (r + 1 + size n) ms),
        parents_length p (r + 1) n,
        parents_members_length p (r + 1 + size n) ms,
      )

-- ---- rows that are laid out

-- of as many entries as parents
pub laid_length : (xs : List Entry) (ps : List ℕ) → length xs ≡ length ps → length (lay_out xs ps) ≡ row_words * length xs
laid_length [] ps e = refl
laid_length (x ∷ xs) [] e = absurd (omega arith)
laid_length (x ∷ xs) (p ∷ ps) e = omega (arith, laid_length xs ps (omega arith))

-- where there is no entry
abbrev pub no_entry : Entry
no_entry = entry 0 0 0 0 0

-- word k of row i, with other words behind the rows
pub laid_word : (xs : List Entry) (ps rest : List ℕ) (i k : ℕ) → length xs ≡ length ps → i < length xs → k < row_words
    → word (lay_out xs ps ++ rest) i k ≡ get_or (row (get_or xs i no_entry) (get_or ps i 0)) k 0
laid_word [] ps rest i k e l m = absurd (omega arith)
laid_word (x ∷ xs) [] rest i k e l m = absurd (omega arith)
laid_word (x ∷ xs) (p ∷ ps) rest zero k e l m =
    let q : row_words * 0 + k ≡ k = omega arith in
    ap (λ (j : ℕ). get_or (row x p ++ (lay_out xs ps ++ rest)) j 0) q ∙ get_or-append (row x p) (lay_out xs ps ++ rest) 0 k m
laid_word (x ∷ xs) (p ∷ ps) rest (suc i) k e l m =
    let q : row_words * suc i + k ≡ row_words + (row_words * i + k) = omega arith in
    ap (λ (j : ℕ). get_or (row x p ++ (lay_out xs ps ++ rest)) j 0) q
    ∙ get_or-append-add (row x p) (lay_out xs ps ++ rest) (row_words * i + k) 0
    ∙ laid_word xs ps rest i k (omega arith) (omega arith) m

-- ---- the words of a tree

as_many : (n : Node) → length (entries n) ≡ length (parents 0 0 n)
as_many n = omega (arith, entries_length n, parents_length 0 0 n)

pub words_length : (n : Node) → length (words n) ≡ row_words * size n
words_length n = laid_length (entries n) (parents 0 0 n) (as_many n) ∙ ap (λ (k : ℕ). row_words * k) (entries_length n)

pub words_word : (n : Node) (rest : List ℕ) (i k : ℕ) → i < size n → k < row_words
    → word (words n ++ rest) i k ≡ get_or (row (get_or (entries n) i no_entry) (get_or (parents 0 0 n) i 0)) k 0
words_word n rest i k l m = laid_word (entries n) (parents 0 0 n) rest i k (as_many n) (omega (arith, entries_length n)) m

-- a tree's rows, stored at the start of a table
pub stored : (n : Node) (t : List ℕ) → row_words * size n ≤ length t → sets t 0 (words n) ≡ words n ++ drop (row_words * size n) t
stored n t h =
    let e : 0 + length (words n) ≡ row_words * size n = omega (arith, words_length n) in
    sets-eq (words n) t 0 (omega arith) ∙ ap (λ (k : ℕ). words n ++ drop k t) e
