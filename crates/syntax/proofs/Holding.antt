-- A table that holds a tree: it holds no other, and what Read leaves behind holds the tree that was read.
use mathlib.Core.Path.{◌≡◌, refl, sym, ap, ap₂, ◌∙◌}
use mathlib.Core.List.{List, [], ◌∷◌, ◌++◌}
use Prim.Native.Nat.{ℕ, ◌+◌, ◌*◌, ◌≤◌, ◌<◌}
use native.Mathlib.Omega.{arith}
use lib.ListN.{length, get_or, take, drop, length-append, get_or-append}
use borrow.Author.Tests.{le-leb}
use Rattle.tokens.specs.Parse.{parsed}
use Rattle.tokens.specs.declared.tokens.Kind.{Kind}
use Rattle.tokens.specs.declared.tokens.Kind.TheVariants.{Null, False, True, Whole, Fractional, Quoted}
use Rattle.tokens.specs.Tokens.{kind_number}
use Rattle.syntax.specs.Tree.{Node, scalar, array, object, Nodes, none, more, Members, no_member, member}
use Rattle.syntax.specs.Rows.{Entry, entry, count, count_members, size, sizes, sizes_members, entries, entries_all, entries_members}
use Rattle.syntax.specs.Rows.{parents, parents_all, parents_members, row_words, row, words}
use Rattle.syntax.specs.Answer.{rows_in, table_of}
use Rattle.syntax.specs.Holding.{word, Row, Holds, HoldsAll, HoldsMembers, Nested, NestedAll, NestedMembers}
use Rattle.syntax.proofs.rows.Each.{Each, each, each_left, each_right}
use Rattle.syntax.proofs.rows.Laws.{entries_length, parents_length, no_entry, words_length, words_word}

-- ---- the number of a kind

-- scalars have no number of an array, an object or a name
pub kind_small : (k : Kind) → kind_number k < 7
kind_small Null = omega arith
kind_small False = omega arith
kind_small True = omega arith
kind_small Whole = omega arith
kind_small Fractional = omega arith
kind_small Quoted = omega arith

abbrev kind_of : ℕ → Kind
kind_of n = get_or (Null ∷ Null ∷ False ∷ True ∷ Whole ∷ Fractional ∷ Quoted ∷ []) n Null

kind_back : (k : Kind) → kind_of (kind_number k) ≡ k
kind_back Null = refl
kind_back False = refl
kind_back True = refl
kind_back Whole = refl
kind_back Fractional = refl
kind_back Quoted = refl

pub kind_same : (k l : Kind) → kind_number k ≡ kind_number l → k ≡ l
kind_same k l e = sym (kind_back k) ∙ ap kind_of e ∙ kind_back l

-- ---- one tree at most

mutual
  pub holds_same : (t : List ℕ) (r : ℕ) (n m : Node) → Holds t r n → Holds t r m → n ≡ m
  holds_same t r (scalar k f e) (scalar l g i) h j = cc (kind_same k l (cc))
  holds_same t r (scalar k f e) (array g i ms) h j = absurd (omega (arith, kind_small k))
  holds_same t r (scalar k f e) (object g i ms) h j = absurd (omega (arith, kind_small k))
  holds_same t r (array f e ns) (scalar l g i) h j = absurd (omega (arith, kind_small l))
  holds_same t r (array f e ns) (array g i ms) h j = cc (holds_all_same t (r + 1) ns ms (cc) h.1 j.1)
  holds_same t r (array f e ns) (object g i ms) h j = absurd (omega arith)
  holds_same t r (object f e ns) (scalar l g i) h j = absurd (omega (arith, kind_small l))
  holds_same t r (object f e ns) (array g i ms) h j = absurd (omega arith)
  holds_same t r (object f e ns) (object g i ms) h j = cc (holds_members_same t (r + 1) ns ms (cc) h.1 j.1)

  pub holds_all_same : (t : List ℕ) (r : ℕ) (ns ms : Nodes) → count ns ≡ count ms → HoldsAll t r ns → HoldsAll t r ms → ns ≡ ms
  holds_all_same t r none none c h j = refl
  holds_all_same t r none (more m ms) c h j = absurd (omega arith)
  holds_all_same t r (more n ns) none c h j = absurd (omega arith)
  holds_all_same t r (more n ns) (more m ms) c h j =
      let x : n ≡ m = holds_same t r n m h.0 j.0 in
      ap₂ more x (holds_all_same t (r + size n) ns ms (omega arith) h.1 (rw (← x) at j.1))

  pub holds_members_same : (t : List ℕ) (r : ℕ) (ns ms : Members) → count_members ns ≡ count_members ms
      → HoldsMembers t r ns → HoldsMembers t r ms → ns ≡ ms
  holds_members_same t r no_member no_member c h j = refl
  holds_members_same t r no_member (member g i m ms) c h j = absurd (omega arith)
  holds_members_same t r (member f e n ns) no_member c h j = absurd (omega arith)
  holds_members_same t r (member f e n ns) (member g i m ms) c h j =
      let x : n ≡ m = holds_same t (r + 1) n m h.1 j.1 in
      cc (holds_members_same t (r + 1 + size n) ns ms (omega arith) h.2 (rw (← x) at j.2))

-- ---- the tree that a table holds

-- row r has the words of an entry
abbrev Says : List ℕ → ℕ → Entry → Type 0
Says t r x = (k : ℕ) → k < 5 → word t r k ≡ get_or (row x 0) k 0

says_row : {t : List ℕ} {r k f e children rows : ℕ} → Says t r (entry k f e children rows) → row_words * (r + rows) ≤ length t
    → Row t r k f e children rows
says_row h l = record {
  kind = h 0 (omega arith);
  first = h 1 (omega arith);
  last = h 2 (omega arith);
  direct = h 3 (omega arith);
  subtree = h 4 (omega arith);
  room = l;
}

mutual
  said : (t : List ℕ) (r : ℕ) (n : Node) → row_words * (r + size n) ≤ length t → Each (Says t) r (entries n) → Holds t r n
  said t r (scalar k f e) l h = says_row h.0 l
  said t r (array f e ns) l h = (says_row h.0 l, said_all t (r + 1) ns (omega arith) h.1)
  said t r (object f e ms) l h = (says_row h.0 l, said_members t (r + 1) ms (omega arith) h.1)

  said_all : (t : List ℕ) (r : ℕ) (ns : Nodes) → row_words * (r + sizes ns) ≤ length t → Each (Says t) r (entries_all ns) → HoldsAll t r ns
  said_all t r none l h = tt
  said_all t r (more n ns) l h = (
    said t r n (omega arith) (each_left (Says t) r (entries n) (entries_all ns) h),
    said_all t (r + size n) ns (omega arith) (each_right (Says t) r (entries n) (entries_all ns) (omega (arith, entries_length n)) h),
  )

  said_members : (t : List ℕ) (r : ℕ) (ms : Members) → row_words * (r + sizes_members ms) ≤ length t → Each (Says t) r (entries_members ms)
      → HoldsMembers t r ms
  said_members t r no_member l h = tt
  said_members t r (member f e n ms) l h = (
    says_row h.0 (omega arith),
    said t (r + 1) n (omega arith) (each_left (Says t) (r + 1) (entries n) (entries_members ms) h.1),
    said_members t (r + 1 + size n) ms (omega arith)
        (each_right (Says t) (r + 1) (entries n) (entries_members ms) (omega (arith, entries_length n)) h.1),
  )

-- row r stands in row p
abbrev StandsIn : List ℕ → ℕ → ℕ → Type 0
StandsIn t r p = word t r 5 ≡ p

mutual
  nested : (t : List ℕ) (p r : ℕ) (n : Node) → Each (StandsIn t) r (parents p r n) → Nested t p r n
  nested t p r (scalar k f e) h = h.0
  nested t p r (array f e ns) h = (h.0, nested_all t r (r + 1) ns h.1)
  nested t p r (object f e ms) h = (h.0, nested_members t r (r + 1) ms h.1)

  nested_all : (t : List ℕ) (p r : ℕ) (ns : Nodes) → Each (StandsIn t) r (parents_all p r ns) → NestedAll t p r ns
  nested_all t p r none h = tt
  nested_all t p r (more n ns) h =
      let rest = parents_all p (r + size n) ns in (
        nested t p r n (each_left (StandsIn t) r (parents p r n) rest h),
        nested_all t p (r + size n) ns (each_right (StandsIn t) r (parents p r n) rest (omega (arith, parents_length p r n)) h),
      )

  nested_members : (t : List ℕ) (p r : ℕ) (ms : Members) → Each (StandsIn t) r (parents_members p r ms) → NestedMembers t p r ms
  nested_members t p r no_member h = tt
  nested_members t p r (member f e n ms) h =
      let rest = parents_members p (r + 1 + size n) ms in (
        h.0,
        nested t p (r + 1) n (each_left (StandsIn t) (r + 1) (parents p (r + 1) n) rest h.1),
        nested_members t p (r + 1 + size n) ms
            (each_right (StandsIn t) (r + 1) (parents p (r + 1) n) rest (omega (arith, parents_length p (r + 1) n)) h.1),
      )

-- ---- the words of a tree

-- words of a row, but for the last, do not go by the row that it stands in
entry_word : (x : Entry) (p k : ℕ) → k < 5 → get_or (row x p) k 0 ≡ get_or (row x 0) k 0
entry_word x p k l = get_or-append (take 5 (row x p)) (p ∷ []) 0 k l ∙ sym (get_or-append (take 5 (row x 0)) (0 ∷ []) 0 k l)

module _ (n : Node) (rest : List ℕ) where
  pub words_holds : Holds (words n ++ rest) 0 n
  words_holds =
      said (words n ++ rest) 0 n (omega (arith, length-append (words n) rest, words_length n))
      (each (Says (words n ++ rest)) no_entry 0 (entries n)
      (λ j l k m. (let z : 0 + j ≡ j = omega arith in rw z)
      ∙ words_word n rest j k (omega (arith, entries_length n)) (omega arith)
      ∙ entry_word (get_or (entries n) j no_entry) (get_or (parents 0 0 n) j 0) k m))

  pub words_nested : Nested (words n ++ rest) 0 0 n
  words_nested =
      nested (words n ++ rest) 0 0 n
      (each (StandsIn (words n ++ rest)) 0 0 (parents 0 0 n)
      (λ j l. (let z : 0 + j ≡ j = omega arith in rw z) ∙ words_word n rest j 5 (omega (arith, parents_length 0 0 n)) (omega arith)))

-- the table after a text that was read and had room
module _ (t : List ℕ) (n : Node) (e : ℕ) (h : size n ≤ rows_in (length t)) where
  abbrev behind : List ℕ
  behind = drop (row_words * size n) t

  written : table_of t (parsed n e) ≡ words n ++ behind
  unfolding table_of
  written = rw (le-leb (size n) (rows_in (length t)) h)

  pub table_holds : Holds (table_of t (parsed n e)) 0 n
  table_holds = rw written (words_holds n behind)

  pub table_nested : Nested (table_of t (parsed n e)) 0 0 n
  table_nested = rw written (words_nested n behind)
