-- Going from element to element up to the one at a row.
use Prim.Native.Nat.{ℕ, ◌+◌, ◌*◌, ◌≤◌, ◌<◌}
use mathlib.Core.Path.{◌≡◌, refl, ap, ◌∙◌}
use mathlib.Core.List.{List}
use native.Mathlib.Omega.{arith}
use lib.ListN.{length}
use Rattle.syntax.specs.Tree.{Node, scalar, array, object, Nodes, none, more}
use Rattle.syntax.specs.Rows.{row_words, size}
use Rattle.syntax.specs.Holding.{word, Holds, HoldsAll}
use Rattle.syntax.proofs.Facts.{size_pos}
use Rattle.rows.specs.Records.{InTable}
use Rattle.explain.specs.Writing.{ElementAt, element_first, element_later, ElementRow}

-- the rows of a value
pub rows_of : (t : List ℕ) (r : ℕ) (n : Node) → Holds t r n → (word t r 4 ≡ size n) × (row_words * (r + size n) ≤ length t)
rows_of t r (scalar k f e) h = (h.subtree, h.room)
rows_of t r (array f e ns) h = (h.0.subtree, h.0.room)
rows_of t r (object f e ms) h = (h.0.subtree, h.0.room)

pub value_in : {t : List ℕ} {r : ℕ} (n : Node) → Holds t r n → InTable t r
value_in {t} {r} n h = let b = rows_of t r n h in record { here = omega (arith, b.1, size_pos n); room = rw b.0 b.1 }

-- no element stands before the first
pub element_ahead : {i r j c : ℕ} {m : Node} {ns : Nodes} → ElementAt i r ns j c m → r ≤ c
element_ahead element_first = omega arith
element_ahead (element_later a) = omega (arith, element_ahead a)

-- before row `row` stand `index` elements; the one at row c is among the others, and has the index j
pub record Passed (t : List ℕ) (c j : ℕ) (m : Node) (row index : ℕ) : Type 0 where
  pub rest : Nodes
  pub holds : HoldsAll t row rest
  pub is : ElementAt index row rest j c m
  pub few : index ≤ row

pub passed_none : {t : List ℕ} {r c : ℕ} (d : ElementRow t r c) → Passed t c d.index d.value (r + 1) 0
passed_none d = record { rest = d.elements; holds = d.holds; is = d.is; few = omega arith }

-- the next element, where it is not the one
pub record Before (t : List ℕ) (c j : ℕ) (m : Node) (row index : ℕ) : Type 0 where
  pub in_table : InTable t row
  pub long : 0 < word t row 4
  pub next : {r : ℕ} → r ≡ row + word t row 4 → Passed t c j m r (index + 1)

before_of : {t : List ℕ} {c j : ℕ} {m : Node} {row index : ℕ} (rest : Nodes) → HoldsAll t row rest → ElementAt index row rest j c m → index ≤ row → row < c
    → Before t c j m row index
before_of none h a b l = elim a [ ]
before_of (more n ns) h element_first b l = absurd (omega arith)
before_of {t} {c} {j} {m} {row} {index} (more n ns) h (element_later a) b l =
    let z : word t row 4 ≡ size n = (rows_of t row n h.0).0 in
    record {
      in_table = value_in n h.0;
      long = omega (arith, size_pos n);
      next = λ {r} e. let q : r ≡ row + size n = e ∙ ap (λ (k : ℕ). row + k) z in
          record { rest = ns; holds = rw q h.1; is = rw q a; few = omega (arith, size_pos n) };
    }

end_of : {c j : ℕ} {m : Node} {row index : ℕ} {rest : Nodes} → ElementAt index row rest j c m → c ≤ row → index ≡ j
end_of element_first l = refl
end_of {rest = more n ns} (element_later a) l = absurd (omega (arith, element_ahead a, size_pos n))

module _ {t : List ℕ} {c j : ℕ} {m : Node} {row index : ℕ} (p : Passed t c j m row index) where
  pub passed_here : row < c → Before t c j m row index
  passed_here l = before_of p.rest p.holds p.is p.few l

  pub passed_all : c ≤ row → index ≡ j
  passed_all l = end_of p.is l
