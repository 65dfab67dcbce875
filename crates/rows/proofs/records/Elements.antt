-- Going through the elements of an array.
use Prim.Native.Nat.{ℕ, ◌+◌, ◌-◌, ◌≤◌, ◌<◌}
use mathlib.Core.Path.{◌≡◌, refl, ap, ◌∙◌}
use mathlib.Core.List.{List}
use native.Mathlib.Omega.{arith}
use Rattle.syntax.specs.Tree.{Nodes, none, more}
use Rattle.syntax.specs.Rows.{count, size}
use Rattle.syntax.specs.Holding.{word, HoldsAll, PlacedAll}
use Rattle.rows.specs.Records.{Rowed, ArrayRow}
use Rattle.rows.proofs.records.Trees.{row_of}

-- those not yet seen: `left` of them, from row `here` on
pub record ElementsLeft (s t : List ℕ) (here left : ℕ) (rest : Nodes) : Type 0 where
  pub holds : HoldsAll t here rest
  pub placed : PlacedAll s rest
  pub counts : left ≡ count rest

-- the first of them, and the others behind it
pub record ElementHere (s t : List ℕ) (here : ℕ) (rest : Nodes) : Type 0 where
  pub value : Rowed s t here
  pub others : Nodes
  pub is : rest ≡ more value.tree others
  pub behind : HoldsAll t (here + word t here 4) others
  pub placed : PlacedAll s others

pub elements_start : {s t : List ℕ} {r left : ℕ} (o : ArrayRow s t r) → left ≡ word t r 3 → ElementsLeft s t (r + 1) left o.elements
elements_start o e = record { holds = o.holds.1; placed = o.placed.2; counts = e ∙ o.holds.0.direct }

module _ {s t : List ℕ} {here left : ℕ} where
  first_element : (rest : Nodes) → ElementsLeft s t here left rest → 0 < left → ElementHere s t here rest
  first_element none a l = absurd (omega arith)
  first_element (more n ns) a l =
      let z : word t here 4 ≡ size n = (row_of t here n a.holds.0).subtree in
      record {
        value = record { tree = n; holds = a.holds.0; placed = a.placed.0 };
        others = ns;
        is = refl;
        behind = rw z a.holds.1;
        placed = a.placed.1;
      }

  module _ {rest : Nodes} (a : ElementsLeft s t here left rest) where
    pub element_here : 0 < left → ElementHere s t here rest
    element_here l = first_element rest a l

    pub elements_next : (m : ElementHere s t here rest) {r : ℕ} → r ≡ here + word t here 4 → ElementsLeft s t r (left - 1) m.others
    elements_next m {r} e = record { holds = rw e m.behind; placed = m.placed; counts = omega (arith, a.counts, ap count m.is) }

  pub elements_end : {rest : Nodes} → ElementsLeft s t here left rest → left ≤ 0 → rest ≡ none
  elements_end {rest = none} a l = refl
  elements_end {rest = more n ns} a l = absurd (omega arith)
