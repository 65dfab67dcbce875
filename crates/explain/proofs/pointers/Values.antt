-- The pointers of a text's values: a chain of steps ends at one of them, and no two have one row.
use Prim.Native.Nat.{ℕ, ◌+◌, ◌≤◌, ◌<◌}
use mathlib.Core.Path.{◌≡◌, refl, sym, ◌∙◌}
use mathlib.Core.Logic.{◌⊎◌, inl, inr, ⊎_elim}
use mathlib.Core.List.{List, [], ◌∷◌, ◌++◌}
use native.Mathlib.Omega.{arith}
use Rattle.syntax.specs.Tree.{Node, scalar, array, object, Nodes, none, more, Members, no_member, member}
use Rattle.syntax.specs.Rows.{size, sizes, sizes_members}
use Rattle.syntax.specs.Grammar.{name_of}
use Rattle.syntax.proofs.Facts.{holds_same}
use Rattle.explain.specs.Pointers.{name_token, index_token, Pointer, pointers, pointers_all, pointers_members}
use Rattle.explain.specs.Writing.{Puts, ElementAt, element_first, element_later, MemberAt, member_first, member_later, StepTo, to_element, to_member, Points, PointerWritten}
use Rattle.explain.proofs.pieces.Buffers.{puts_fitted, puts_as}
use Rattle.explain.proofs.pointers.Chains.{Chain, here, inside, Chained}

-- ---- among two lists

module _ (row : ℕ) (w : List ℕ) where
  points_left : (ps qs : List Pointer) → Points row w ps → Points row w (ps ++ qs)
  points_left [] qs h = absurd h
  points_left (p ∷ ps) qs (inl e) = inl e
  points_left (p ∷ ps) qs (inr h) = inr (points_left ps qs h)

  points_right : (ps qs : List Pointer) → Points row w qs → Points row w (ps ++ qs)
  points_right [] qs h = h
  points_right (p ∷ ps) qs h = inr (points_right ps qs h)

  points_ways : (ps qs : List Pointer) → Points row w (ps ++ qs) → Points row w ps ⊎ Points row w qs
  points_ways [] qs h = inr h
  points_ways (p ∷ ps) qs (inl e) = inl (inl e)
  points_ways (p ∷ ps) qs (inr h) = ⊎_elim (λ x. inl (inr x)) (λ x. inr x) (points_ways ps qs h)

-- ---- what stands in a list of elements or members: in the first, or in those behind it

-- the pointers of an element, and of a member, of a value whose pointer is `before`
abbrev indexed : List ℕ → ℕ → List ℕ
indexed before i = before ++ index_token i

abbrev named : List ℕ → List ℕ → ℕ → ℕ → List ℕ
named s before f e = before ++ name_token (name_of s f e)

module _ (s : List ℕ) (row : ℕ) (w : List ℕ) where
  -- of the values in that at row r, the one at `row` has the pointer w
  abbrev In : List ℕ → ℕ → Node → Type 0
  In before r n = Points row w (pointers s before r n)

  abbrev InAll : List ℕ → ℕ → ℕ → Nodes → Type 0
  InAll before i r ns = Points row w (pointers_all s before i r ns)

  abbrev InMembers : List ℕ → ℕ → Members → Type 0
  InMembers before r ms = Points row w (pointers_members s before r ms)

  all_ways : (before : List ℕ) (i r : ℕ) (n : Node) (ns : Nodes) → InAll before i r (more n ns)
      → In (indexed before i) r n ⊎ InAll before (i + 1) (r + size n) ns
  all_ways before i r n ns h = points_ways row w (pointers s (indexed before i) r n) (pointers_all s before (i + 1) (r + size n) ns) h

  members_ways : (before : List ℕ) (r f e : ℕ) (n : Node) (ms : Members) → InMembers before r (member f e n ms)
      → In (named s before f e) (r + 1) n ⊎ InMembers before (r + 1 + size n) ms
  members_ways before r f e n ms h = points_ways row w (pointers s (named s before f e) (r + 1) n) (pointers_members s before (r + 1 + size n) ms) h

  -- ---- a chain ends at one of them

  points_element : (before : List ℕ) {i r j c : ℕ} {m : Node} (ns : Nodes) → ElementAt i r ns j c m → In (indexed before j) c m → InAll before i r ns
  points_element before none a h = elim a [ ]
  points_element before {i} {r} (more n ns) element_first h =
      points_left row w (pointers s (indexed before i) r n) (pointers_all s before (i + 1) (r + size n) ns) h
  points_element before {i} {r} (more n ns) (element_later a) h =
      points_right row w (pointers s (indexed before i) r n) (pointers_all s before (i + 1) (r + size n) ns) (points_element before {i = i + 1} {r = r + size n} ns a h)

  points_member : (before : List ℕ) {r g k c : ℕ} {m : Node} (ms : Members) → MemberAt r ms g k c m → In (named s before g k) c m
      → InMembers before r ms
  points_member before no_member a h = elim a [ ]
  points_member before {r} (member f e n ms) member_first h =
      points_left row w (pointers s (named s before f e) (r + 1) n) (pointers_members s before (r + 1 + size n) ms) h
  points_member before {r} (member f e n ms) (member_later a) h =
      points_right row w (pointers s (named s before f e) (r + 1) n) (pointers_members s before (r + 1 + size n) ms) (points_member before {r = r + 1 + size n} ms a h)

  points_step : (before : List ℕ) {r c : ℕ} {n m : Node} {token : List ℕ} → StepTo s r n c m token → In (before ++ token) c m → In before r n
  points_step before (to_element {ns = ns} a) h = inr (points_element before ns a h)
  points_step before (to_member {ms = ms} a) h = inr (points_member before ms a h)

points_itself : (s before : List ℕ) (r : ℕ) (n : Node) → Points r before (pointers s before r n)
points_itself s before r (scalar k f e) = inl (refl, refl)
points_itself s before r (array f e ns) = inl (refl, refl)
points_itself s before r (object f e ms) = inl (refl, refl)

pub chain_points : {s : List ℕ} {r : ℕ} {n : Node} {around rows before w : List ℕ} → Chain s r n around rows before w
    → {row : ℕ} {rest : List ℕ} → rows ≡ row ∷ rest → Points row w (pointers s before r n)
chain_points {s} {r} {n} {before = before} here {row} e = let q : row ≡ r = cc in rw q (points_itself s before r n)
chain_points {s} {before = before} {w = w} (inside step chain) {row} e = points_step s row w before step (chain_points chain e)

-- ---- their rows are those of the tree

module _ (s : List ℕ) (row : ℕ) (w : List ℕ) where
  mutual
    range : (before : List ℕ) (r : ℕ) (n : Node) → In s row w before r n → (r ≤ row) × (row < r + size n)
    range before r (scalar k f e) (inl q) = omega (arith, q.0)
    range before r (scalar k f e) (inr h) = absurd h
    range before r (array f e ns) (inl q) = omega (arith, q.0)
    range before r (array f e ns) (inr h) = omega (arith, range_all before 0 (r + 1) ns h)
    range before r (object f e ms) (inl q) = omega (arith, q.0)
    range before r (object f e ms) (inr h) = omega (arith, range_members before (r + 1) ms h)

    range_all : (before : List ℕ) (i r : ℕ) (ns : Nodes) → InAll s row w before i r ns → (r ≤ row) × (row < r + sizes ns)
    range_all before i r none h = absurd h
    range_all before i r (more n ns) h =
        ⊎_elim (λ x. omega (arith, range (indexed before i) r n x)) (λ x. omega (arith, range_all before (i + 1) (r + size n) ns x))
        (all_ways s row w before i r n ns h)

    range_members : (before : List ℕ) (r : ℕ) (ms : Members) → InMembers s row w before r ms → (r ≤ row) × (row < r + sizes_members ms)
    range_members before r no_member h = absurd h
    range_members before r (member f e n ms) h =
        ⊎_elim (λ x. omega (arith, range (named s before f e) (r + 1) n x)) (λ x. omega (arith, range_members before (r + 1 + size n) ms x))
        (members_ways s row w before r f e n ms h)

-- ---- one pointer for a row

module _ (s : List ℕ) (row : ℕ) (v w : List ℕ) where
  mutual
    one : (before : List ℕ) (r : ℕ) (n : Node) → In s row v before r n → In s row w before r n → v ≡ w
    one before r (scalar k f e) (inl p) (inl q) = p.1 ∙ sym q.1
    one before r (scalar k f e) (inl p) (inr h) = absurd h
    one before r (scalar k f e) (inr g) h = absurd g
    one before r (array f e ns) (inl p) (inl q) = p.1 ∙ sym q.1
    one before r (array f e ns) (inl p) (inr h) = absurd (omega (arith, p.0, range_all s row w before 0 (r + 1) ns h))
    one before r (array f e ns) (inr g) (inl q) = absurd (omega (arith, q.0, range_all s row v before 0 (r + 1) ns g))
    one before r (array f e ns) (inr g) (inr h) = one_all before 0 (r + 1) ns g h
    one before r (object f e ms) (inl p) (inl q) = p.1 ∙ sym q.1
    one before r (object f e ms) (inl p) (inr h) = absurd (omega (arith, p.0, range_members s row w before (r + 1) ms h))
    one before r (object f e ms) (inr g) (inl q) = absurd (omega (arith, q.0, range_members s row v before (r + 1) ms g))
    one before r (object f e ms) (inr g) (inr h) = one_members before (r + 1) ms g h

    one_all : (before : List ℕ) (i r : ℕ) (ns : Nodes) → InAll s row v before i r ns → InAll s row w before i r ns → v ≡ w
    one_all before i r none g h = absurd g
    one_all before i r (more n ns) g h =
        let b = indexed before i in
        ⊎_elim
        (λ x. ⊎_elim (λ y. one b r n x y)
        (λ y. absurd (omega (arith, range s row v b r n x, range_all s row w before (i + 1) (r + size n) ns y))) (all_ways s row w before i r n ns h))
        (λ x. ⊎_elim (λ y. absurd (omega (arith, range s row w b r n y, range_all s row v before (i + 1) (r + size n) ns x)))
        (λ y. one_all before (i + 1) (r + size n) ns x y) (all_ways s row w before i r n ns h))
        (all_ways s row v before i r n ns g)

    one_members : (before : List ℕ) (r : ℕ) (ms : Members) → InMembers s row v before r ms → InMembers s row w before r ms → v ≡ w
    one_members before r no_member g h = absurd g
    one_members before r (member f e n ms) g h =
        let b = named s before f e in
        ⊎_elim
        (λ x. ⊎_elim (λ y. one b (r + 1) n x y)
        (λ y. absurd (omega (arith, range s row v b (r + 1) n x, range_members s row w before (r + 1 + size n) ms y))) (members_ways s row w before r f e n ms h))
        (λ x. ⊎_elim (λ y. absurd (omega (arith, range s row w b (r + 1) n y, range_members s row v before (r + 1 + size n) ms x)))
        (λ y. one_members before (r + 1 + size n) ms x y) (members_ways s row w before r f e n ms h))
        (members_ways s row v before r f e n ms g)

pub one_pointer : (s : List ℕ) (n : Node) (row : ℕ) (v w : List ℕ) → Points row v (pointers s [] 0 n) → Points row w (pointers s [] 0 n) → v ≡ w
one_pointer s n row v w g h = one s row v w [] 0 n g h

-- what is written is the pointer of the row that the list begins with
pub pointer_written : {s t path : List ℕ} (d : Chained s t path) {k : ℕ} {out out₂ : List ℕ} → Puts d.bytes 0 k out out₂
    → PointerWritten s t path k out out₂
pointer_written {s} {t} d p = record {
  tells = λ n h row around e w q.
      let same : d.tree ≡ n = holds_same t 0 d.tree n d.holds h in
      puts_fitted (puts_as (one_pointer s n row w d.bytes q (rw same at (chain_points d.chain e))) p);
}
