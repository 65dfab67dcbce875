-- The rows of a value and of those around it, as Check's path has them: there is a chain of steps for them.
use Prim.Native.Nat.{ℕ, ◌+◌}
use mathlib.Core.Path.{◌≡◌, refl}
use mathlib.Core.Logic.{◌⊎◌, inl, inr, ⊎_elim}
use mathlib.Core.List.{List, [], ◌∷◌, ◌++◌}
use lib.Dec.{eqb}
use Rattle.model.proofs.Basics.{both}
use Rattle.syntax.specs.Tree.{Node, scalar, array, object, Nodes, none, more, Members, no_member, member}
use Rattle.syntax.specs.Rows.{size}
use Rattle.syntax.specs.Grammar.{name_of}
use Rattle.schema.specs.Paths.{Path, paths, paths_all, paths_members, path_to}
use Rattle.explain.specs.Pointers.{name_token, index_token}
use Rattle.explain.specs.Writing.{ElementAt, element_first, element_later, MemberAt, member_first, member_later, to_element, to_member, HasRows, PointerReady}
use Rattle.explain.proofs.pointers.Chains.{Chain, here, inside, Chained}

-- the path that is picked by its place
pub picked_rows : (x : ℕ) (ps : List Path) → (path_to x ps ≡ [] → ⊥) → HasRows (path_to x ps) ps
picked_rows x [] n = absurd (n refl)
picked_rows x (p ∷ ps) n =
    both (λ (rows : List ℕ). (rows ≡ [] → ⊥) → HasRows rows (p ∷ ps)) (eqb p.place x) (λ _ _. inl refl) (λ _ m. inr (picked_rows x ps m)) n

module _ (rows : List ℕ) where
  rows_ways : (ps qs : List Path) → HasRows rows (ps ++ qs) → HasRows rows ps ⊎ HasRows rows qs
  rows_ways [] qs h = inr h
  rows_ways (p ∷ ps) qs (inl e) = inl (inl e)
  rows_ways (p ∷ ps) qs (inr h) = ⊎_elim (λ x. inl (inr x)) (λ x. inr x) (rows_ways ps qs h)

  pub rows_first : (ps : List Path) → HasRows rows ps → (row : ℕ) × (around : List ℕ) × (rows ≡ row ∷ around)
  rows_first [] h = absurd h
  rows_first (p ∷ ps) (inl e) = (p.row, p.around, e)
  rows_first (p ∷ ps) (inr h) = rows_first ps h

-- ---- a chain to them, from a value, from its elements and from its members

pub record From (s : List ℕ) (r : ℕ) (n : Node) (around rows before : List ℕ) : Type 0 where
  pub bytes : List ℕ
  pub chain : Chain s r n around rows before bytes

record FromAll (s : List ℕ) (i r : ℕ) (ns : Nodes) (around rows before : List ℕ) : Type 0 where
  index : ℕ
  row : ℕ
  value : Node
  is : ElementAt i r ns index row value
  on : From s row value around rows (before ++ index_token index)

record FromMembers (s : List ℕ) (r : ℕ) (ms : Members) (around rows before : List ℕ) : Type 0 where
  first : ℕ
  end : ℕ
  row : ℕ
  value : Node
  is : MemberAt r ms first end row value
  on : From s row value around rows (before ++ name_token (name_of s first end))

module _ (s rows : List ℕ) where
  itself : (r : ℕ) (n : Node) (around before : List ℕ) → rows ≡ r ∷ around → From s r n around rows before
  itself r n around before e = rw e record { bytes = before; chain = here }

  mutual
    pub from : (around before : List ℕ) (r : ℕ) (n : Node) → HasRows rows (paths around r n) → From s r n around rows before
    from around before r (scalar k f e) (inl q) = itself r (scalar k f e) around before q
    from around before r (scalar k f e) (inr h) = absurd h
    from around before r (array f e ns) (inl q) = itself r (array f e ns) around before q
    from around before r (array f e ns) (inr h) =
        let a = from_all (r ∷ around) before 0 (r + 1) ns h in
        record { bytes = a.on.bytes; chain = inside (to_element a.is) a.on.chain }
    from around before r (object f e ms) (inl q) = itself r (object f e ms) around before q
    from around before r (object f e ms) (inr h) =
        let a = from_members (r ∷ around) before (r + 1) ms h in
        record { bytes = a.on.bytes; chain = inside (to_member a.is) a.on.chain }

    from_all : (around before : List ℕ) (i r : ℕ) (ns : Nodes) → HasRows rows (paths_all around r ns) → FromAll s i r ns around rows before
    from_all around before i r none h = absurd h
    from_all around before i r (more n ns) h =
        ⊎_elim (λ x. record { index = i; row = r; value = n; is = element_first; on = from around (before ++ index_token i) r n x })
        (λ x. let a = from_all around before (i + 1) (r + size n) ns x in
        record { index = a.index; row = a.row; value = a.value; is = element_later a.is; on = a.on })
        (rows_ways rows (paths around r n) (paths_all around (r + size n) ns) h)

    from_members : (around before : List ℕ) (r : ℕ) (ms : Members) → HasRows rows (paths_members around r ms) → FromMembers s r ms around rows before
    from_members around before r no_member h = absurd h
    from_members around before r (member f e n ms) h =
        ⊎_elim
        (λ x. record { first = f; end = e; row = r + 1; value = n; is = member_first; on = from around (before ++ name_token (name_of s f e)) (r + 1) n x })
        (λ x. let a = from_members around before (r + 1 + size n) ms x in
        record { first = a.first; end = a.end; row = a.row; value = a.value; is = member_later a.is; on = a.on })
        (rows_ways rows (paths around (r + 1) n) (paths_members around (r + 1 + size n) ms) h)

pub chained : {s t path : List ℕ} → PointerReady s t path → Chained s t path
chained {s} {t} {path} d =
    let f = from s path [] [] 0 d.tree d.has in
    record { tree = d.tree; holds = d.holds; placed = d.placed; short = d.short; bytes = f.bytes; chain = f.chain }
