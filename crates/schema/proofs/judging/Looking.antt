-- What stands under a name: the value that is looked up, and no other.
use Prim.Native.Nat.{ℕ}
use mathlib.Core.Path.{◌≡◌, refl, subst}
use mathlib.Core.Logic.{inl, inr}
use mathlib.Core.Bool.{true, false}
use mathlib.Core.List.{List}
use Rattle.std.specs.Prelude.{Option, Some, None}
use Rattle.model.specs.Text.{same}
use Rattle.model.specs.Value.{Value, Members as ValueMembers, mnil, mcons, Under, has_name, IsJson, AreMembers}
use Rattle.model.proofs.Basics.{both, same_eq, same_of, or-false, or_left, or_right, clash}
use Rattle.syntax.specs.Tree.{Node, Members, no_member, member}
use Rattle.syntax.specs.Grammar.{name_of}
use Rattle.syntax.specs.Spelling.{value_of, members_of}
use Rattle.syntax.specs.Holding.{Placed, PlacedMembers}
use Rattle.rows.specs.Finding.{lookup}

-- nothing stands under a name that no member has
pub not_under : (k : List ℕ) (w : Value) (ms : ValueMembers) → has_name k ms ≡ false → Under k w ms → ⊥
not_under k w mnil h u = u
not_under k w (mcons m v ms) h u =
    let x = or-false (same k m) (has_name k ms) h in
    elim u [ inl q ↦ clash (same k m) (same_of k m q.0) x.0 | inr r ↦ not_under k w ms x.1 r ]

module _ (s : List ℕ) where
  -- m is the one value under the name k
  pub record Found (k : List ℕ) (ms : Members) (m : Node) : Type 0 where
    pub has : has_name k (members_of s ms) ≡ true
    pub under : Under k (value_of s m) (members_of s ms)
    pub only : AreMembers (members_of s ms) → (w : Value) → Under k w (members_of s ms) → w ≡ value_of s m
    pub placed : PlacedMembers s ms → Placed s m
    pub json : AreMembers (members_of s ms) → IsJson (value_of s m)

  abbrev pub Looked : List ℕ → Members → Option Node → Type 0
  Looked k ms None = has_name k (members_of s ms) ≡ false
  Looked k ms (Some m) = Found k ms m

  -- the first member has the name
  found_first : (k : List ℕ) (f e : ℕ) (n : Node) (ms : Members) → same k (name_of s f e) ≡ true → Found k (member f e n ms) n
  found_first k f e n ms t =
      let x = same_eq k (name_of s f e) t in
      record {
        has = or_left (same k (name_of s f e)) (has_name k (members_of s ms)) t;
        under = inl (x, refl);
        only = λ j w u. elim u [ inl q ↦ q.1 | inr r ↦ absurd (not_under k w (members_of s ms) (rw x j.1) r) ];
        placed = λ h. h.1;
        json = λ j. j.2;
      }

  -- or one behind it
  found_later : (k : List ℕ) (f e : ℕ) (n : Node) (ms : Members) → same k (name_of s f e) ≡ false
      → (o : Option Node) → Looked k ms o → Looked k (member f e n ms) o
  found_later k f e n ms t None h = rw t h
  found_later k f e n ms t (Some m) h = record {
    has = or_right (same k (name_of s f e)) (has_name k (members_of s ms)) h.has;
    under = inr h.under;
    only = λ j w u. elim u [ inl q ↦ clash (same k (name_of s f e)) (same_of k (name_of s f e) q.0) t | inr r ↦ h.only j.3 w r ];
    placed = λ p. h.placed p.2;
    json = λ j. h.json j.3;
  }

  pub looked : (k : List ℕ) (ms : Members) → Looked k ms (lookup s k ms)
  looked k no_member = refl
  looked k (member f e n ms) =
      both (Looked k (member f e n ms)) (same k (name_of s f e))
      (λ t. found_first k f e n ms t) (λ t. found_later k f e n ms t (lookup s k ms) (looked k ms))

  -- a value that is looked up
  pub lookup_found : (k : List ℕ) (ms : Members) (x : Node) → lookup s k ms ≡ Some x → Found k ms x
  lookup_found k ms x e = subst (Looked k ms) e (looked k ms)

  -- a name under which none is
  pub lookup_none : (k : List ℕ) (ms : Members) → lookup s k ms ≡ None → has_name k (members_of s ms) ≡ false
  lookup_none k ms e = subst (Looked k ms) e (looked k ms)
