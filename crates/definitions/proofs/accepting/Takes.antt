-- `accept` accepts exactly the texts that are read with room and are a definition, and that definition is the only one (01, "Three services").
use Prim.Native.Nat.{ℕ, ◌≤◌, ◌<◌}
use mathlib.Core.Path.{◌≡◌, refl, ap}
use mathlib.Core.List.{List}
use native.Mathlib.Omega.{arith}
use lib.Dec.{leb}
use borrow.Author.Tests.{leb-true, leb-false}
use Rattle.model.proofs.Basics.{never, both}
use Rattle.chars.specs.declared.refusals.Code.{Code}
use Rattle.tokens.specs.Parse.{Parse, refused, parsed}
use Rattle.syntax.specs.Tree.{Node}
use Rattle.syntax.specs.Rows.{size}
use Rattle.syntax.specs.Answer.{rows_in}
use Rattle.syntax.proofs.Theorems.{read_code}
use Rattle.definitions.specs.Definitions.{Located, Defined, faulty, fine, definition_at}
use Rattle.definitions.specs.Accepting.{read_schema, Accepted, not_accepted, accepted, defined_as, accepted_as, accept, HasRoom}
use Rattle.definitions.specs.declared.definitions.FaultCode.{FaultCode}
use Rattle.definitions.proofs.definitions.Faults.{fault_code}

-- the ways of what was read
pub by_parse : {A : Type 0} (P : Parse A → Type 0) (o : Parse A)
    → ((c : Code) (p : ℕ) → o ≡ refused c p → P (refused c p)) → ((n : A) (e : ℕ) → o ≡ parsed n e → P (parsed n e)) → P o
by_parse P (refused c p) f g = f c p refl
by_parse P (parsed n e) f g = g n e refl

by_defined : {A : Type 0} (P : Defined A → Type 0) (o : Defined A)
    → ((c : FaultCode) (p : ℕ) → o ≡ faulty c p → P (faulty c p)) → ((a : A) → o ≡ fine a → P (fine a)) → P o
by_defined P (faulty c p) f g = f c p refl
by_defined P (fine a) f g = g a refl

-- what is read with room is one tree
module _ {o : Parse Node} {w : ℕ} where
  pub refused_none : {n : Node} {c : Code} {p : ℕ} → o ≡ refused c p → HasRoom o w n → ⊥
  refused_none q h = let x = h.reads in never (cc)

  pub one_tree : {n m : Node} {e : ℕ} → o ≡ parsed n e → HasRoom o w m → n ≡ m
  one_tree q h = let x = h.reads in cc

  pub no_room : {n m : Node} {e : ℕ} → o ≡ parsed n e → rows_in w < size n → HasRoom o w m → ⊥
  no_room q l h = let x = ap size (one_tree q h) in omega (arith, h.room)

-- ---- the schema

-- its definition, with places
pub record Takes (w : ℕ) (s : List ℕ) (d : Located) : Type 0 where
  pub tree : Node
  pub read : HasRoom (read_schema s) w tree
  pub defines : definition_at s tree ≡ fine d

module _ (which w : ℕ) (s : List ℕ) where
  abbrev pub Way : Accepted → Type 0
  Way (not_accepted a) = ((0 < a.code) × (a.code ≤ 12)) × ((d : Located) → Takes w s d → ⊥)
  Way (accepted d) = Takes w s d × ((d₂ : Located) → Takes w s d₂ → d ≡ d₂)

  pub accept_way : Way (accept which w s)
  unfolding accept
  accept_way =
      by_parse (λ o. Way (accepted_as which w s o)) (read_schema s)
      (λ c p q. (omega (arith, read_code _ _ s c p q), λ d t. refused_none q t.read))
      (λ n e q. both Way (leb (size n) (rows_in w))
      (λ l. by_defined (λ o. Way (defined_as which o)) (definition_at s n)
      (λ c p r. (omega (arith, fault_code c), λ d t. (let x = one_tree q t.read in let y = t.defines in never (cc))))
      (λ d r. (
        record { tree = n; read = record { end = e; reads = q; room = leb-true _ _ l }; defines = r },
        λ d₂ t. (let x = one_tree q t.read in let y = t.defines in cc),
      )))
      (λ l. (omega arith, λ d t. no_room q (leb-false _ _ l) t.read)))
