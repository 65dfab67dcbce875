-- What `find` found for a name: the value under it, or that there is none.
use Prim.Native.Nat.{ℕ}
use mathlib.Core.Path.{◌≡◌, refl}
use Rattle.std.specs.Prelude.{Option, Some, None}
use mathlib.Core.List.{List}
use Rattle.model.proofs.Basics.{never, both}
use Rattle.syntax.specs.Tree.{Node, Members, no_member, member}
use Rattle.model.specs.Text.{same}
use Rattle.syntax.specs.Grammar.{name_of}
use Rattle.syntax.specs.Holding.{Placed, PlacedMembers}
use Rattle.rows.specs.Finding.{lookup, Agrees, Finds}
use Rattle.rows.specs.Records.{Rowed, ObjectRow}

-- it lies in the text
lookup_placed : (s key : List ℕ) (ms : Members) (n : Node) → PlacedMembers s ms → lookup s key ms ≡ Some n → Placed s n
lookup_placed s key no_member n p e = never (cc)
lookup_placed s key (member f e m ms) n p q =
    both (λ (x : Option Node). x ≡ Some n → Placed s n) (same key (name_of s f e))
    (λ _ e. (let x : m ≡ n = cc in rw x at p.1))
    (λ _ e. lookup_placed s key ms n p.2 e) q

-- a row that was found, and none
pub record Found (s t key : List ℕ) (ms : Members) (v : ℕ) : Type 0 where
  pub value : Rowed s t v
  pub is : lookup s key ms ≡ Some value.tree

missing : (t : List ℕ) (x : Option Node) → Agrees t None x → x ≡ None
missing t None a = refl
missing t (Some n) a = absurd a

module _ {s t key : List ℕ} {r : ℕ} (o : ObjectRow s t r) where
  found_as : {v : ℕ} (x : Option Node) → lookup s key o.members ≡ x → Agrees t (Some v) x → Found s t key o.members v
  found_as None e a = absurd a
  found_as (Some n) e a = record { value = record { tree = n; holds = a.1; placed = lookup_placed s key o.members n o.placed.2 e }; is = e }

  pub found : {v : ℕ} → Finds s t r key (Some v) → Found s t key o.members v
  found f = found_as (lookup s key o.members) refl (f.tells o)

  pub not_found : Finds s t r key None → lookup s key o.members ≡ None
  not_found f = missing t (lookup s key o.members) (f.tells o)
