-- What is read with at most d brackets open at once is a tree no deeper.
use mathlib.Core.Path.{◌≡◌}
use mathlib.Core.List.{List}
use Prim.Native.Nat.{ℕ, zero, suc}
use Rattle.chars.specs.Bytes.{byte_at}
use Rattle.tokens.specs.Parse.{Parse, refused, parsed}
use Rattle.tokens.specs.Scalars.{first_of}
use Rattle.model.proofs.Basics.{never}
use Rattle.syntax.specs.Tree.{Node, scalar, array, object, Nodes, none, more, add_node, Members, no_member, member, add_member}
use Rattle.syntax.specs.Grammar.{element_at, array_at, member_at, object_at, leaf_at, value_at, read_text}
use Rattle.syntax.proofs.Items.{list_keep}
use Rattle.syntax.proofs.Values.{by_ways, leaf_parsed, element_parsed, array_parsed, member_parsed, object_parsed}
use Rattle.syntax.proofs.Induction.{read_begins}
use Rattle.chars.specs.declared.refusals.Code.TheVariants.{TooDeep}

-- at most d brackets are open at once
abbrev mutual
  pub Shallow : ℕ → Node → Type 0
  Shallow d (scalar k f e) = Unit
  Shallow zero (array f e ns) = ⊥
  Shallow (suc d) (array f e ns) = ShallowAll d ns
  Shallow zero (object f e ms) = ⊥
  Shallow (suc d) (object f e ms) = ShallowMembers d ms

  pub ShallowAll : ℕ → Nodes → Type 0
  ShallowAll d none = Unit
  ShallowAll d (more n ns) = Shallow d n × ShallowAll d ns

  pub ShallowMembers : ℕ → Members → Type 0
  ShallowMembers d no_member = Unit
  ShallowMembers d (member f e n ms) = Shallow d n × ShallowMembers d ms

module _ (d : ℕ) where
  all_add : (ns : Nodes) (n : Node) → ShallowAll d ns → Shallow d n → ShallowAll d (add_node ns n)
  all_add none n h k = (k, tt)
  all_add (more m ns) n h k = (h.0, all_add ns n h.1 k)

  members_add : (ms : Members) (f e : ℕ) (n : Node) → ShallowMembers d ms → Shallow d n → ShallowMembers d (add_member ms f e n)
  members_add no_member f e n h k = (k, tt)
  members_add (member g i m ms) f e n h k = (h.0, members_add ms f e n h.1 k)

module _ (s : List ℕ) where
  leaf_shallow : (d i : ℕ) (n : Node) (e : ℕ) → leaf_at s i ≡ parsed n e → Shallow d n
  leaf_shallow d i n e q = let x = leaf_parsed s q in rw x.1 tt

  module _ (d : ℕ) (v : ℕ → Parse Node) (each : (i : ℕ) (n : Node) (e : ℕ) → v i ≡ parsed n e → Shallow d n) where
    one_more : (before all : Nodes) (i e : ℕ) → ShallowAll d before → element_at v before i ≡ parsed all e → ShallowAll d all
    one_more before all i e g q = let x = element_parsed v before q in rw x.1 (all_add d before x.0 g (each i x.0 e x.2))

    array_shallow : (i : ℕ) (n : Node) (e : ℕ) → array_at v s i ≡ parsed n e → Shallow (suc d) n
    array_shallow i n e q =
        let x = array_parsed v s q in rw x.1 (list_keep 0x5D (element_at v) s (ShallowAll d) one_more none i tt x.0 e x.2)

    member_more : (before all : Members) (i e : ℕ) → ShallowMembers d before → member_at v s before i ≡ parsed all e → ShallowMembers d all
    member_more before all i e g q =
        let x = member_parsed v s before i q in
        rw x.added (members_add d before i x.behind x.node g (each _ x.node e x.value))

    object_shallow : (i : ℕ) (n : Node) (e : ℕ) → object_at v s i ≡ parsed n e → Shallow (suc d) n
    object_shallow i n e q =
        let x = object_parsed v s q in rw x.1 (list_keep 0x7D (member_at v s) s (ShallowMembers d) member_more no_member i tt x.0 e x.2)

  value_shallow : (d i : ℕ) (n : Node) (e : ℕ) → value_at d s i ≡ parsed n e → Shallow d n
  unfolding value_at
  value_shallow zero i n e =
      by_ways (λ x. x ≡ parsed n e → Shallow zero n) (λ j. refused TooDeep j) (λ j. refused TooDeep j) s i (first_of (byte_at s i))
      (λ _ q. never (cc)) (λ _ q. never (cc)) (leaf_shallow zero i n e)
  value_shallow (suc d) i n e =
      let v = value_at d s in
      by_ways (λ x. x ≡ parsed n e → Shallow (suc d) n) (array_at v s) (object_at v s) s i (first_of (byte_at s i))
      (λ _. array_shallow d v (value_shallow d) i n e) (λ _. object_shallow d v (value_shallow d) i n e) (leaf_shallow (suc d) i n e)

  pub read_shallow : (bytes d : ℕ) (n : Node) (e : ℕ) → read_text bytes d s ≡ parsed n e → Shallow d n
  read_shallow bytes d n e q = let b = read_begins bytes d s n e q in value_shallow d _ n b.0 b.1.reads
