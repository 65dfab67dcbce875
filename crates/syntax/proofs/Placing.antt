-- What is read lies within the text, all of it, and is spelled there.
use mathlib.Core.Path.{◌≡◌}
use mathlib.Core.List.{List}
use Prim.Native.Nat.{ℕ}
use Rattle.tokens.specs.Parse.{parsed}
use Rattle.tokens.specs.Spelling.{IsQuoted}
use Rattle.tokens.proofs.Facts.{scalar_spells}
use Rattle.syntax.specs.Tree.{Node, Nodes, none, more, add_node, Members, no_member, member, add_member}
use Rattle.syntax.specs.Grammar.{value_at}
use Rattle.syntax.specs.Holding.{Placed, PlacedAll, PlacedMembers}
use Rattle.syntax.proofs.Induction.{Rule, value_rule}

module _ (s : List ℕ) where
  nodes_placed : (ns : Nodes) (n : Node) → PlacedAll s ns → Placed s n → PlacedAll s (add_node ns n)
  nodes_placed none n h p = (p, tt)
  nodes_placed (more m ns) n h p = (h.0, nodes_placed ns n h.1 p)

  members_placed : (ms : Members) (f e : ℕ) (n : Node) → IsQuoted s f e → PlacedMembers s ms → Placed s n → PlacedMembers s (add_member ms f e n)
  members_placed no_member f e n q h p = (q, p, tt)
  members_placed (member g i m ms) f e n q h p = (h.0, h.1, members_placed ms f e n q h.2 p)

  placing : Rule s (Placed s) (PlacedAll s) (PlacedMembers s)
  placing = record {
    leaf = λ k i e l h q. (l, h, scalar_spells s i e k q);
    elements = λ i e ns l h g. (l, h, g);
    members = λ i e ms l h g. (l, h, g);
    no_element = tt;
    one_element = nodes_placed;
    no_name = tt;
    one_member = λ ms f e n q _. members_placed ms f e n q;
  }

  pub value_placed : (d i e : ℕ) (n : Node) → value_at d s i ≡ parsed n e → Placed s n
  value_placed d i e n q = value_rule placing d i n e q
