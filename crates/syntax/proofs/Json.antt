-- Whatever is read spells a JSON value: its names differ, its strings have scalar values only, its numbers follow the grammar.
use mathlib.Core.Path.{◌≡◌, refl}
use mathlib.Core.List.{List}
use mathlib.Core.Bool.{false}
use Prim.Native.Nat.{ℕ, ◌+◌, ◌-◌}
use Rattle.model.specs.Text.{same}
use Rattle.model.specs.Value.{has_name, IsJson, AreJson, AreMembers}
use Rattle.model.proofs.Basics.{or-false}
use Rattle.tokens.specs.Parse.{parsed}
use Rattle.chars.specs.Strings.{part}
use Rattle.tokens.specs.declared.tokens.Kind.{Kind}
use Rattle.tokens.specs.declared.tokens.Kind.TheVariants.{Null, False, True, Whole, Fractional, Quoted}
use Rattle.tokens.specs.Spelling.{Spells}
use Rattle.tokens.proofs.Facts.{scalar_spells, characters_text}
use Rattle.syntax.specs.Tree.{Node, Nodes, none, more, add_node, Members, no_member, member, add_member}
use Rattle.syntax.specs.Grammar.{name_of, repeated, value_at}
use Rattle.syntax.specs.Spelling.{scalar_of, value_of, values_of, members_of}
use Rattle.syntax.proofs.Induction.{Rule, value_rule}

module _ (s : List ℕ) where
  scalar_json : (k : Kind) (f e : ℕ) → Spells k s f e → IsJson (scalar_of s k f e)
  scalar_json Null f e h = tt
  scalar_json False f e h = tt
  scalar_json True f e h = tt
  scalar_json Whole f e h = h.0
  scalar_json Fractional f e h = h.0
  scalar_json Quoted f e h = characters_text (part s (f + 1) (e - 1))

  nodes_json : (ns : Nodes) (n : Node) → AreJson (values_of s ns) → IsJson (value_of s n) → AreJson (values_of s (add_node ns n))
  nodes_json none n h j = (j, tt)
  nodes_json (more m ns) n h j = (h.0, nodes_json ns n h.1 j)

  module _ (f e : ℕ) (n : Node) where
    -- a name that the members lack and that is not the new one
    still_new : (m : List ℕ) (ms : Members) → has_name m (members_of s ms) ≡ false → same m (name_of s f e) ≡ false
        → has_name m (members_of s (add_member ms f e n)) ≡ false
    still_new m no_member h d = rw d
    still_new m (member g i v ms) h d =
        let x = or-false (same m (name_of s g i)) (has_name m (members_of s ms)) h in rw x.0 (still_new m ms x.1 d)

    members_json : (ms : Members) → repeated s ms (name_of s f e) ≡ false → AreMembers (members_of s ms) → IsJson (value_of s n)
        → AreMembers (members_of s (add_member ms f e n))
    unfolding repeated
    members_json no_member d h j = (characters_text (part s (f + 1) (e - 1)), refl, j, tt)
    members_json (member g i v ms) d h j =
        let x = or-false (same (name_of s g i) (name_of s f e)) (repeated s ms (name_of s f e)) d in
        (h.0, still_new (name_of s g i) ms h.1 x.0, h.2, members_json ms x.1 h.3 j)

  spelling : Rule s (λ n. IsJson (value_of s n)) (λ ns. AreJson (values_of s ns)) (λ ms. AreMembers (members_of s ms))
  spelling = record {
    leaf = λ k i e _ _ q. scalar_json k i e (scalar_spells s i e k q);
    elements = λ i e ns _ _ h. h;
    members = λ i e ms _ _ h. h;
    no_element = tt;
    one_element = nodes_json;
    no_name = tt;
    one_member = λ ms f e n _. members_json f e n ms;
  }

  pub value_json : (d i e : ℕ) (n : Node) → value_at d s i ≡ parsed n e → IsJson (value_of s n)
  value_json d i e n q = value_rule spelling d i n e q
