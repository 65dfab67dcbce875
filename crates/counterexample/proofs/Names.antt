-- A name as a text spells it is never shorter than as it is written.
use Prim.Native.Nat.{ℕ, ◌+◌, ◌-◌, ◌≤◌, max}
use mathlib.Core.Path.{◌≡◌}
use mathlib.Core.List.{List}
use native.Mathlib.Omega.{arith}
use lib.ListN.{length}
use Rattle.tokens.specs.Parse.{parsed}
use Rattle.tokens.specs.Space.{skip}
use Rattle.tokens.specs.Spelling.{IsQuoted}
use Rattle.tokens.specs.declared.tokens.Kind.{Kind}
use Rattle.tokens.specs.declared.tokens.Kind.TheVariants.{Null, False, True, Whole, Fractional, Quoted}
use Rattle.tokens.proofs.Facts.{quoted_characters}
use Rattle.syntax.specs.Tree.{Node, Nodes, none, more, add_node, Members, no_member, member, add_member}
use Rattle.syntax.specs.Grammar.{name_of, read_text}
use Rattle.syntax.specs.Spelling.{scalar_of, value_of, values_of, members_of}
use Rattle.syntax.proofs.Facts.{Rule, value_rule, read_begins}
use Rattle.writer.specs.Spell.{spell_chars}
use Rattle.writer.proofs.Facts.{chars_fit}
use Rattle.counterexample.specs.Names.{longest_name, longest_of_all, longest_of_members, longest_read, longest_read_in, longest_read_under}

-- `omega` takes few of these at once
each_of : (x y z m : ℕ) → max x (max y z) ≤ m → (x ≤ m) × (y ≤ m) × (z ≤ m)
each_of x y z m h = omega arith

pub all_three : (x y z m : ℕ) → x ≤ m → y ≤ m → z ≤ m → max x (max y z) ≤ m
all_three x y z m a b c = omega arith

module _ (s : List ℕ) where
  leaf_names : (k : Kind) (i e : ℕ) → longest_name (scalar_of s k i e) ≤ 0
  leaf_names Null i e = omega arith
  leaf_names False i e = omega arith
  leaf_names True i e = omega arith
  leaf_names Whole i e = omega arith
  leaf_names Fractional i e = omega arith
  leaf_names Quoted i e = omega arith

  -- ---- elements

  in_add : (ns : Nodes) (n : Node) → longest_read_in (add_node ns n) ≡ max (longest_read_in ns) (longest_read n)
  in_add none n = omega arith
  in_add (more m ns) n = omega (arith, in_add ns n)

  all_add : (ns : Nodes) (n : Node) → longest_of_all (values_of s (add_node ns n)) ≡ max (longest_of_all (values_of s ns)) (longest_name (value_of s n))
  all_add none n = omega arith
  all_add (more m ns) n = omega (arith, all_add ns n)

  -- ---- members

  module _ (k : ℕ) where
    under_most : (ms : Members) (f e : ℕ) (n : Node) → longest_read_under (add_member ms f e n) ≤ k
        → (longest_read_under ms ≤ k) × (e - f - 2 ≤ k) × (longest_read n ≤ k)
    under_most no_member f e n h = let x = each_of (e - f - 2) (longest_read n) 0 k h in (omega arith, x.0, x.1)
    under_most (member g i m ms) f e n h =
        let x = each_of (i - g - 2) (longest_read m) (longest_read_under (add_member ms f e n)) k h in
        let y = under_most ms f e n x.2 in
        (all_three (i - g - 2) (longest_read m) (longest_read_under ms) k x.0 x.1 y.0, y.1, y.2)

    members_most : (ms : Members) (f e : ℕ) (n : Node) → longest_of_members (members_of s ms) ≤ k → length (spell_chars (name_of s f e)) ≤ k
        → longest_name (value_of s n) ≤ k → longest_of_members (members_of s (add_member ms f e n)) ≤ k
    members_most no_member f e n h a b = all_three (length (spell_chars (name_of s f e))) (longest_name (value_of s n)) 0 k a b (omega arith)
    members_most (member g i m ms) f e n h a b =
        let w = length (spell_chars (name_of s g i)) in
        let x = each_of w (longest_name (value_of s m)) (longest_of_members (members_of s ms)) k h in
        all_three w (longest_name (value_of s m)) (longest_of_members (members_of s (add_member ms f e n))) k x.0 x.1 (members_most ms f e n x.2 a b)

  name_short : (f e : ℕ) → IsQuoted s f e → length (spell_chars (name_of s f e)) ≤ e - f - 2
  name_short f e q = rw (quoted_characters q) (omega (arith, chars_fit s (f + 1) e q.ends))

  -- ---- trees

  names_rule : (k : ℕ) → Rule s (λ n. longest_read n ≤ k → longest_name (value_of s n) ≤ k) (λ ns. longest_read_in ns ≤ k → longest_of_all (values_of s ns) ≤ k)
      (λ ms. longest_read_under ms ≤ k → longest_of_members (members_of s ms) ≤ k)
  names_rule k = record {
    leaf = λ c i e _ _ _ _. omega (arith, leaf_names c i e);
    elements = λ i e ns _ _ h. h;
    members = λ i e ms _ _ h. h;
    no_element = λ h. omega arith;
    one_element = λ ns n h g l. let x = in_add ns n in omega (arith, all_add ns n, h (omega arith), g (omega arith));
    no_name = λ h. omega arith;
    one_member = λ ms f e n q _ h g l. let x = under_most k ms f e n l in members_most k ms f e n (h x.0) (omega (arith, name_short f e q, x.1)) (g x.2);
  }

  pub names_short : (bytes depth : ℕ) (n : Node) (e : ℕ) → read_text bytes depth s ≡ parsed n e → longest_name (value_of s n) ≤ longest_read n
  names_short bytes depth n e q =
      let b = read_begins bytes depth s n e q in
      value_rule (names_rule (longest_read n)) depth (skip s 0) n b.0 b.1.reads (omega arith)
