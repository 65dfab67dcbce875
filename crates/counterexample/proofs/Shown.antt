-- The document of L1 is within its limits: the spelling of the witness, for schemas that are accepted.
use Prim.Native.Nat.{ℕ, ◌+◌, ◌*◌, ◌≤◌}
use mathlib.Core.Option.{some}
use mathlib.Core.List.{List}
use native.Mathlib.Omega.{arith}
use lib.ListN.{length}
use Rattle.model.specs.Definition.{Def}
use Rattle.model.specs.Witness.{witness}
use Rattle.syntax.specs.Tree.{Node}
use Rattle.syntax.specs.Spelling.{value_of}
use Rattle.syntax.proofs.Theorems.{read_short}
use Rattle.grammar.proofs.Theorems.{reads_written}
use Rattle.writer.specs.Spell.{spell}
use Rattle.writer.specs.Depth.{depth_of}
use Rattle.writer.proofs.Facts.{text_depth}
use Rattle.writer.proofs.Theorems.{spelled_short}
use Rattle.comparison.specs.Comparing.{Schema}
use Rattle.counterexample.specs.Names.{longest_name, longest_read}
use Rattle.counterexample.proofs.Names.{names_short}
use Rattle.counterexample.proofs.Costs.{size_of, brackets_of, name_of_def, Costs, def_costs}
use Rattle.counterexample.proofs.Small.{Small, witness_small}

-- what a schema, read as the tree n, spends on its definition a
pub record Spends (s : List ℕ) (n : Node) (a : Def) : Type 0 where
  pub size : size_of a ≤ length s
  pub bytes : length s ≤ 16384
  pub depth : brackets_of a ≤ 24
  pub name : name_of_def a ≤ longest_read n

pub spends : {w : ℕ} {s : List ℕ} {a : Def} (x : Schema w s a) → Spends s x.tree a
spends {s = s} {a = a} x =
    let n = x.tree in
    let e = x.read.end in
    let q = x.read.reads in
    let v = value_of s n in
    let c : Costs (length (spell v)) (depth_of v) (longest_name v) (some a) = rw x.defines at (def_costs v) in
    record {
      size = omega (arith, c.0, spelled_short 16384 24 s n e q);
      bytes = read_short 16384 24 s n e q;
      depth = omega (arith, c.1, text_depth 24 s v (reads_written 16384 24 s n e q));
      name = omega (arith, c.2, names_short s 16384 24 n e q);
    }

-- the new schema with the definition a, the old one with b
module _ (new old : List ℕ) (a b : Def) {w₁ w₂ : ℕ} (x : Schema w₁ new a) (y : Schema w₂ old b) where
  small : Small a (size_of b) (name_of_def b) (witness a b)
  small = let u = spends x in witness_small b a (omega (arith, u.size, u.bytes))

  -- its bytes, and its brackets that are open at once
  pub shown_size : (length (spell (witness a b)) ≤ 3 * length new + length old) × (depth_of (witness a b) ≤ 25)
  shown_size = let u = spends x in (omega (arith, small.size, u.size, (spends y).size), omega (arith, small.depth, u.depth))

  -- "Texts within the schema limits always leave room."
  pub fits : length (spell (witness a b)) ≤ 65536
  fits = omega (arith, shown_size.0, (spends x).bytes, (spends y).bytes)

  -- "L1's document must keep to the limit" of 64 bytes in a name (02, L7), where both schemas do
  pub shown_names : longest_read x.tree ≤ 64 → longest_read y.tree ≤ 64 → longest_name (witness a b) ≤ 64
  shown_names g h = omega (arith, small.name, (spends x).name, (spends y).name)
