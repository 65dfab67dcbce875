use Prim.Native.Nat.{ℕ}
use mathlib.Core.Path.{sym, ap}
use mathlib.Core.List.{List}
use native.Mathlib.Omega.{arith}
use lib.ListN.{length, get_or}
use lib.Seq.{ext_get_or}
use Rattle.model.proofs.Basics.{same_of}
use Rattle.chars.proofs.strings.Meaning.{other_of}
use Rattle.chars.proofs.strings.equal.Goals as goal

pub returns-then-a-b : goal.returns-then-a-b
returns-then-a-b c = sym (other_of c.args.a.now c.args.b.now (λ e. c.if-a-b.true (ap length e)))

pub returns-then-a-i : goal.returns-then-a-i
returns-then-a-i c =
    sym (other_of c.args.a.now c.args.b.now (λ e. c.if-a-i.true (ap (λ (s : List ℕ). get_or s c.loop-i.i 0) e)))

pub returns : goal.returns
returns c =
    sym (same_of c.args.a.now c.args.b.now (ext_get_or 0 c.args.a.now c.args.b.now c.if-a-b.false (λ k l. c.loop-i.invariant k (omega arith))))
