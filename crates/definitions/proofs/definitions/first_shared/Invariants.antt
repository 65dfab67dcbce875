-- `first_shared` meets its contract. Invariants: no optional name before those that are left is a required one (`Comparing`), and no required member
-- before those that are left has the name (`Searching`); nothing is shared yet.
use mathlib.Core.Path.{◌≡◌}
use Rattle.std.specs.Prelude.{Ok}
use Rattle.chars.specs.Strings.{characters}
use Rattle.definitions.proofs.definitions.Sharing.{Comparing, Searching}
use Rattle.definitions.proofs.definitions.first_shared.Given as goal

abbrev pub invariant-names : goal.invariant-names
invariant-names l = Comparing l.tree.text.now l.tree.table.now l.required l.optional l.row-iterator × (l.shared ≡ Ok tt)

abbrev pub invariant-loop-other : goal.invariant-loop-other
invariant-loop-other l = Searching l.tree.text.now l.tree.table.now l.required (characters l.key) l.other-iterator × (l.shared ≡ Ok tt)
