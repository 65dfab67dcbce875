-- Rows: how many one element or member more adds, and which entries.
use mathlib.Core.Path.{◌≡◌, refl}
use mathlib.Core.List.{◌∷◌, ◌++◌, append_assoc, append-nil}
use Prim.Native.Nat.{ℕ, ◌+◌, ◌≤◌, ◌<◌}
use native.Mathlib.Omega.{arith}
use Rattle.syntax.specs.Tree.{Node, scalar, array, object, Nodes, none, more, add_node, Members, no_member, member, add_member}
use Rattle.syntax.specs.Rows.{entry, count, count_members, size, sizes, sizes_members, entries, entries_all, entries_members}

pub size_pos : (n : Node) → 0 < size n
size_pos (scalar k f e) = omega arith
size_pos (array f e ns) = omega arith
size_pos (object f e ms) = omega arith

-- ---- elements

pub sizes_add : (ns : Nodes) (n : Node) → sizes (add_node ns n) ≡ sizes ns + size n
sizes_add none n = omega arith
sizes_add (more m ns) n = omega (arith, sizes_add ns n)

pub count_add : (ns : Nodes) (n : Node) → count (add_node ns n) ≡ count ns + 1
count_add none n = refl
count_add (more m ns) n = omega (arith, count_add ns n)

pub count_few : (ns : Nodes) → count ns ≤ sizes ns
count_few none = omega arith
count_few (more n ns) = omega (arith, size_pos n, count_few ns)

pub entries_all_add : (ns : Nodes) (n : Node) → entries_all (add_node ns n) ≡ entries_all ns ++ entries n
entries_all_add none n = append-nil (entries n)
entries_all_add (more m ns) n = rw (entries_all_add ns n, append_assoc)

-- ---- members

pub sizes_members_add : (ms : Members) (f e : ℕ) (n : Node) → sizes_members (add_member ms f e n) ≡ sizes_members ms + (1 + size n)
sizes_members_add no_member f e n = omega arith
sizes_members_add (member g h m ms) f e n = omega (arith, sizes_members_add ms f e n)

pub count_members_add : (ms : Members) (f e : ℕ) (n : Node) → count_members (add_member ms f e n) ≡ count_members ms + 1
count_members_add no_member f e n = refl
count_members_add (member g h m ms) f e n = omega (arith, count_members_add ms f e n)

pub entries_members_add : (ms : Members) (f e : ℕ) (n : Node) → entries_members (add_member ms f e n) ≡ entries_members ms ++ (entry 9 f e 0 1 ∷ entries n)
entries_members_add no_member f e n = rw append-nil
entries_members_add (member g h m ms) f e n = simp (entries_members_add ms f e n, append_assoc)

pub count_members_few : (ms : Members) → count_members ms ≤ sizes_members ms
count_members_few no_member = omega arith
count_members_few (member f e n ms) = omega (arith, count_members_few ms)
