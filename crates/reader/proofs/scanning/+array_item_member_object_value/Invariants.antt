-- The first pass meets its contracts. The loops' invariants are `InArray` and `InObject`; `Lists` has a law for each way out of their bodies.
-- The measure is four times the brackets allowed to open, with three more in `array` and `object`, two in `member` and one in `item`.
use Prim.Native.Nat.{◌-◌}
use lib.ListN.{length}
use Rattle.reader.proofs.scanning.Arrays.{InArray}
use Rattle.reader.proofs.scanning.Objects.{InObject}
use Prim.Native.Nat.{◌*◌, ◌+◌}
use Rattle.reader.proofs.scanning.+array_item_member_object_value.Given as goal

abbrev pub decreases-array : goal.decreases-array
decreases-array l = 4 * l.depth + 3

-- ---- array
abbrev pub invariant-array-loop-scanned : goal.invariant-array-loop-scanned
invariant-array-loop-scanned l =
    InArray l.text l.depth l.at l.row l.initial.heads l.initial.marks l.heads l.marks l.rows l.children l.i

abbrev pub decreases-array-loop-scanned : goal.decreases-array-loop-scanned
decreases-array-loop-scanned l = length l.text - l.i

abbrev pub decreases-item : goal.decreases-item
decreases-item l = 4 * l.depth + 1

abbrev pub decreases-member : goal.decreases-member
decreases-member l = 4 * l.depth + 2

abbrev pub decreases-object : goal.decreases-object
decreases-object l = 4 * l.depth + 3

-- ---- object
abbrev pub invariant-object-loop-scanned : goal.invariant-object-loop-scanned
invariant-object-loop-scanned l =
    InObject l.text l.depth l.at l.row l.initial.heads l.initial.marks l.heads l.marks l.rows l.children l.i

abbrev pub decreases-object-loop-scanned : goal.decreases-object-loop-scanned
decreases-object-loop-scanned l = length l.text - l.i

abbrev pub decreases-value : goal.decreases-value
decreases-value l = 4 * l.depth
