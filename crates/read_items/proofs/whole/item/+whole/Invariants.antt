use Rattle.std.proofs.Common.{◌+◌, ◌-◌, ◌*◌, length}
use Rattle.read_items.proofs.OfWhole.Members.{AreRead, ArePairsRead}
use Rattle.read_items.proofs.whole.item.+whole.Given as goal

abbrev pub decreases-item_at : goal.decreases-item_at
decreases-item_at l = 4 * l.depth + 2

abbrev pub decreases-item_to_break : goal.decreases-item_to_break
decreases-item_to_break l = 4 * l.depth + 1

abbrev pub decreases-push_member : goal.decreases-push_member
decreases-push_member l = 4 * l.depth + 3

abbrev pub decreases-array : goal.decreases-array
decreases-array l = 4 * l.depth

abbrev pub decreases-map : goal.decreases-map
decreases-map l = 4 * l.depth

abbrev pub decreases-tag : goal.decreases-tag
decreases-tag l = 4 * l.depth

abbrev pub invariant-array-loop-alloc : goal.invariant-array-loop-alloc
invariant-array-loop-alloc l = AreRead (l.depth - 1) l.bytes l.start l.at l.items.items

abbrev pub decreases-array-loop-alloc : goal.decreases-array-loop-alloc
decreases-array-loop-alloc l = length l.bytes - l.at

abbrev pub invariant-map-loop-alloc : goal.invariant-map-loop-alloc
invariant-map-loop-alloc l = ArePairsRead (l.depth - 1) l.bytes l.start l.at l.pairs.items

abbrev pub decreases-map-loop-alloc : goal.decreases-map-loop-alloc
decreases-map-loop-alloc l = length l.bytes - l.at
