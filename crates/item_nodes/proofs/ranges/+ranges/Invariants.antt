use Rattle.std.proofs.Common.{drop}
use Rattle.cbor_data.specs.Value.{AreInRange, ArePairsInRange}
use Rattle.item_nodes.specs.View.{values_view, pairs_view}
use Rattle.item_nodes.proofs.ranges.+ranges.Given as goal

-- if what is left is in range, all is
abbrev pub invariant-note_members-loop-item : goal.invariant-note_members-loop-item
invariant-note_members-loop-item l = AreInRange (values_view (drop l.item-index l.item-items)) → AreInRange (values_view l.item-items)

abbrev pub invariant-note_pairs-loop-key : goal.invariant-note_pairs-loop-key
invariant-note_pairs-loop-key l = ArePairsInRange (pairs_view (drop l.key-index l.key-items)) → ArePairsInRange (pairs_view l.key-items)
