use Rattle.std.proofs.Common.{◌≤◌, ◌↔◌, drop}
use Rattle.cbor_data.specs.Value.{values_depth, pairs_depth}
use Rattle.item_nodes.specs.View.{values_view, pairs_view}
use Rattle.item_nodes.proofs.depth.+within.Given as goal

-- all are within exactly if what is left is
abbrev pub invariant-are_within-loop-item : goal.invariant-are_within-loop-item
invariant-are_within-loop-item l =
    (values_depth (values_view l.item-items) ≤ l.allowed) ↔ (values_depth (values_view (drop l.item-index l.item-items)) ≤ l.allowed)

abbrev pub invariant-are_pairs_within-loop-key : goal.invariant-are_pairs_within-loop-key
invariant-are_pairs_within-loop-key l =
    (pairs_depth (pairs_view l.key-items) ≤ l.allowed) ↔ (pairs_depth (pairs_view (drop l.key-index l.key-items)) ≤ l.allowed)
