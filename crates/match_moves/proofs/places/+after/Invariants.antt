use Rattle.std.proofs.Common.{◌≡◌, ◌<◌, ◌^◌, drop}
use Rattle.cbor_data.specs.Value.{values_place_count, pairs_place_count}
use Rattle.item_nodes.specs.View.{values_view, pairs_view}
use Rattle.cddl_meaning.specs.Moves.{plus}
use Rattle.match_moves.proofs.places.+after.Given as goal

-- what is counted so far and what is left are all
abbrev pub invariant-place_after_items-loop-item : goal.invariant-place_after_items-loop-item
invariant-place_after_items-loop-item l = record {
  within : l.next < 2 ^ 64;
  told : plus l.next (values_place_count (values_view (drop l.item-index l.item-items))) ≡ plus l.fn.place (values_place_count (values_view l.item-items));
}

abbrev pub invariant-place_after_pairs-loop-key : goal.invariant-place_after_pairs-loop-key
invariant-place_after_pairs-loop-key l = record {
  within : l.next < 2 ^ 64;
  told : plus l.next (pairs_place_count (pairs_view (drop l.key-index l.key-items))) ≡ plus l.fn.place (pairs_place_count (pairs_view l.key-items));
}
