use Rattle.std.proofs.Common.{◌≡◌, drop}
use Rattle.cbor_data.specs.Value.{values_places, pairs_places}
use Rattle.item_nodes.specs.View.{values_view, pairs_view}
use Rattle.cbor_item.specs.Place.Elements.{element_or_rest}
use Rattle.cbor_item.proofs.place.seek.+seek.Given as goal

-- what a search finds in all it finds in what is left
abbrev pub invariant-seek_in_members-loop-item : goal.invariant-seek_in_members-loop-item
invariant-seek_in_members-loop-item l =
    element_or_rest (values_places (values_view (drop l.item-index l.item-items))) l.left ≡ element_or_rest (values_places (values_view l.item-items)) l.fn.place

abbrev pub invariant-seek_in_pairs-loop-key : goal.invariant-seek_in_pairs-loop-key
invariant-seek_in_pairs-loop-key l =
    element_or_rest (pairs_places (pairs_view (drop l.key-index l.key-items))) l.left ≡ element_or_rest (pairs_places (pairs_view l.key-items)) l.fn.place
