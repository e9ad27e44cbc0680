use Rattle.std.proofs.Common.{◌≡◌, drop}
use Rattle.item_nodes.specs.View.{values_view, pairs_view}
use Rattle.cbor_item.specs.Place.Paths.{members_paths, pairs_paths}
use Rattle.cbor_item.specs.Place.Elements.{element_or_rest}
use Rattle.cbor_item.proofs.place.path.+path.Given as goal

-- nothing is put down, and what a search finds in all it finds in what is left
abbrev pub invariant-push_member_path-loop-i : goal.invariant-push_member_path-loop-i
invariant-push_member_path-loop-i l = record {
  kept : l.out.items ≡ l.fn.out.items;
  ahead : element_or_rest (members_paths l.i (values_view (drop l.i l.item-items))) l.left ≡ element_or_rest (members_paths 0 (values_view l.item-items)) l.fn.place;
}

abbrev pub invariant-push_pair_path-loop-key : goal.invariant-push_pair_path-loop-key
invariant-push_pair_path-loop-key l = record {
  kept : l.out.items ≡ l.fn.out.items;
  ahead : element_or_rest (pairs_paths (pairs_view (drop l.key-index l.key-items))) l.left ≡ element_or_rest (pairs_paths (pairs_view l.key-items)) l.fn.place;
}
