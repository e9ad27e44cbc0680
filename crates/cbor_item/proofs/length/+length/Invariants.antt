use Rattle.std.proofs.Common.{◌≡◌, ◌<◌, ◌^◌, drop, length}
use Rattle.cbor_data.specs.Preferred.{preferred, values_preferred, pairs_preferred}
use Rattle.cbor_data.specs.Value.{array, pairs}
use Rattle.cbor_item.specs.Length.{capped_sum}
use Rattle.item_nodes.specs.View.{values_view, pairs_view}
use Rattle.cbor_item.proofs.length.+length.Given as goal

-- what is counted so far and what is left are all
abbrev pub invariant-count_members-loop-item : goal.invariant-count_members-loop-item
invariant-count_members-loop-item l = record {
  within : l.count < 2 ^ 128;
  told : capped_sum l.count (length (values_preferred (values_view (drop l.item-index l.item-items)))) ≡ capped_sum l.fn.before (length (preferred (array (values_view l.item-items))));
}

abbrev pub invariant-count_pairs-loop-key : goal.invariant-count_pairs-loop-key
invariant-count_pairs-loop-key l = record {
  within : l.count < 2 ^ 128;
  told : capped_sum l.count (length (pairs_preferred (pairs_view (drop l.key-index l.key-items)))) ≡ capped_sum l.fn.before (length (preferred (pairs (pairs_view l.key-items))));
}
