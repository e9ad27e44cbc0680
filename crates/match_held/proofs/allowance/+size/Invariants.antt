use Rattle.std.proofs.Common.{◌≡◌, ◌<◌, ◌^◌, drop}
use Rattle.cddl_meaning.specs.Moves.{plus}
use Rattle.cddl_meaning.specs.Size.{values_size, pairs_size}
use Rattle.item_nodes.specs.View.{values_view, pairs_view}
use Rattle.match_held.proofs.allowance.+size.Given as goal

-- what is counted so far and what is left are all
abbrev pub invariant-size_after_items-loop-item : goal.invariant-size_after_items-loop-item
invariant-size_after_items-loop-item l = record {
  within : l.next < 2 ^ 64;
  told : plus l.next (values_size (values_view (drop l.item-index l.item-items))) ≡ plus l.fn.before (values_size (values_view l.item-items));
}

abbrev pub invariant-size_after_pairs-loop-key : goal.invariant-size_after_pairs-loop-key
invariant-size_after_pairs-loop-key l = record {
  within : l.next < 2 ^ 64;
  told : plus l.next (pairs_size (pairs_view (drop l.key-index l.key-items))) ≡ plus l.fn.before (pairs_size (pairs_view l.key-items));
}
