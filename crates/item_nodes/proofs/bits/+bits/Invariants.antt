use Rattle.std.proofs.Common.{◌↔◌, drop}
use Rattle.cbor_data.specs.Value.{AreValuesFitting, ArePairsFitting}
use Rattle.item_nodes.specs.View.{values_view, pairs_view}
use Rattle.item_nodes.proofs.bits.+bits.Given as goal

-- it holds of all exactly if it does of what is left
abbrev pub invariant-are_members_fitting-loop-item : goal.invariant-are_members_fitting-loop-item
invariant-are_members_fitting-loop-item l = AreValuesFitting (values_view l.item-items) ↔ AreValuesFitting (values_view (drop l.item-index l.item-items))

abbrev pub invariant-are_pairs_fitting-loop-key : goal.invariant-are_pairs_fitting-loop-key
invariant-are_pairs_fitting-loop-key l = ArePairsFitting (pairs_view l.key-items) ↔ ArePairsFitting (pairs_view (drop l.key-index l.key-items))
