use Rattle.std.proofs.Common.{◌↔◌, drop}
use Rattle.cbor_data.specs.Value.{AreValuesAssignable, ArePairsAssignable}
use Rattle.item_nodes.specs.View.{values_view, pairs_view}
use Rattle.item_nodes.proofs.simples.+simples.Given as goal

-- it holds of all exactly if it does of what is left
abbrev pub invariant-are_members_assignable-loop-item : goal.invariant-are_members_assignable-loop-item
invariant-are_members_assignable-loop-item l = AreValuesAssignable (values_view l.item-items) ↔ AreValuesAssignable (values_view (drop l.item-index l.item-items))

abbrev pub invariant-are_pairs_assignable-loop-key : goal.invariant-are_pairs_assignable-loop-key
invariant-are_pairs_assignable-loop-key l = ArePairsAssignable (pairs_view l.key-items) ↔ ArePairsAssignable (pairs_view (drop l.key-index l.key-items))
