use Rattle.std.proofs.Common.{drop}
use Rattle.item_nodes.specs.Apart.{AreValuesValid, ArePartsValid}
use Rattle.item_nodes.specs.View.{values_view, pairs_view}
use Rattle.item_nodes.proofs.apart.+surely.Given as goal

-- all are valid if what is left is
abbrev pub invariant-are_members_valid-loop-item : goal.invariant-are_members_valid-loop-item
invariant-are_members_valid-loop-item l = AreValuesValid (values_view (drop l.item-index l.item-items)) → AreValuesValid (values_view l.item-items)

abbrev pub invariant-are_pairs_valid-loop-key : goal.invariant-are_pairs_valid-loop-key
invariant-are_pairs_valid-loop-key l = ArePartsValid (pairs_view (drop l.key-index l.key-items)) → ArePartsValid (pairs_view l.key-items)
