use Rattle.std.proofs.Common.{◌≡◌, drop}
use Rattle.cbor_data.specs.Same.{same_values, same_pairs}
use Rattle.item_nodes.specs.View.{values_view, pairs_view}
use Rattle.item_nodes.proofs.item.+same.Given as goal

-- the two are the same exactly if what is left is
abbrev pub invariant-are_members_same-loop-i : goal.invariant-are_members_same-loop-i
invariant-are_members_same-loop-i l =
    same_values (values_view l.x-items) (values_view l.ys.items) ≡ same_values (values_view (drop l.i l.x-items)) (values_view (drop l.i l.ys.items))

abbrev pub invariant-are_pairs_same-loop-i : goal.invariant-are_pairs_same-loop-i
invariant-are_pairs_same-loop-i l =
    same_pairs (pairs_view l.p-items) (pairs_view l.qs.items) ≡ same_pairs (pairs_view (drop l.i l.p-items)) (pairs_view (drop l.i l.qs.items))
