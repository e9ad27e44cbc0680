use Rattle.std.proofs.Common.{◌≡◌, ◌++◌, ◌∷◌, [], drop}
use Rattle.cbor_data.specs.Notation.{notation}
use Rattle.cbor_data.specs.Value.{array, pairs}
use Rattle.item_nodes.specs.View.{values_view, pairs_view}
use Rattle.item_nodes.proofs.Commas.{members_from, pairs_from}
use Rattle.item_nodes.proofs.notation.+show.Given as goal

-- what is shown so far and what is left are all
abbrev pub invariant-push_members-loop-i : goal.invariant-push_members-loop-i
invariant-push_members-loop-i l =
    l.out.items ++ (members_from l.i (values_view (drop l.i l.items.items)) ++ 93 ∷ []) ≡ l.fn.out.items ++ notation (array (values_view l.items.items))

abbrev pub invariant-push_pairs-loop-i : goal.invariant-push_pairs-loop-i
invariant-push_pairs-loop-i l =
    l.out.items ++ (pairs_from l.i (pairs_view (drop l.i l.pairs.items)) ++ 125 ∷ []) ≡ l.fn.out.items ++ notation (pairs (pairs_view l.pairs.items))
