use Rattle.std.proofs.Common.{[], subst}
use Rattle.item_nodes.specs.Apart.{AreKeysApart, ArePartsValid}
use Rattle.item_nodes.specs.View.{values_view, pairs_view}
use Rattle.item_nodes.proofs.Differing.{array_valid, pairs_valid}
use Rattle.item_nodes.proofs.Views.{view-Array, view-Map}
use Rattle.item_nodes.proofs.Walks.{pairs_view-end}
use Rattle.item_nodes.proofs.apart.+surely.Goals as goal

pub are_pairs_valid-returns : goal.are_pairs_valid-returns
are_pairs_valid-returns t c sure =
    pairs_valid (pairs_view c.args.pairs.now.items)
    (subst (λ ps. AreKeysApart [] (pairs_view ps)) c.as_slice.ensures.value (c.if-not-are_keys_apart.ensures sure))
    (subst (λ ps. ArePartsValid (pairs_view ps)) c.deref-key-items.ensures.value
    (c.loop-key.invariant (rw (pairs_view-end c.deref-key-items.result.now c.loop-key.key-index c.loop-key-test.false) tt)))

pub is_surely_valid-returns-in-Array : goal.is_surely_valid-returns-in-Array
is_surely_valid-returns-in-Array t c sure =
    rw c.in-Array.is (rw view-Array (array_valid (values_view c.in-Array.items.items) (c.are_members_valid.ensures sure)))

pub is_surely_valid-returns-in-Map : goal.is_surely_valid-returns-in-Map
is_surely_valid-returns-in-Map t c sure = rw c.in-Map.is (rw view-Map (c.are_pairs_valid.ensures sure))
