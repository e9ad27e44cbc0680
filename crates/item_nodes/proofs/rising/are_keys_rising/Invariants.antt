use Rattle.item_nodes.specs.Apart.{RisesBelow}
use Rattle.item_nodes.specs.InOrder.{keys_det}
use Rattle.item_nodes.proofs.rising.are_keys_rising.Given as goal

abbrev pub invariant-loop-i : goal.invariant-loop-i
invariant-loop-i l = RisesBelow (keys_det l.pairs) l.i
