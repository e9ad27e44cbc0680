use Rattle.std.proofs.Common.{map}
use Rattle.item_nodes.specs.Apart.{RisesBelow}
use Rattle.item_nodes.proofs.apart.is_ascending.Given as goal

abbrev pub invariant-loop-i : goal.invariant-loop-i
invariant-loop-i l = RisesBelow (map (λ s. s.now) l.strings) l.i
