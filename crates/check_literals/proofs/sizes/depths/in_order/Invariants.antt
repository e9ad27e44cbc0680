use Rattle.check_literals.proofs.OfSizes.Ordering.{IsDone}
use Rattle.check_literals.proofs.sizes.depths.in_order.Given as goal

abbrev pub invariant-loop-row : goal.invariant-loop-row
invariant-loop-row l = IsDone l.sources l.order l.row-index l.depths.items
