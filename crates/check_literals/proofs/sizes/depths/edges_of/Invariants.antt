use Rattle.std.proofs.Common.{◌≡◌}
use Rattle.check_literals.specs.Sizes.Depths.{edges_before}
use Rattle.check_literals.proofs.sizes.depths.edges_of.Given as goal

abbrev pub invariant-loop-row : goal.invariant-loop-row
invariant-loop-row l = l.edges.items ≡ edges_before l.sources l.row
