use Rattle.std.proofs.Common.{◌≡◌, drop}
use Rattle.check_literals.specs.Sizes.Reach.{state, visited}
use Rattle.check_literals.proofs.sizes.reach.Search.visit.Given as goal

abbrev pub invariant-loop-row : goal.invariant-loop-row
invariant-loop-row l = visited (drop l.row-index l.rows) (state l.self) ≡ visited l.rows (state l.fn.self)
