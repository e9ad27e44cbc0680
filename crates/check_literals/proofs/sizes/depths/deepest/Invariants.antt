use Rattle.std.proofs.Common.{◌≡◌, drop, Some}
use Rattle.check_literals.specs.Sizes.Depths.{deeper, deepest}
use Rattle.check_literals.proofs.sizes.depths.deepest.Given as goal

abbrev pub invariant-loop-row : goal.invariant-loop-row
invariant-loop-row l = deeper (Some l.depth) (deepest l.named l.depths (drop l.row-index l.rows)) ≡ deepest l.named l.depths l.rows
