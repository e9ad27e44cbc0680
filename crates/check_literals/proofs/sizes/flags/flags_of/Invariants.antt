use Rattle.std.proofs.Common.{◌≡◌, ◌++◌, drop, map}
use Rattle.check_literals.specs.Sizes.Depths.{is_few}
use Rattle.check_literals.proofs.sizes.flags.flags_of.Given as goal

abbrev pub invariant-loop-depth : goal.invariant-loop-depth
invariant-loop-depth l = l.flags.items ++ map is_few (drop l.depth-index l.depths) ≡ map is_few l.depths
