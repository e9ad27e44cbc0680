use Rattle.std.proofs.Common.{◌≡◌, ◌++◌, drop}
use Rattle.table_nodes.specs.Sizes.{sizes_view}
use Rattle.check_literals.specs.Sizes.Reach.{ranges_of}
use Rattle.check_literals.proofs.sizes.reach.ranges_of.Given as goal

abbrev pub invariant-loop-row : goal.invariant-loop-row
invariant-loop-row l = sizes_view l.ranges.items ++ ranges_of l.sources (drop l.row-index l.rows) ≡ ranges_of l.sources l.rows
