use Rattle.std.proofs.Common.{◌≡◌, length}
use Rattle.graphs.specs.Cycles.Search.{cut}
use Rattle.graphs.proofs.cycles.search.merge.Given as goal

abbrev pub invariant-loop-root : goal.invariant-loop-root
invariant-loop-root l = cut l.position l.roots.items ≡ cut l.position l.fn.roots.items

abbrev pub decreases-loop-root : goal.decreases-loop-root
decreases-loop-root l = length l.roots.items
