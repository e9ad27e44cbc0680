use Rattle.std.proofs.Common.{◌≡◌, ◌++◌, drop, map, vec_items}
use Rattle.alternatives.specs.Splices.{ways}
use Rattle.alternatives.proofs.pieces.ways_of.Given as goal

abbrev pub invariant-loop-before : goal.invariant-loop-before
invariant-loop-before l = map vec_items l.alternatives.items ++ ways (map vec_items (drop l.before-index l.first)) (map vec_items l.second) ≡ ways (map vec_items l.first) (map vec_items l.second)
