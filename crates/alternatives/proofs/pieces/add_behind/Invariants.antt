use Rattle.std.proofs.Common.{◌≡◌, ◌++◌, drop, map, vec_items}
use Rattle.alternatives.specs.Splices.{behind}
use Rattle.alternatives.proofs.pieces.add_behind.Given as goal

abbrev pub invariant-loop-after : goal.invariant-loop-after
invariant-loop-after l = map vec_items l.alternatives.items ++ behind l.before (map vec_items (drop l.after-index l.second)) ≡ map vec_items l.fn.alternatives.items ++ behind l.before (map vec_items l.second)
