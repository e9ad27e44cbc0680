use Rattle.std.proofs.Common.{◌≡◌, ◌++◌, drop, map, take, vec_items}
use Rattle.alternatives.proofs.pieces.put_behind.Given as goal

abbrev pub invariant-loop-number : goal.invariant-loop-number
invariant-loop-number l = map vec_items l.alternatives.items ≡ map (λ ms. ms ++ l.members) (take l.number (map vec_items l.fn.alternatives.items)) ++ drop l.number (map vec_items l.fn.alternatives.items)
