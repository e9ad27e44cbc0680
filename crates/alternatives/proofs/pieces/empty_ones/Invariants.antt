use Rattle.std.proofs.Common.{◌≡◌, [], map, replicate, vec_items}
use Rattle.alternatives.proofs.pieces.empty_ones.Given as goal

abbrev pub invariant-loop : goal.invariant-loop
invariant-loop l = map vec_items l.alternatives.items ≡ replicate l.counter []
