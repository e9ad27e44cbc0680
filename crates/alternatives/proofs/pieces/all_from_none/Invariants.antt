use Rattle.std.proofs.Common.{◌≡◌, ◌++◌, drop, map, vec_items}
use Rattle.alternatives.specs.Splices.{from, members}
use Rattle.alternatives.proofs.pieces.all_from_none.Given as goal

abbrev pub invariant-loop-members : goal.invariant-loop-members
invariant-loop-members l = l.all.items ++ map (from 0) (members (map vec_items (drop l.members-index l.alternatives))) ≡ map (from 0) (members (map vec_items l.alternatives))
