use Rattle.std.proofs.Common.{◌≡◌, ◌++◌, drop, map}
use Rattle.cddl_table.specs.Ranks.{type_rank}
use Rattle.cddl_table.proofs.ranks.type_ranks.Given as goal

abbrev pub invariant-loop-origin : goal.invariant-loop-origin
invariant-loop-origin l = l.all.items ++ map (type_rank l.ranks) (drop l.origin-index l.origins) ≡ map (type_rank l.ranks) l.origins
