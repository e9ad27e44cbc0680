use Rattle.std.proofs.Common.{◌≡◌, ◌++◌, drop, map}
use Rattle.cddl_table.specs.Ranks.{group_rank}
use Rattle.cddl_table.proofs.ranks.group_ranks.Given as goal

abbrev pub invariant-loop-origin : goal.invariant-loop-origin
invariant-loop-origin l = l.all.items ++ map (group_rank l.ranks) (drop l.origin-index l.origins) ≡ map (group_rank l.ranks) l.origins
