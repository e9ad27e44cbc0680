use Rattle.std.proofs.Common.{◌≡◌, ◌++◌, drop, map}
use Rattle.cddl_table.specs.Ranks.{place_of}
use Rattle.cddl_table.proofs.order.places.Given as goal

abbrev pub invariant-loop-rank : goal.invariant-loop-rank
invariant-loop-rank l = l.all.items ++ map (place_of l.used) (drop l.rank-index l.ranks) ≡ map (place_of l.used) l.ranks
