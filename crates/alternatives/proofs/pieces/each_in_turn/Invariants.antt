use Rattle.std.proofs.Common.{◌≡◌, ◌++◌, List, [], drop, map, take, vec_items}
use Rattle.alternatives.specs.declared.Member.{Member}
use Rattle.alternatives.specs.Splices.{from, each_needed}
use Rattle.alternatives.proofs.pieces.each_in_turn.Given as goal

abbrev pub invariant-loop-number : goal.invariant-loop-number
invariant-loop-number l = (ms : List Member) → l.all ≡ map (from 0) ms → map vec_items l.alternatives.items ++ each_needed (take l.number l.all) (drop l.number ms) ≡ each_needed [] ms
