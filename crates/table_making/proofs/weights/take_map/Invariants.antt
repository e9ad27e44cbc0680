use Rattle.std.proofs.Common.{◌≡◌, ◌+◌, take}
use Rattle.table_making.specs.Weights.{map_parts}
use Rattle.table_making.proofs.weights.take_map.Given as goal

abbrev pub invariant-loop-entries : goal.invariant-loop-entries
invariant-loop-entries l = l.room + map_parts (take l.entries-index l.alternatives) ≡ l.fn.room
