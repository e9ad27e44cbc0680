use Rattle.std.proofs.Common.{◌≡◌}
use Rattle.check_maps.specs.MapCycles.Edges as by
use Rattle.check_maps.proofs.map_cycles.marks.flags_of.Given as goal

abbrev pub invariant-loop-place : goal.invariant-loop-place
invariant-loop-place l = l.flags.items ≡ by.flags_below l.layout l.marks l.place
