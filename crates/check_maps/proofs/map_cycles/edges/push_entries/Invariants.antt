use Rattle.std.proofs.Common.{◌≡◌, ◌++◌}
use Rattle.check_maps.specs.MapCycles.Edges as by
use Rattle.check_maps.proofs.map_cycles.edges.push_entries.Given as goal

abbrev pub invariant-loop-place : goal.invariant-loop-place
invariant-loop-place l = l.edges.items ≡ l.initial.edges.items ++ by.entries_edges l.layout l.spliced l.place
