use Rattle.std.proofs.Common.{◌≡◌, ◌++◌}
use Rattle.check_maps.specs.MapCycles.Edges as by
use Rattle.check_maps.proofs.map_cycles.edges.push_rows.Given as goal

abbrev pub invariant-loop-row : goal.invariant-loop-row
invariant-loop-row l = l.edges.items ≡ l.initial.edges.items ++ by.rows_edges l.layout l.parts l.targets l.row
