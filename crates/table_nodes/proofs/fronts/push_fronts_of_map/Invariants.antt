use Rattle.table_nodes.specs.Fronts.{AreFronts}
use Rattle.table_nodes.proofs.fronts.push_fronts_of_map.Given as goal

abbrev pub invariant-loop-way : goal.invariant-loop-way
invariant-loop-way l = AreFronts l.fn.types l.fronts.items
