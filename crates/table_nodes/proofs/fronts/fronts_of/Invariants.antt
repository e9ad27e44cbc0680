use Rattle.table_nodes.specs.Fronts.{AreFronts}
use Rattle.table_nodes.proofs.fronts.fronts_of.Given as goal

abbrev pub invariant-loop-number : goal.invariant-loop-number
invariant-loop-number l = AreFronts l.fn.types l.fronts.items
