use Rattle.table_nodes.specs.Indexes.{AreIndexed}
use Rattle.table_nodes.proofs.indexes.push_indexes_of_map.Given as goal

abbrev pub invariant-loop-way : goal.invariant-loop-way
invariant-loop-way l = AreIndexed l.fn.types l.indexes.items
