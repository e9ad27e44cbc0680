use Rattle.table_nodes.specs.Indexes.{AreIndexed}
use Rattle.table_nodes.proofs.indexes.indexes_of.Given as goal

abbrev pub invariant-loop-number : goal.invariant-loop-number
invariant-loop-number l = AreIndexed l.fn.types l.indexes.items
