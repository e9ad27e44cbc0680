use Rattle.graphs.specs.Cycles.Turns.{AreNumbered}
use Rattle.graphs.proofs.cycles.turns.by_number.Given as goal

abbrev pub invariant-loop-node : goal.invariant-loop-node
invariant-loop-node l = AreNumbered l.numbers l.node l.sorted.items
