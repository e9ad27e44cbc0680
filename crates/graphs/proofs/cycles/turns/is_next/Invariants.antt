use Rattle.graphs.specs.Cycles.Turns.{AreBelow, left_at_most}
use Rattle.graphs.proofs.cycles.turns.is_next.Given as goal

abbrev pub invariant-loop-next : goal.invariant-loop-next
invariant-loop-next l = AreBelow l.graph.nodes l.graph.edges.now l.placed l.node l.next

abbrev pub decreases-loop-next : goal.decreases-loop-next
decreases-loop-next l = left_at_most l.next
