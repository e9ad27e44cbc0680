use Rattle.graphs.specs.Cycles.Search.{AreSeen, IsAtEnd, state}
use Rattle.graphs.proofs.cycles.search.numbers_of.Given as goal

abbrev pub invariant-loop-node : goal.invariant-loop-node
invariant-loop-node l = record {
  at_end : IsAtEnd l.graph.nodes l.graph.edges.now (state l.search);
  seen : AreSeen l.node l.search.marks.items;
}
