use Rattle.std.proofs.Common.{None}
use Rattle.graphs.specs.Cycles.Search.{IsSound, Keeps, gap, state}
use Rattle.graphs.proofs.cycles.search.Search.run.Given as goal

abbrev pub invariant-loop-position : goal.invariant-loop-position
invariant-loop-position l = record {
  sound : IsSound l.graph.nodes l.graph.edges.now None (state l.self);
  keeps : Keeps (state l.fn.self) (state l.self);
}

abbrev pub decreases-loop-position : goal.decreases-loop-position
decreases-loop-position l = gap (state l.self)
