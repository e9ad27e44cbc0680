use Rattle.std.proofs.Common.{◌≡◌, length}
use Rattle.graphs.specs.Cycles.Turns.{ArePlaced, AreTaken}
use Rattle.graphs.proofs.cycles.turns.taken_in_turn.Given as goal

abbrev pub invariant-loop-numbered : goal.invariant-loop-numbered
invariant-loop-numbered l = record {
  taken : AreTaken l.graph.nodes l.graph.edges.now l.sorted l.numbered-index l.order.items;
  flags : ArePlaced l.placed.items l.order.items;
  all : length l.placed.items ≡ l.graph.nodes;
}
