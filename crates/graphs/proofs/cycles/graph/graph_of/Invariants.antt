use Rattle.std.proofs.Common.{◌≡◌, length}
use Rattle.graphs.specs.Cycles.Links.{AreHeads, AreLinks}
use Rattle.graphs.proofs.cycles.graph.graph_of.Given as goal

abbrev pub invariant-loop-number : goal.invariant-loop-number
invariant-loop-number l = record {
  all : length l.links.items ≡ l.number;
  heads_are : AreHeads l.nodes l.edges l.number l.heads.items;
  links_are : AreLinks l.nodes l.edges l.links.items;
}
