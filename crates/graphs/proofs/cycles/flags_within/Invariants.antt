use Rattle.std.proofs.Common.{◌≡◌, drop, length}
use Rattle.graphs.specs.Cycles.Links.{flagged, flags_of}
use Rattle.graphs.proofs.cycles.flags_within.Given as goal

abbrev pub invariant-loop-edge : goal.invariant-loop-edge
invariant-loop-edge l = record {
  all : length l.flags.items ≡ length l.numbers;
  rest : flagged l.numbers (drop l.edge-index l.edges) l.flags.items ≡ flags_of l.numbers l.edges;
}
