use Rattle.std.proofs.Common.{◌≡◌, ◌++◌, drop}
use Rattle.check_maps.specs.Spliced.Steps.{edges_of}
use Rattle.check_maps.proofs.spliced.edges.edges_of.Given as goal

abbrev pub invariant-loop-way : goal.invariant-loop-way
invariant-loop-way l = l.edges.items ++ edges_of (drop l.way-index l.ways) ≡ edges_of l.ways
