use Rattle.std.proofs.Common.{◌≡◌, ◌++◌, drop, map}
use Rattle.graphs.specs.Chains.Steps.{joined}
use Rattle.graphs.proofs.chains.join.Given as goal

abbrev pub invariant-loop-link : goal.invariant-loop-link
invariant-loop-link l = l.links.items ++ map (joined l.second) (drop l.link-index l.first) ≡ map (joined l.second) l.first
