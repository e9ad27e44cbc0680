use Rattle.std.proofs.Common.{◌≡◌, ◌++◌, drop, map}
use Rattle.graphs.specs.Chains.Steps.{answer}
use Rattle.graphs.proofs.chains.answers.Given as goal

abbrev pub invariant-loop-link : goal.invariant-loop-link
invariant-loop-link l = l.found.items ++ map answer (drop l.link-index l.links) ≡ map answer l.links
