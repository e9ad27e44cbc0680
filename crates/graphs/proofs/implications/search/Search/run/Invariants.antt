use Rattle.graphs.specs.Implications.Search.{IsKept, Nowhere, gap, state}
use Rattle.graphs.proofs.implications.search.Search.run.Given as goal

abbrev pub invariant-loop-fact : goal.invariant-loop-fact
invariant-loop-fact l = IsKept l.rules.facts l.rules.implications.now Nowhere (state l.self)

abbrev pub decreases-loop-fact : goal.decreases-loop-fact
decreases-loop-fact l = gap (state l.self)
