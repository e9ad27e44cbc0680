use Rattle.std.proofs.Common.{◌≤◌}
use Rattle.graphs.specs.Implications.Search.{IsKept, state}
use Rattle.graphs.proofs.implications.search.search_of.Given as goal

abbrev pub invariant-loop-implication : goal.invariant-loop-implication
invariant-loop-implication l = IsKept l.facts l.implications (λ k. l.implication-index ≤ k) (state l.search)
