use Rattle.std.proofs.Common.{◌≡◌, ℕ, Some, slice_get}
use Rattle.graphs.specs.Implications.Rules.{premises_of}
use Rattle.graphs.specs.Implications.Search.{IsAhead, IsKept, gap, places_left, state}
use Rattle.graphs.proofs.implications.search.Search.visit.Given as goal

abbrev pub invariant-loop-next : goal.invariant-loop-next
invariant-loop-next l = record {
  kept : IsKept l.rules.facts l.rules.implications.now (IsAhead (premises_of l.rules.facts l.rules.implications.now) l.fact l.next) (state l.self);
  there : (place : ℕ) → l.next ≡ Some place → slice_get (premises_of l.rules.facts l.rules.implications.now) place ≡ Some l.fact;
  same : gap (state l.self) ≡ gap (state l.fn.self);
}

abbrev pub decreases-loop-next : goal.decreases-loop-next
decreases-loop-next l = places_left l.next
