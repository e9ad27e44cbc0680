use Rattle.alternatives.specs.Search.{IsKept, Keeps, gap, state}
use Rattle.alternatives.proofs.search.Search.run.Given as goal

abbrev pub invariant-loop-number : goal.invariant-loop-number
invariant-loop-number l = record {
  kept : IsKept l.parts (state l.self);
  keeps : Keeps (state l.fn.self) (state l.self);
}

abbrev pub decreases-loop-number : goal.decreases-loop-number
decreases-loop-number l = gap (state l.self)
