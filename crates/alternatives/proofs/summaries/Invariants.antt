use Rattle.std.proofs.Common.{◌≡◌, ◌<◌, ℕ, Some, true, slice_get}
use Rattle.alternatives.specs.Search.{IsEnded, state}
use Rattle.alternatives.proofs.summaries.Given as goal

abbrev pub invariant-loop-number : goal.invariant-loop-number
invariant-loop-number l = record {
  ended : IsEnded l.parts (state l.search);
  seen : (n : ℕ) → n < l.number → slice_get l.search.seen.items n ≡ Some true;
}
