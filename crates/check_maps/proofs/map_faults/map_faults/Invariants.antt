use Rattle.std.proofs.Common.{◌≡◌, ℕ, length, Some, slice_get}
use Rattle.alternatives.specs.Summaries.{AreSummaries}
use Rattle.check_maps.specs.declared.map_faults.MapFaults.{MapFaults}
use Rattle.check_maps.specs.MapFaults.Large.{HasPartFaults}
use Rattle.check_maps.proofs.map_faults.map_faults.Given as goal

abbrev pub invariant-loop-number : goal.invariant-loop-number
invariant-loop-number l = record {
  all : length l.faults.items ≡ l.number;
  told : AreSummaries l.parts l.summaries → (n : ℕ) (f : MapFaults) → slice_get l.faults.items n ≡ Some f → HasPartFaults l.parts n f;
}
