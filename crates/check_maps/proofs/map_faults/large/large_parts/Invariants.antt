use Rattle.std.proofs.Common.{◌≡◌, ◌↔◌, ℕ, Bool, true, List, length, Some, slice_get}
use Rattle.alternatives.specs.declared.Part.{Part}
use Rattle.alternatives.specs.Summaries.{AreSummaries}
use Rattle.check_maps.specs.MapFaults.Large.{IsLarge}
use Rattle.check_maps.proofs.map_faults.large.large_parts.Given as goal

abbrev pub invariant-loop-summary : goal.invariant-loop-summary
invariant-loop-summary l = record {
  all : length l.large.items ≡ l.summary-index;
  told : (parts : List Part) → AreSummaries parts l.summaries → (n : ℕ) (b : Bool) → slice_get l.large.items n ≡ Some b → (b ≡ true) ↔ IsLarge parts n;
}
