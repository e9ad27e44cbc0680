use Rattle.std.proofs.Common.{length, ◌-◌, ◌≡◌, ◌≤◌, ℕ, ◌<◌, false, get_or}
use Rattle.cddl_explain.specs.Parts.{stops_at}
use Rattle.cddl_explain.proofs.stops.run_end.Given as goal

abbrev pub invariant-byte : goal.invariant-byte
invariant-byte l = record {
  within : (l.from ≤ l.end) × (l.end ≤ length l.text);
  unbroken : (k : ℕ) → l.from ≤ k → k < l.end → stops_at l.stop (get_or l.text k 0) ≡ false;
}

abbrev pub decreases-byte : goal.decreases-byte
decreases-byte l = length l.text - l.end
