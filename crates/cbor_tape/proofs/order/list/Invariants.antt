use Rattle.std.proofs.Common.{◌-◌, ◌≤◌, ℕ, List, length}
use Rattle.cbor_tape.proofs.Listing.{AreLeftOf}
use Rattle.cbor_tape.proofs.order.list.Given as goal

abbrev pub invariant-loop-place : goal.invariant-loop-place
invariant-loop-place l = record {
  left : (b : List ℕ) → AreLeftOf b l.tape l.first l.place l.last l.room l.count;
  within : l.count ≤ length l.room;
}

abbrev pub decreases-loop-place : goal.decreases-loop-place
decreases-loop-place l = l.last - l.place
