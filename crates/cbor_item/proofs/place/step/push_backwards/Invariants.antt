use Rattle.std.proofs.Common.{◌≡◌, ◌++◌, ◌≤◌, length, drop, reverse}
use Rattle.cbor_item.proofs.place.step.push_backwards.Given as goal

-- the bytes from `at` on are put down
abbrev pub invariant-loop-at : goal.invariant-loop-at
invariant-loop-at l = record {
  within : l.at ≤ length l.step;
  put : l.out.items ≡ l.fn.out.items ++ reverse (drop l.at l.step);
}

abbrev pub decreases-loop-at : goal.decreases-loop-at
decreases-loop-at l = l.at
