use Rattle.std.proofs.Common.{◌≡◌, ◌≤◌, ◌-◌, ◌++◌, take, length}
use Rattle.hex.specs.Hex.{encode_lower}
use Rattle.item_nodes.proofs.notation.push_hex.Given as goal

-- the digits of the bytes before `at` are pushed
abbrev pub invariant-loop-at : goal.invariant-loop-at
invariant-loop-at l = record {
  within : l.at ≤ length l.bytes;
  pushed : l.out.items ≡ l.fn.out.items ++ encode_lower (take l.at l.bytes);
}

abbrev pub decreases-loop-at : goal.decreases-loop-at
decreases-loop-at l = length l.bytes - l.at
