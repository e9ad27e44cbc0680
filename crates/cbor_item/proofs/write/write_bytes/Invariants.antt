use Rattle.std.proofs.Common.{length, ◌-◌, ◌≡◌, ◌≤◌, take}
use Rattle.std.specs.Io.KnownBytes.{Appends}
use Rattle.item_nodes.specs.Counted.{device_of, failures_of}
use Rattle.cbor_item.proofs.write.write_bytes.Given as goal

-- the bytes before `at` went out, and no write failed
abbrev pub invariant-loop-at : goal.invariant-loop-at
invariant-loop-at g l = record {
  within : l.at ≤ length l.bytes;
  gone : Appends (g.W.Write.contents (device_of l.fn.out)) (g.W.Write.contents (device_of l.out)) (take l.at l.bytes);
  count : failures_of l.out ≡ failures_of l.fn.out;
}

abbrev pub decreases-loop-at : goal.decreases-loop-at
decreases-loop-at g l = length l.bytes - l.at
