use Rattle.std.proofs.Common.{◌≤◌, ◌-◌, length, take}
use Rattle.cbor_data.specs.Value.{values_of}
use Rattle.cbor_data.specs.Embedded.{EmbedsAll}
use Rattle.cbor_read.proofs.embedding.embedded.Given as goal

abbrev pub invariant-loop-start : goal.invariant-loop-start
invariant-loop-start l = record {
  within : l.start ≤ length l.bytes;
  held : EmbedsAll (take l.start l.bytes) (values_of l.items.items);
}

abbrev pub decreases-loop-start : goal.decreases-loop-start
decreases-loop-start l = length l.bytes - l.start
