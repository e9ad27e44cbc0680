use Rattle.std.proofs.Common.{◌-◌, length}
use Rattle.cbor_tape.proofs.Leaves.{AreChunksRead}
use Rattle.cbor_tape.proofs.leaf.chunks_end.Given as goal

abbrev pub invariant-loop-at : goal.invariant-loop-at
invariant-loop-at l = AreChunksRead l.major l.bytes l.start l.at

abbrev pub decreases-loop-at : goal.decreases-loop-at
decreases-loop-at l = length l.bytes - l.at
