use Rattle.std.proofs.Common.{take}
use Rattle.cbor_tape.proofs.Rising.{AreRisen}
use Rattle.cbor_tape.proofs.order.rise.Given as goal

abbrev pub invariant-loop-key : goal.invariant-loop-key
invariant-loop-key l = AreRisen l.bytes (take l.key-index l.keys) l.top
