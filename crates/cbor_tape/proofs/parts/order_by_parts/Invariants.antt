use Rattle.std.proofs.Common.{◌-◌, length}
use Rattle.cbor_tape.proofs.Parted.{AreBothOf}
use Rattle.cbor_tape.proofs.parts.order_by_parts.Given as goal

abbrev pub invariant-loop-left : goal.invariant-loop-left
invariant-loop-left l = AreBothOf l.bytes l.fn.at l.fn.other l.at l.other l.left

abbrev pub decreases-loop-left : goal.decreases-loop-left
decreases-loop-left l = length l.bytes - l.at
