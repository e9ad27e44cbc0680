use Rattle.cbor_tape.specs.Contents.{content_size}
use Rattle.std.proofs.Common.{◌+◌}
use Rattle.cbor_tape.proofs.Contents.{AreBothOf}
use Rattle.cbor_tape.proofs.strings.compare_contents.Given as goal

abbrev pub invariant-loop-len : goal.invariant-loop-len
invariant-loop-len l = AreBothOf l.bytes l.fn.content l.fn.other l.content l.other

abbrev pub decreases-loop-len : goal.decreases-loop-len
decreases-loop-len l = content_size l.bytes l.content + content_size l.bytes l.other
