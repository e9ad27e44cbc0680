use Rattle.cbor_tape.proofs.Parted.{higher_major, lower_major}
use Rattle.cbor_tape.proofs.parts.by_majors.Goals as goal

pub returns-then-major-other_major : goal.returns-then-major-other_major
returns-then-major-other_major c = lower_major c.args.bytes.now c.args.at c.args.other c.if-major-other_major.true

pub returns-then-major-other_major-2 : goal.returns-then-major-other_major-2
returns-then-major-other_major-2 c = higher_major c.args.bytes.now c.args.at c.args.other c.if-major-other_major-2.true
