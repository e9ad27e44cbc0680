use Rattle.std.proofs.Common.{refl, arith}
use Rattle.cbor_tape.proofs.Parted.{plain_moves, plain_part}
use Rattle.cbor_tape.proofs.parts.part_at.Goals as goal

pub returns-in-Some-clause-there : goal.returns-in-Some-clause-there
returns-in-Some-clause-there c = plain_part c.args.bytes.now c.args.at _ refl c.in-Some.ensures

pub returns-in-Some-clause-on : goal.returns-in-Some-clause-on
returns-in-Some-clause-on c = plain_moves c.args.bytes.now c.args.at c.in-Some.end _ c.in-Some.ensures (omega arith)
