use Rattle.cbor_tape.proofs.Rising.{apart_listed}
use Rattle.cbor_tape.proofs.order.differ.Goals as goal

pub returns : goal.returns
returns c = λ t ms listed. apart_listed c.args.bytes.now ms c.args.keys.now c.sort.new.keys listed c.sort.ensures (c.rise.ensures t)
