use Rattle.std.proofs.Common.{arith}
use Rattle.cbor_tape.proofs.OfPlaces.Lemmas.{tag_seen}
use Rattle.cbor_tape.proofs.places.tag_at.Goals as goal

pub returns : goal.returns
returns c = let r = c.argument_at-number.result in tag_seen c.args.bytes.now c.args.head r.0 r.1 (c.argument_at-number.ensures (omega arith))
