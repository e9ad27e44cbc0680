use Rattle.cbor_tape.specs.Keys.{mark_of}
use Rattle.cbor_tape.proofs.Marks.{plain_key}
use Rattle.cbor_tape.proofs.keys.key_at.Goals as goal

pub returns : goal.returns
returns c = plain_key c.args.bytes.now c.args.at c.in_ok-key.field-0-1 (mark_of c.in_ok-key.key) c.in_ok-key.ensures
