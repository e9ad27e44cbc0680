use Rattle.std.proofs.Common.{◌∙◌}
use Rattle.cbor_tape.specs.Keys.{mark_of}
use Rattle.cbor_tape.proofs.Walks.{next_pair}
use Rattle.cbor_tape.proofs.keys.after_other.Goals as goal

pub returns-in_default : goal.returns-in_default
returns-in_default c =
    let pair = c.in_ok-pair.pair in
    let other = c.in_ok-other.other in
    next_pair c.args.bytes.now c.args.tape.now c.args.place c.args.last (mark_of c.args.key.now) (mark_of other) pair.head pair.next (c.in_ok-pair.ensures c.args.bytes.now) c.in_ok-other.ensures
    (λ same. c.in_default.not-Equal (c.compare.ensures ∙ same))
