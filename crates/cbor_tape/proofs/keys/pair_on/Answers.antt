use Rattle.cbor_tape.proofs.Walks.{pair_there}
use Rattle.cbor_tape.proofs.keys.pair_on.Goals as goal

pub returns : goal.returns
returns c = λ b. pair_there b c.args.tape.now c.args.place c.args.last _ c.requires.place c.if-value-last.false
