use Rattle.std.proofs.Common.{arith}
use Rattle.std.proofs.lemmas.Option.{IfSome_then}
use Rattle.cbor_tape.specs.Parts.{IsTapedAt, next_at}
use Rattle.cbor_tape.proofs.Entries.{whole_taped}
use Rattle.cbor_tape.proofs.item.whole_tape.Goals as goal

pub returns : goal.returns
returns c =
    let b = c.args.bytes.now in
    let new = c.item_at.new.tape in
    IfSome_then c.item_at.result {P = λ end. IsTapedAt c.min.result b 0 0 c.args.tape.now new end (next_at new 0)} c.item_at.ensures
    (λ end t. whole_taped c.min.result c.args.depth b c.args.tape.now new end (next_at new 0) (omega (arith, c.min.ensures)) t)
