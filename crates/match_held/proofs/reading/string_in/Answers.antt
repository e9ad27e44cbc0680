use Rattle.std.proofs.Common.{arith}
use Rattle.std.proofs.lemmas.List.{take_rest}
use Rattle.match_held.proofs.Strings.{string_held}
use Rattle.match_held.proofs.reading.string_in.Goals as goal

pub returns : goal.returns
returns c =
    let r = c.argument_at-length.result in
    rw (c.in-OneItem.is, take_rest c.args.bytes.now c.argument_at-length.result.1) (string_held c.args.bytes.now r.0 r.1 (λ i. omega (arith, c.type_inv.bytes i)) (omega arith) (c.argument_at-length.ensures (omega arith)) (omega arith))
