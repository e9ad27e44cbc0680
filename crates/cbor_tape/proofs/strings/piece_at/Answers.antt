use Rattle.std.proofs.Common.{◌≡◌, ◌+◌, ◌-◌, arith, sym, subst, take, drop}
use Rattle.cbor_tape.specs.Contents.{IsPieceAt}
use Rattle.cbor_tape.proofs.Heads.{piece_there}
use Rattle.cbor_tape.proofs.strings.piece_at.Goals as goal

pub returns-clause-there : goal.returns-clause-there
returns-clause-there c =
    let b = c.args.bytes.now in
    let r = c.argument_at-len.result in
    let same : (r.1 + r.0) - r.1 ≡ r.0 = omega arith in
    subst (λ n. IsPieceAt b c.args.at (take n (drop r.1 b)) (r.1 + r.0)) (sym same) (piece_there b c.args.at r.0 r.1 (c.argument_at-len.ensures (omega arith)) (omega arith) (omega (arith, c.type_inv.bytes c.args.at)) (omega arith))
