use Rattle.std.proofs.Common.{sym, refl, subst, arith}
use Rattle.read_items.specs.Whole.Parts.{IsArgumentAt}
use Rattle.cbor_tape.proofs.Parted.{argument_moves, container_part}
use Rattle.cbor_tape.proofs.parts.container_at.Goals as goal

pub returns-clause-there : goal.returns-clause-there
returns-clause-there c =
    let b = c.args.bytes.now in
    let r = c.argument_at-argument.result in
    let key = c.plain.ensures in
    container_part b c.args.at _ key.kind key.string refl (subst (λ n. IsArgumentAt b c.args.at n r.1) (sym key.argument) (c.argument_at-argument.ensures (omega arith))) (omega arith) (omega arith)

pub returns-clause-on : goal.returns-clause-on
returns-clause-on c =
    let r = c.argument_at-argument.result in
    argument_moves c.args.bytes.now c.args.at r.0 r.1 (c.argument_at-argument.ensures (omega arith)) c.requires
