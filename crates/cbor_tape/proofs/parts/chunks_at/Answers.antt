use Rattle.std.proofs.Common.{◌+◌, sym, refl, subst}
use Rattle.cbor_tape.specs.Contents.{AreSizedAt}
use Rattle.cbor_tape.proofs.Parted.{chunks_part}
use Rattle.cbor_tape.proofs.parts.chunks_at.Goals as goal

pub returns-clause-there : goal.returns-clause-there
returns-clause-there c =
    let b = c.args.bytes.now in
    let r = c.in_ok-len in
    let key = c.plain.ensures in
    chunks_part b c.args.at _ c.requires.initial key.kind key.string refl (subst (λ n. AreSizedAt b (c.args.at + 1) n r.end) (sym key.argument) r.ensures.there)
