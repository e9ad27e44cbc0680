use Rattle.std.proofs.Common.{◌+◌, arith, length-take}
use Rattle.cbor_read.proofs.Turned.{kept_moved}
use Rattle.cbor_read.proofs.reader.ItemReader.feed.Goals as goal

pub invariant_of-self : goal.invariant_of-self
invariant_of-self c =
    let r = c.self.inside in
    let h = rw c.in-Ok-Some.field-0-is at c.in-Ok-Some.ensures in
    let used = c.in-Ok-Some.used in
    λ live. kept_moved r.limits r.offset (r.offset + used) r.fed r.count r.work (omega (arith, h.read.placed, h.within, length-take used c.args.piece.now)) (c.self.invariant live) h.first
