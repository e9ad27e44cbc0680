use Rattle.cbor_read.proofs.Turned.{none_of, end_told}
use Rattle.cbor_read.proofs.reader.ItemReader.at_end.Goals as goal

pub returns : goal.returns
returns c =
    let r = c.self.inside in
    let live = none_of r.stopped c.in_default.not-Some in
    end_told r.limits r.offset r.fed r.count r.stopped r.work c.args.self.now c.fault_at_end.result live c.self.view_is (c.self.invariant live) c.if-self-eq0.false c.fault_at_end.ensures
