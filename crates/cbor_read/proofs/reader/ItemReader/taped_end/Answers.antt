use Rattle.std.proofs.Common.{arith}
use Rattle.cbor_read.proofs.Small.{none_is}
use Rattle.cbor_read.proofs.Taped.{tape_next}
use Rattle.cbor_read.proofs.Turned.{none_fed}
use Rattle.cbor_read.proofs.reader.ItemReader.taped_end.Goals as goal

pub returns : goal.returns
returns c =
    let r = c.self.inside in
    let live = none_is r.stopped c.is_some.result c.is_some.ensures c.if-is_some.false in
    tape_next r.limits r.offset c.args.piece.now c.whole_tape.new.tape c.in_ok-length.length c.room_of-room.result c.depth.result c.depth.ensures.value c.in_ok-length.ensures (omega arith) c.room_of-room.ensures (omega (arith, c.if-length-room.false))
    r.fed r.stopped c.args.self.now c.self.view_is live (none_fed r.limits r.offset r.fed r.count r.work (c.self.invariant live) c.if-self-ne0.false)
