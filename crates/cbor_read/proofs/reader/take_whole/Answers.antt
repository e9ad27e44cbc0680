use Rattle.std.proofs.Common.{arith}
use Rattle.cbor_read.proofs.Fronts.{whole_turns}
use Rattle.cbor_read.proofs.reader.take_whole.Goals as goal

pub returns : goal.returns
returns c =
    whole_turns c.args.limits c.args.offset c.args.count c.args.piece.now c.room_of.result c.depth.result c.front_of-front.result.now c.front_item.result c.if-count-ne0.false (omega arith)
    c.room_of.ensures c.depth.ensures.value c.front_of-front.ensures c.front_item.ensures
