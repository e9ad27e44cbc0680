use Rattle.std.proofs.Common.{arith}
use Rattle.cbor_read.proofs.Small.{small_taken, none_is, some_is}
use Rattle.cbor_read.proofs.Turned.{none_fed}
use Rattle.cbor_read.proofs.reader.ItemReader.take_small.Goals as goal

pub returns-clause-taken : goal.returns-clause-taken
returns-clause-taken c =
    let r = c.self.inside in
    let live = none_is r.stopped c.is_some.result c.is_some.ensures c.if-is_some.false in
    small_taken r.limits r.offset r.fed c.args.piece.now r.stopped c.args.self.now c.self.view_is live (none_fed r.limits r.offset r.fed r.count r.work (c.self.invariant live) c.if-self-ne0.false)
    (some_is c.args.piece.now c.is_empty.result c.is_empty.ensures c.if-is_empty.false) (omega (arith, c.if-piece-ge24.false)) (omega arith) (omega (arith, c.if-self.false))
