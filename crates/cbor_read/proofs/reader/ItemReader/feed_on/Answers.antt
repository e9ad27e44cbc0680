use Rattle.std.proofs.Common.{◌+◌, ap, ◌∙◌, subst, arith, length-append, length-take, take}
use Rattle.cbor_read.specs.Reading.{Reading, open_reading}
use Rattle.cbor_read.specs.Turns.{IsTurn}
use Rattle.cbor_read.proofs.Turned.{kept_none, more_answered}
use Rattle.cbor_read.proofs.reader.ItemReader.feed_on.Goals as goal

pub returns-in-More : goal.returns-in-More
returns-in-More c =
    let r = c.self.inside in
    let piece = c.args.piece.now in
    let v = c.take_turn.new.work in
    let live = ap (λ (k : Reading). k.stopped) c.self.view_is ∙ c.requires in
    let turn = subst (λ fed. IsTurn (open_reading r.limits r.offset r.fed) piece fed v) c.in-More.is c.in_ok-take_turn.ensures in
    more_answered r.limits r.offset r.fed piece c.extend.new.self r.stopped v c.args.self.now live c.self.view_is turn c.extend.ensures

pub invariant_of-self-in-Item : goal.invariant_of-self-in-Item
invariant_of-self-in-Item c =
    let r = c.self.inside in
    let piece = c.args.piece.now in
    let v = c.take_turn.new.work in
    let used = c.in-Item.used in
    let live = ap (λ (k : Reading). k.stopped) c.self.view_is ∙ c.requires in
    let k = c.self.invariant live in
    let turn = subst (λ fed. IsTurn (open_reading r.limits r.offset r.fed) piece fed v) c.in-Item.is c.in_ok-take_turn.ensures in
    let o = r.offset + (r.count + used) in
    λ _. kept_none r.limits o c.clear.new.self v (omega (arith, turn.read.placed, turn.within, k.same, length-append r.fed (take used piece), length-take used piece)) c.clear.ensures (turn.next r.limits.depth o)
