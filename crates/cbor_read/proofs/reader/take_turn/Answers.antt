use Rattle.std.proofs.Common.{◌++◌, take, subst}
use Rattle.item_nodes.specs.View.{view}
use Rattle.cbor_read.specs.Outcomes.{IsOutcome}
use Rattle.cbor_read.specs.Steps.{IsFollowed, IsEnded}
use Rattle.cbor_read.proofs.Turned.{value_fault}
use Rattle.cbor_read.proofs.Valued.{settled}
use Rattle.cbor_read.proofs.reader.take_turn.Goals as goal

pub returns-in-Item : goal.returns-in-Item
returns-in-Item c =
    let l = c.args.limits in
    let o = c.args.offset in
    let b = c.args.fed.now in
    let piece = c.args.piece.now in
    let used = c.in-Whole.used in
    let x = view c.in-Whole.item in
    let v = c.follow.new.work in
    let ended : IsEnded l o b piece used x v = subst (λ s. IsFollowed l o b piece s v) c.in-Whole.is c.in_ok-follow.ensures in
    let out = settled l o (b ++ take used piece) x _ ended.reads ended.value c.in_ok-item-in-Whole.ensures in
    record { some = ended.some; within = ended.within; read = subst (IsOutcome l o (b ++ take used piece)) c.in-Item.is out; next = ended.next }

pub returns-in-Fault-2 : goal.returns-in-Fault-2
returns-in-Fault-2 c =
    let l = c.args.limits in
    let o = c.args.offset in
    let b = c.args.fed.now in
    let piece = c.args.piece.now in
    let used = c.in-Whole.used in
    let x = view c.in-Whole.item in
    let v = c.follow.new.work in
    let ended : IsEnded l o b piece used x v = subst (λ s. IsFollowed l o b piece s v) c.in-Whole.is c.in_ok-follow.ensures in
    let out = settled l o (b ++ take used piece) x _ ended.reads ended.value c.in_ok-item-in-Whole.ensures in
    value_fault l o b piece used c.in-Fault-2.fault ended.within ended.reads (subst (IsOutcome l o (b ++ take used piece)) c.in-Fault-2.is out)
