use Rattle.std.proofs.Common.{◌≢◌, [], length, take, refl, ap, subst, arith}
use Rattle.item_nodes.specs.View.{view}
use Rattle.cbor_read.specs.Outcomes.{IsOutcome}
use Rattle.cbor_read.specs.Steps.{IsFollowed, IsEnded}
use Rattle.cbor_read.proofs.Following.{open_end}
use Rattle.cbor_read.proofs.Small.{some_is}
use Rattle.cbor_read.proofs.Turned.{front_wrong, front_fault, kept_none}
use Rattle.cbor_read.proofs.Valued.{settled}
use Rattle.cbor_read.proofs.front.read_front.Goals as goal

pub follow-requires : goal.follow-requires
follow-requires c = kept_none c.args.limits c.args.offset c.new.result c.new-work.result (omega arith) c.new.ensures (c.new-work.ensures c.args.limits.depth c.args.offset)

pub returns-in-Open : goal.returns-in-Open
returns-in-Open c =
    let l = c.args.limits in
    let o = c.args.offset in
    let b = c.args.bytes.now in
    let v = c.follow.new.work in
    let followed : IsFollowed l o [] b c.in_ok-follow.field-0 v = subst (λ f. IsFollowed l o f b c.in_ok-follow.field-0 v) c.new.ensures c.in_ok-follow.ensures in
    let not_empty : b ≢ [] = λ e. omega (arith, some_is b c.is_empty.result c.is_empty.ensures c.if-is_empty.false, ap length e) in
    c.fault_at_end.ensures b refl (open_end l o b v (subst (λ s. IsFollowed l o [] b s v) c.in-Open.is followed) not_empty)

pub returns-in-Item : goal.returns-in-Item
returns-in-Item c =
    let l = c.args.limits in
    let o = c.args.offset in
    let b = c.args.bytes.now in
    let v = c.follow.new.work in
    let used = c.in-Whole.used in
    let x = view c.in-Whole.item in
    let followed : IsFollowed l o [] b c.in_ok-follow.field-0 v = subst (λ f. IsFollowed l o f b c.in_ok-follow.field-0 v) c.new.ensures c.in_ok-follow.ensures in
    let ended : IsEnded l o [] b used x v = subst (λ s. IsFollowed l o [] b s v) c.in-Whole.is followed in
    (ended.within, subst (IsOutcome l o (take used b)) c.in-Item.is (settled l o (take used b) x _ ended.reads ended.value c.in_ok-item-in-Whole.ensures))

pub returns-in-Whole : goal.returns-in-Whole
returns-in-Whole c =
    let l = c.args.limits in
    let o = c.args.offset in
    let b = c.args.bytes.now in
    let v = c.follow.new.work in
    let used = c.in-Whole.used in
    let x = view c.in-Whole.item in
    let followed : IsFollowed l o [] b c.in_ok-follow.field-0 v = subst (λ f. IsFollowed l o f b c.in_ok-follow.field-0 v) c.new.ensures c.in_ok-follow.ensures in
    let ended : IsEnded l o [] b used x v = subst (λ s. IsFollowed l o [] b s v) c.in-Whole.is followed in
    front_wrong l o b used c.in-Fault-2.fault (subst (IsOutcome l o (take used b)) c.in-Fault-2.is (settled l o (take used b) x _ ended.reads ended.value c.in_ok-item-in-Whole.ensures))

pub returns : goal.returns
returns c =
    let l = c.args.limits in
    let o = c.args.offset in
    let b = c.args.bytes.now in
    let v = c.follow.new.work in
    let followed : IsFollowed l o [] b c.in_ok-follow.field-0 v = subst (λ f. IsFollowed l o f b c.in_ok-follow.field-0 v) c.new.ensures c.in_ok-follow.ensures in
    front_fault l o b c.in-Fault.used c.in-Fault.fault (subst (λ s. IsFollowed l o [] b s v) c.in-Fault.is followed)
