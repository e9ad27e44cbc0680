use Rattle.std.proofs.Common.{sym, arith, ◌∙◌}
use Rattle.cbor_tape.proofs.Contents.{empty, none_seen, more_seen, told_here, told_same}
use Rattle.cbor_tape.proofs.strings.compare_contents.Goals as goal

pub loop-len-init : goal.loop-len-init
loop-len-init c = none_seen c.args.bytes.now c.args.content c.args.other c.in_ok-content.content c.in_ok-other.other c.in_ok-content.ensures.there c.in_ok-other.ensures.there

pub returns-in_default : goal.returns-in_default
returns-in_default c =
    let l = c.loop-len in
    told_here c.args.bytes.now c.args.content c.args.other l.content l.other c.min-len.result c.cmp.result (omega (arith, c.min-len.ensures)) (omega (arith, c.min-len.ensures)) (sym c.cmp.ensures) c.in_default.not-Equal l.invariant

pub loop-len-preserved : goal.loop-len-preserved
loop-len-preserved c =
    let l = c.loop-len in
    more_seen c.args.bytes.now c.args.content c.args.other l.content l.other c.in_ok-content-2.content c.in_ok-other-2.other c.min-len.result (sym c.cmp.ensures ∙ c.in-Equal.is) c.in_ok-content-2.ensures.there c.in_ok-other-2.ensures.there l.invariant

pub returns-then-is_empty-2 : goal.returns-then-is_empty-2
returns-then-is_empty-2 c =
    let l = c.loop-len in
    told_same c.args.bytes.now c.args.content c.args.other l.content l.other (empty l.content.front.now c.if-is_empty.ensures) (empty l.other.front.now c.if-is_empty-2.ensures) l.invariant
