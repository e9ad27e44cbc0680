use Rattle.std.proofs.Common.{◌≡◌, ◌+◌, ◌-◌, ℕ, sym, subst, arith, ◌∙◌}
use Rattle.std.proofs.lemmas.Option.{IfSome_then}
use Rattle.cbor_tape.proofs.Parted.{AreBothOf, both_left, parts_differ, parts_same, told_next}
use Rattle.cbor_tape.proofs.parts.order_by_parts.Goals as goal

pub loop-left-init : goal.loop-left-init
loop-left-init c = both_left c.args.bytes.now c.args.at c.args.other

pub returns-in_default : goal.returns-in_default
returns-in_default c =
    let l = c.loop-left in
    IfSome_then c.by_majors.result c.by_majors.ensures (λ o told. told_next c.args.bytes.now c.args.at c.args.other l.at l.other l.left o c.loop-left-test.true told l.invariant)

pub returns-in_default-2 : goal.returns-in_default-2
returns-in_default-2 c =
    let l = c.loop-left in
    let both = c.in-Some-Some in
    parts_differ c.args.bytes.now c.args.at c.args.other l.at l.other l.left both.part both.other_part c.in_ok-order.order c.loop-left-test.true both.ensures.there both.ensures'.there c.in_ok-order.ensures c.in_default-2.not-Equal l.invariant

pub loop-left-preserved : goal.loop-left-preserved
loop-left-preserved c =
    let l = c.loop-left in
    let both = c.in-Some-Some in
    let count = c.in_ok-count.count in
    let sum : (l.left - 1) + count ≡ c.in_ok-left.left = omega (arith, c.in_ok-left.ensures) in
    subst (λ (n : ℕ). AreBothOf c.args.bytes.now c.args.at c.args.other both.part.end both.other_part.end n) sum
    (parts_same c.args.bytes.now c.args.at c.args.other l.at l.other l.left count both.part both.other_part c.in_ok-order.order c.loop-left-test.true both.ensures.there both.ensures'.there c.in_ok-order.ensures c.in-Equal.is (sym c.inside.ensures ∙ c.in_ok-count.was) l.invariant)
