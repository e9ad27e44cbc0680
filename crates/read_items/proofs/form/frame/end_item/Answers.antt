use Rattle.std.proofs.Common.{◌≡◌, ◌+◌, ◌-◌, ◌<◌, length, take, sym, ap, ◌∙◌, arith}
use Rattle.std.proofs.lemmas.Bool.Decides.{nat_tests}
use Rattle.cbor_data.specs.Machine.Machine as machine
use Rattle.read_items.specs.Form.Stages.{stack_of}
use Rattle.read_items.proofs.OfForm.Stacks.{stack_top, stack_replaced}
use Rattle.read_items.proofs.form.frame.end_item.Goals as goal

pub returns-in-Some : goal.returns-in-Some
returns-in-Some c =
    let fs = c.loop-frames.frames.items in
    let top = c.len-top.result - 1 in
    let some : 0 < length fs = grind (arith, nat_tests) in
    let len : length fs ≡ top + 1 = omega arith in
    ap machine.item (stack_replaced fs top c.in-Some.frame len)
    ∙ (c.in-Some.ensures (stack_of (take top fs)) ∙ (ap machine.give (sym (stack_top fs top c.index.result.now len c.index.ensures)) ∙ c.loop-frames.invariant))

pub loop-frames-preserved : goal.loop-frames-preserved
loop-frames-preserved c =
    let fs = c.loop-frames.frames.items in
    let top = c.len-top.result - 1 in
    let some : 0 < length fs = grind (arith, nat_tests) in
    let len : length fs ≡ top + 1 = omega arith in
    ap (λ gs. machine.give (stack_of gs)) c.truncate.ensures.items
    ∙ (c.in-None.ensures (stack_of (take top fs)) ∙ (ap machine.give (sym (stack_top fs top c.index.result.now len c.index.ensures)) ∙ c.loop-frames.invariant))
