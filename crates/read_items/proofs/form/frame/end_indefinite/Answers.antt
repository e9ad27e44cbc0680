use Rattle.std.proofs.Common.{◌≡◌, ◌+◌, ◌-◌, ◌<◌, length, take, Some, refl, sym, ap, ◌∙◌, arith}
use Rattle.std.proofs.lemmas.Bool.Decides.{nat_tests}
use Rattle.cbor_data.specs.Machine.Machine as machine
use Rattle.read_items.specs.Form.Stages.{stack_of}
use Rattle.read_items.proofs.OfForm.Stacks.{stack_top}
use Rattle.read_items.proofs.OfForm.Heads.{break_ends, break_stays}
use Rattle.read_items.proofs.form.frame.end_indefinite.Goals as goal

pub returns-in-Until : goal.returns-in-Until
returns-in-Until c =
    let fs = c.args.frames.now.items in
    let top = c.len-top.result - 1 in
    let some : 0 < length fs = grind (arith, nat_tests) in
    let len : length fs ≡ top + 1 = omega arith in
    let f = c.index.result.now in
    ap machine.break (stack_top fs top f len c.index.ensures)
    ∙ (break_ends f (stack_of (take top fs)) c.in-Until.is ∙ ap Some (ap (λ gs. machine.give (stack_of gs)) (sym c.truncate.ensures.items) ∙ sym c.end_item.ensures))

pub returns-in-Rest : goal.returns-in-Rest
returns-in-Rest c =
    let fs = c.args.frames.now.items in
    let top = c.len-top.result - 1 in
    let some : 0 < length fs = grind (arith, nat_tests) in
    let len : length fs ≡ top + 1 = omega arith in
    let f = c.index.result.now in
    (ap machine.break (stack_top fs top f len c.index.ensures) ∙ break_stays f (stack_of (take top fs)) c.in-Rest.is, refl)
