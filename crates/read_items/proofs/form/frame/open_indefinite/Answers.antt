use Rattle.std.proofs.Common.{Some, refl, sym, ap, ◌∙◌, arith}
use Rattle.cbor_data.specs.Machine.Machine as machine
use Rattle.read_items.specs.Form.Stages.{stack_of}
use Rattle.read_items.specs.declared.form.frame.Frame.TheVariants.{Until, UntilKey}
use Rattle.read_items.proofs.OfForm.Stacks.{stack_pushed}
use Rattle.read_items.proofs.OfForm.Heads.{opened_none}
use Rattle.read_items.proofs.form.frame.open_indefinite.Goals as goal

pub returns-in_ok-push-in-4 : goal.returns-in_ok-push-in-4
returns-in_ok-push-in-4 c =
    let fs = c.args.frames.now.items in
    ap (λ m. machine.open_indefinite m (stack_of fs)) c.in-4.is ∙ ap (λ K. Some (machine.item K)) (sym (ap stack_of c.in_ok-push-in-4.ensures.items ∙ stack_pushed fs Until))

pub returns-in_ok-push-in-5 : goal.returns-in_ok-push-in-5
returns-in_ok-push-in-5 c =
    let fs = c.args.frames.now.items in
    ap (λ m. machine.open_indefinite m (stack_of fs)) c.in-5.is ∙ ap (λ K. Some (machine.item K)) (sym (ap stack_of c.in_ok-push-in-5.ensures.items ∙ stack_pushed fs UntilKey))

pub returns-in_default-2 : goal.returns-in_default-2
returns-in_default-2 c =
    (opened_none c.args.major (stack_of c.args.frames.now.items) (omega arith) (omega arith) (omega arith) (omega arith) (omega arith) (omega arith), refl)
