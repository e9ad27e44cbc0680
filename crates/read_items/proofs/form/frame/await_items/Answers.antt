use Rattle.std.proofs.Common.{◌-◌, sym, ap, ◌∙◌, arith}
use Rattle.cbor_data.specs.Machine.Machine as machine
use Rattle.read_items.specs.Form.Stages.{stack_of}
use Rattle.read_items.specs.declared.form.frame.Frame.TheVariants.{Rest}
use Rattle.read_items.proofs.OfForm.Stacks.{stack_pushed}
use Rattle.read_items.proofs.OfForm.Heads.{ask_some}
use Rattle.read_items.proofs.form.frame.await_items.Goals as goal

pub returns : goal.returns
returns c =
    let fs = c.args.frames.now.items in
    ap machine.item (ap stack_of c.in_ok-push.ensures.items ∙ stack_pushed fs (Rest (c.args.count - 1))) ∙ sym (ask_some c.args.count (stack_of fs) (omega arith))
