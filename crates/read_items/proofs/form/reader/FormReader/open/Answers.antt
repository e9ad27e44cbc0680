use Rattle.std.proofs.Common.{◌≡◌, ◌∷◌, ap, ◌∙◌}
use Rattle.cbor_data.specs.Machine.Machine.{item}
use Rattle.read_items.specs.Form.Stages.{frame_of, stack_of}
use Rattle.read_items.proofs.OfForm.Stacks.{stack_pushed, item_stack}
use Rattle.read_items.proofs.form.reader.FormReader.open.Goals as goal

pub returns-clause-opened : goal.returns-clause-opened
returns-clause-opened c =
    let r = c.self.inside in
    let fs = r.frames.items in
    λ around h. ap item (ap stack_of c.in_ok-push.ensures.items ∙ (stack_pushed fs c.args.frame ∙ ap (λ K. frame_of c.args.frame ∷ K) (item_stack r.stage (stack_of fs) around (c.self.view_is ∙ h))))
