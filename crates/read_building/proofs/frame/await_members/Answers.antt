use Rattle.std.proofs.Common.{◌∷◌, ◌-◌, Some, sym, ap, ◌∙◌, arith}
use Rattle.read_building.specs.Building as building
use Rattle.item_nodes.specs.View.{values_view}
use Rattle.read_building.specs.Stages.{stack_of}
use Rattle.read_building.specs.declared.frame.Frame.TheVariants.{Array}
use Rattle.read_building.proofs.Stacks.{stack_pushed}
use Rattle.read_building.proofs.Containers.{ask_some}
use Rattle.read_building.proofs.frame.await_members.Goals as goal

pub returns-clause-next : goal.returns-clause-next
returns-clause-next c =
    let fs = c.args.frames.now.items in
    let n = c.args.count - 1 in
    λ held. ap building.item (ap stack_of c.in_ok-push.ensures.items ∙ stack_pushed fs (Array (Some n) c.new-members.result))
    ∙ (ap (λ xs. building.item (building.member n (values_view xs) ∷ stack_of fs)) c.new-members.ensures.items ∙ sym (ask_some c.args.count (stack_of fs) (omega arith)))
