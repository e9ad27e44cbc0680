use Rattle.std.proofs.Common.{◌∷◌, ◌-◌, Some, None, sym, ap, ◌∙◌, arith}
use Rattle.read_building.specs.Building as building
use Rattle.item_nodes.specs.View.{pairs_view}
use Rattle.read_building.specs.Stages.{stack_of}
use Rattle.read_building.specs.declared.frame.Frame.TheVariants.{Map}
use Rattle.read_building.proofs.Stacks.{stack_pushed}
use Rattle.read_building.proofs.Containers.{ask_pairs_some}
use Rattle.read_building.proofs.frame.await_pairs.Goals as goal

pub returns-clause-next : goal.returns-clause-next
returns-clause-next c =
    let fs = c.args.frames.now.items in
    let n = c.args.count - 1 in
    λ held. ap building.item (ap stack_of c.in_ok-push.ensures.items ∙ stack_pushed fs (Map (Some n) c.new-pairs.result None))
    ∙ (ap (λ ps. building.item (building.key n (pairs_view ps) ∷ stack_of fs)) c.new-pairs.ensures.items ∙ sym (ask_pairs_some c.args.count (stack_of fs) (omega arith)))
