use Rattle.std.proofs.Common.{◌∷◌, Some, None, sym, ap, ◌∙◌}
use Rattle.read_building.specs.Building as building
use Rattle.item_nodes.specs.View.{values_view, pairs_view}
use Rattle.read_building.specs.Stages.{stack_of}
use Rattle.read_building.specs.declared.frame.Frame.TheVariants.{Array, Map}
use Rattle.read_building.proofs.Stacks.{stack_pushed}
use Rattle.read_building.proofs.stage.open_indefinite.Goals as goal

pub returns-in_ok-push-in-4-clause-next : goal.returns-in_ok-push-in-4-clause-next
returns-in_ok-push-in-4-clause-next c =
    let fs = c.args.frames.now.items in
    ap (λ m. building.open_indefinite m (stack_of fs)) c.in-4.is
    ∙ ap (λ K. Some (building.item K)) (sym (ap stack_of c.in_ok-push-in-4.ensures.items ∙ (stack_pushed fs (Array None c.new.result) ∙ ap (λ xs. building.until (values_view xs) ∷ stack_of fs) c.new.ensures.items)))

pub returns-in_ok-push-in-5-clause-next : goal.returns-in_ok-push-in-5-clause-next
returns-in_ok-push-in-5-clause-next c =
    let fs = c.args.frames.now.items in
    ap (λ m. building.open_indefinite m (stack_of fs)) c.in-5.is
    ∙ ap (λ K. Some (building.item K)) (sym (ap stack_of c.in_ok-push-in-5.ensures.items ∙ (stack_pushed fs (Map None c.new-in-5.result None) ∙ ap (λ ps. building.until_key (pairs_view ps) ∷ stack_of fs) c.new-in-5.ensures.items)))
