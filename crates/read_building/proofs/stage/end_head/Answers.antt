use Rattle.std.proofs.Common.{sym, ap, ◌∙◌}
use Rattle.read_building.specs.Building as building
use Rattle.read_building.specs.Stages.{stack_of, major_of}
use Rattle.read_building.specs.declared.frame.Frame.TheVariants.{Tag}
use Rattle.read_building.proofs.Stacks.{stack_pushed}
use Rattle.read_building.proofs.stage.end_head.Goals as goal

pub returns-in_ok-push-in-Tag-clause-next : goal.returns-in_ok-push-in-Tag-clause-next
returns-in_ok-push-in-Tag-clause-next c =
    let fs = c.args.frames.now.items in
    ap building.item (ap stack_of c.in_ok-push-in-Tag.ensures.items ∙ stack_pushed fs (Tag c.args.argument))
    ∙ ap (λ k. building.after c.args.from (major_of k) c.args.argument (stack_of fs)) (sym c.in-Tag.is)
