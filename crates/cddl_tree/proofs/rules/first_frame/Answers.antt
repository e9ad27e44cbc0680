use Rattle.std.proofs.Common.{◌∙◌, ◌++◌, ◌∷◌, [], List, ap, refl}
use Rattle.cddl_tree.specs.declared.frames.Frame.{Frame}
use Rattle.cddl_tree.proofs.rules.first_frame.Goals as goal

pub returns-in-Ok : goal.returns-in-Ok
returns-in-Ok c = c.in-Ok.ensures.items ∙ ap (λ (fs : List Frame). fs ++ c.args.frame ∷ []) c.new-frames.ensures.items

pub returns-in-Err : goal.returns-in-Err
returns-in-Err c = refl
