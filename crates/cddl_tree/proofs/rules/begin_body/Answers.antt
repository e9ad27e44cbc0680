use Rattle.std.proofs.Common.{◌∙◌, refl, []}
use Rattle.cddl_tree.proofs.rules.begin_body.Goals as goal
use Rattle.cddl_tree.specs.Frames.{below}
use Rattle.cddl_tree.specs.States.{view_rules}
use Rattle.cddl_tree.proofs.Bodies.{begins, body_begun}

pub returns-in-Ok-now_wants_type : goal.returns-in-Ok-now_wants_type
returns-in-Ok-now_wants_type c read = begins read c.within.result _ _ c.within.ensures (c.in-Ok-now_wants_type.ensures read (below read (view_rules read c.args.rules.items) c.in-Ok.frames.items) ∙ body_begun read (view_rules read c.args.rules.items) [] c.in-Ok.frames.items c.args.frame c.args.home _ refl c.in-Ok.ensures refl)

pub returns-in-Err-now_wants_type : goal.returns-in-Err-now_wants_type
returns-in-Err-now_wants_type c read = refl

pub returns-in-Err : goal.returns-in-Err
returns-in-Err c read = refl
