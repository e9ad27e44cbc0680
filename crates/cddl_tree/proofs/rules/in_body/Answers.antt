use Rattle.tree_nodes.specs.Syntax.Machine as M
use Rattle.cddl_tree.proofs.rules.in_body.Goals as goal
use Rattle.cddl_tree.specs.Frames.{below, view_now, Gives}
use Rattle.cddl_tree.proofs.Steps.{on_with}
use Rattle.cddl_tree.specs.States.{view_rules, GivesState}

pub returns : goal.returns
returns c read = on_with (view_now read (below read (view_rules read c.args.rules.items) c.args.frames.items) c.args.now.value) (λ (m : M.State). Gives read c.args.token (view_rules read c.args.rules.items) (below read (view_rules read c.args.rules.items) c.step_body-next.new.frames.items) c.step_body-next.result (M.step m c.args.token.kind (read c.args.token.leaf))) (λ (m : M.State). GivesState read c.args.token.start c.after_body.result (M.step m c.args.token.kind (read c.args.token.leaf))) (λ m. (c.after_body.ensures read) (M.step m c.args.token.kind (read c.args.token.leaf))) (c.step_body-next.ensures read (view_rules read c.args.rules.items))
