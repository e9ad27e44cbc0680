use Rattle.tree_nodes.specs.Syntax.Machine as M
use Rattle.cddl_tree.specs.Frames.{view_at_type2}
use Rattle.cddl_tree.proofs.Steps.{stands_at, on_all}
use Rattle.cddl_tree.proofs.positions.want.Goals as goal

pub returns-in-Ok : goal.returns-in-Ok
returns-in-Ok c read t rs b = stands_at M.want (view_at_type2 read b c.args.at) _ (c.in-Ok.ensures read b)

pub returns-in-Err : goal.returns-in-Err
returns-in-Err c read t rs b = on_all (view_at_type2 read b c.args.at) _ (λ k. tt)
