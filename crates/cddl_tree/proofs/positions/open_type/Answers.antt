use Rattle.tree_nodes.specs.Syntax.Machine as M
use Rattle.cddl_tree.specs.Frames.{view_home, Gives}
use Rattle.cddl_tree.proofs.Steps.{on_all}
use Rattle.cddl_tree.proofs.Closing.{type_opened}
use Rattle.cddl_tree.proofs.positions.open_type.Goals as goal

pub returns-in-Ok : goal.returns-in-Ok
returns-in-Ok c read t rs b = type_opened (view_home read b c.args.home) _ (λ (m : M.State). Gives read t rs b c.want.result m) (c.in-Ok.ensures read b) (c.want.ensures read t rs b)

pub returns-in-Err : goal.returns-in-Err
returns-in-Err c read t rs b = on_all (view_home read b c.args.home) _ (λ k. tt)
