use Rattle.std.proofs.Common.{ap}
use Rattle.tree_nodes.specs.Syntax.Machine as M
use Rattle.tree_nodes.specs.View.{view_types}
use Rattle.cddl_tree.specs.Frames.{view_at_type2, view_now}
use Rattle.cddl_tree.proofs.Steps.{stands_at, on_all}
use Rattle.cddl_tree.proofs.positions.want_content.Goals as goal

pub returns-in-Ok : goal.returns-in-Ok
returns-in-Ok c read t rs b = stands_at (λ (k : M.AtType2). M.want_content k (read c.args.opening) (view_types read c.args.head.value) (read c.args.angle)) (view_at_type2 read b c.args.at) _ (ap (view_now read b) c.in-Ok.ensures.ok)

pub returns-in-Err : goal.returns-in-Err
returns-in-Err c read t rs b = on_all (view_at_type2 read b c.args.at) _ (λ k. tt)
