use Rattle.std.proofs.Common.{◌∙◌, ap}
use Rattle.tree_nodes.specs.Syntax.Machine as M
use Rattle.tree_nodes.specs.declared.tree.GrpEnt.{GrpEnt}
use Rattle.tree_nodes.specs.View.{view_grpent}
use Rattle.cddl_tree.specs.Frames.{made, as_entry, view_now}
use Rattle.cddl_tree.proofs.Steps.{stands_at, on_all}
use Rattle.cddl_tree.proofs.positions.have_group.Goals as goal

pub returns-in-Ok-new_box : goal.returns-in-Ok-new_box
returns-in-Ok-new_box c read t rs b = stands_at (λ (p : M.AtEntry). M.have_group p (view_grpent read c.args.grpent)) (as_entry b) _ (ap (view_now read b) c.in-Ok-new_box.ensures.ok ∙ ap (λ (r : GrpEnt). made (λ (p : M.AtEntry). M.have_group p (view_grpent read r)) (as_entry b)) c.in-Ok.ensures.ok)

pub returns-in-Err : goal.returns-in-Err
returns-in-Err c read t rs b = on_all (as_entry b) _ (λ k. tt)

pub returns-in-Err-new_box : goal.returns-in-Err-new_box
returns-in-Err-new_box c read t rs b = on_all (as_entry b) _ (λ k. tt)
