use Rattle.std.proofs.Common.{◌∙◌, ap}
use Rattle.tree_nodes.specs.Syntax.Machine as M
use Rattle.tree_nodes.specs.declared.tree.Type1.{Type1}
use Rattle.tree_nodes.specs.View.{view_type1}
use Rattle.cddl_tree.specs.Frames.{made, view_at_type1, view_now}
use Rattle.cddl_tree.proofs.Steps.{stands_at, on_all}
use Rattle.cddl_tree.proofs.positions.have.Goals as goal

pub returns-in-Ok-new_box : goal.returns-in-Ok-new_box
returns-in-Ok-new_box c read t rs b = stands_at (λ (k : M.AtType1). M.have k (view_type1 read c.args.type1)) (view_at_type1 read b c.args.at.value) _ (ap (view_now read b) c.in-Ok-new_box.ensures.ok ∙ ap (λ (r : Type1). made (λ (k : M.AtType1). M.have k (view_type1 read r)) (view_at_type1 read b c.args.at.value)) c.in-Ok.ensures.ok)

pub returns-in-Err : goal.returns-in-Err
returns-in-Err c read t rs b = on_all (view_at_type1 read b c.args.at.value) _ (λ k. tt)

pub returns-in-Err-new_box : goal.returns-in-Err-new_box
returns-in-Err-new_box c read t rs b = on_all (view_at_type1 read b c.args.at.value) _ (λ k. tt)
