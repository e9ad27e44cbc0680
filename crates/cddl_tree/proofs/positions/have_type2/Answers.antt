use Rattle.std.proofs.Common.{◌∙◌, ap}
use Rattle.tree_nodes.specs.Syntax.Machine as M
use Rattle.tree_nodes.specs.declared.tree.Type2.{Type2}
use Rattle.tree_nodes.specs.View.{view_type2}
use Rattle.cddl_tree.specs.Frames.{view_at_type1, view_at_type2, joined_to, Gives}
use Rattle.cddl_tree.proofs.Steps.{got_joined, on_all}
use Rattle.cddl_tree.proofs.positions.have_type2.Goals as goal

pub returns-in-Ok : goal.returns-in-Ok
returns-in-Ok c read t rs b = got_joined read (view_at_type1 read b c.args.at.at.value) c.args.at.left (λ (m : M.State). Gives read t rs b c.have.result m) _ _ (c.type1_of.ensures read ∙ ap (λ (x : Type2). joined_to read c.args.at.left (view_type2 read x)) c.in-Ok.ensures.ok) (c.have.ensures read t rs b)

pub returns-in-Err : goal.returns-in-Err
returns-in-Err c read t rs b = on_all (view_at_type2 read b c.args.at) _ (λ k. tt)
