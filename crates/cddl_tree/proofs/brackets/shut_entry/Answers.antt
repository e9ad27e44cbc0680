use Rattle.std.proofs.Common.{◌∙◌, ap}
use Rattle.tree_nodes.specs.Syntax.Machine as M
use Rattle.tree_nodes.specs.Syntax.Syntax as S
use Rattle.tree_nodes.specs.declared.tree.Types.{Types}
use Rattle.tree_nodes.specs.View.{view_types}
use Rattle.cddl_tree.specs.Frames.{as_entry, Gives}
use Rattle.cddl_tree.proofs.Steps.{on_all}
use Rattle.tree_nodes.proofs.Lemmas.{view-Parens, view-Grouped}
use Rattle.cddl_tree.proofs.Elsewhere.{content_type, content_group, paren_got, paren_have}
use Rattle.cddl_tree.proofs.brackets.shut_entry.Goals as goal

pub returns-in-Ok-type_at : goal.returns-in-Ok-type_at
returns-in-Ok-type_at c read rs b = paren_got (as_entry b) _ _ _ (read c.args.token.leaf) _ _ _ (λ (m : M.State). Gives read c.args.token rs b c.have_type2.result m) (c.in-Ok-type_at.ensures read b) (content_type read _ _ _ c.in-Type.is (c.in-Ok.ensures read)) (view-Parens read _ _ _ ∙ ap (λ (x : Types). S.parens (read c.args.opening) (view_types read x) (read c.args.token.leaf)) c.in-Ok-new_box.ensures.ok) (c.have_type2.ensures read c.args.token rs b)

pub returns-in-Err : goal.returns-in-Err
returns-in-Err c read rs b = on_all (as_entry b) _ (λ p. tt)

pub returns-in-Err-type_at : goal.returns-in-Err-type_at
returns-in-Err-type_at c read rs b = on_all (as_entry b) _ (λ p. tt)

pub returns-in-Group : goal.returns-in-Group
returns-in-Group c read rs b = paren_have (as_entry b) _ _ (read c.args.token.leaf) _ _ _ (λ (m : M.State). Gives read c.args.token rs b c.have_group.result m) (view-Grouped read _ _ _ _) (content_group read _ _ _ c.in-Group.is (c.in-Ok.ensures read)).0 (content_group read _ _ _ c.in-Group.is (c.in-Ok.ensures read)).1 (c.have_group.ensures read c.args.token rs b)

pub returns-in-Err-new_box : goal.returns-in-Err-new_box
returns-in-Err-new_box c read rs b = on_all (as_entry b) _ (λ p. tt)
