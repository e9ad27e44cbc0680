use Rattle.tree_nodes.proofs.Lemmas.{view-One, view-Operation}
use Rattle.std.proofs.Common.{◌∙◌, ap, sym}
use Rattle.cddl_tree.specs.declared.frames.Left.{Left}
use Rattle.tree_nodes.specs.View.{view_type1, view_type2, view_operator}
use Rattle.tree_nodes.specs.Syntax.Machine as M
use Rattle.cddl_tree.specs.Frames.{view_at_type1, Gives}
use Rattle.cddl_tree.proofs.Steps.{operated_one, operated_two, on_all, refuses}
use Rattle.cddl_tree.proofs.have.want_operand.Goals as goal

pub returns-in-Ok : goal.returns-in-Ok
returns-in-Ok c read rs b = operated_one read (view_at_type1 read b c.args.at.value) c.in-Ok.left _ _ _ (λ (m : M.State). Gives read c.args.token rs b c.want.result m) (ap (λ (l : Left). view_type2 read l.type2.value) c.in-Ok.ensures.ok) (ap (λ (l : Left). view_operator read l.operator) c.in-Ok.ensures.ok) (ap (view_type1 read) (sym c.into_inner.ensures ∙ c.in-One.is) ∙ view-One read _) (c.want.ensures read c.args.token rs b)

pub returns-in-Err : goal.returns-in-Err
returns-in-Err c read rs b = on_all (view_at_type1 read b c.args.at.value) _ (λ k. tt)

pub returns-in-Operation : goal.returns-in-Operation
returns-in-Operation c read rs b = on_all (view_at_type1 read b c.args.at.value) _ (λ k. refuses c.args.token.start _ _ c.unexpected.ensures (operated_two _ _ _ _ _ k (ap (view_type1 read) (sym c.into_inner.ensures ∙ c.in-Operation.is) ∙ view-Operation read _ _ _)))
