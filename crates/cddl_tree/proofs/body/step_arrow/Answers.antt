use Rattle.std.proofs.Common.{◌∙◌, ap, Some}
use Rattle.tree_nodes.specs.Syntax.Machine as M
use Rattle.tree_nodes.specs.Syntax.Syntax as S
use Rattle.tree_nodes.specs.declared.tree.Type1.{Type1}
use Rattle.tree_nodes.specs.View.{leaf, view_type1}
use Rattle.tree_nodes.proofs.Lemmas.{view-TypeKey}
use Rattle.cddl_tree.proofs.body.step_arrow.Goals as goal
use Rattle.cddl_tree.specs.Frames.{as_entry, Gives}
use Rattle.cddl_tree.proofs.Heads.{arrow_after_cut}
use Rattle.cddl_tree.proofs.Bodies.{refused_at, arrow_other}

pub returns-in-Arrow : goal.returns-in-Arrow
returns-in-Arrow c read rs b = arrow_after_cut (as_entry b) (λ (m : M.State). Gives read c.args.token rs b c.value_at.result m) _ _ _ _ _ (read c.args.token.leaf) c.in-Arrow.is (view-TypeKey read _ _ _ ∙ ap (λ (r : Type1). S.type_key (view_type1 read r) (Some (read c.args.cut)) (read c.args.token.leaf)) c.into_inner.ensures) (c.value_at.ensures read c.args.token rs b)

pub returns-in_default : goal.returns-in_default
returns-in_default c read rs b = refused_at (as_entry b) c.args.token.start _ (λ (p : M.AtEntry). M.step (M.want_arrow p (leaf read c.args.occur) (view_type1 read c.args.type1.value) (read c.args.cut)) c.args.token.kind (read c.args.token.leaf)) c.unexpected.ensures (λ p. arrow_other p _ _ _ _ (read c.args.token.leaf) c.in_default.not-Arrow)
