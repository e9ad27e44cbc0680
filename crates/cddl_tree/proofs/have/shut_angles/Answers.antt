use Rattle.std.proofs.Common.{ap}
use Rattle.tree_nodes.specs.Syntax.Machine as M
use Rattle.cddl_tree.specs.Frames.{view_at_type2, view_type_opening, Gives}
use Rattle.cddl_tree.proofs.Steps.{refused_on, on_same, head_shut, simple_shut, no_angles}
use Rattle.tree_nodes.proofs.Lemmas.{view-SimpleBy}
use Rattle.cddl_tree.proofs.have.shut_angles.Goals as goal

pub returns-in-TagHead : goal.returns-in-TagHead
returns-in-TagHead c read rs b = on_same (view_at_type2 read b c.args.at) (λ (m : M.State). Gives read c.args.token rs b c.want_content.result m) _ _ (head_shut _ _ _ (read c.args.token.leaf) (ap (view_type_opening read) c.in-TagHead.is)) (c.want_content.ensures read c.args.token rs b)

pub returns-in-SimpleHead : goal.returns-in-SimpleHead
returns-in-SimpleHead c read rs b = on_same (view_at_type2 read b c.args.at) (λ (m : M.State). Gives read c.args.token rs b c.have_type2.result m) _ _ (simple_shut _ _ _ (read c.args.token.leaf) _ (ap (view_type_opening read) c.in-SimpleHead.is) (view-SimpleBy read _ _ _)) (c.have_type2.ensures read c.args.token rs b)

pub returns-in_default : goal.returns-in_default
returns-in_default c read rs b = refused_on (view_at_type2 read b c.args.at) c.args.token.start _ _ c.unexpected.ensures (no_angles read _ _ (read c.args.token.leaf) c.in_default.not-TagHead c.in_default.not-SimpleHead)
