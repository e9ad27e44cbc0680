use Rattle.std.proofs.Common.{ap}
use Rattle.tree_nodes.specs.Syntax.Machine as M
use Rattle.cddl_tree.specs.Frames.{view_at_type2, view_type_opening, Gives}
use Rattle.tree_nodes.specs.View.{view_types}
use Rattle.cddl_tree.proofs.Steps.{on_all, refused_on, shut_by}
use Rattle.cddl_tree.proofs.Closing.{shut_other}
use Rattle.cddl_tree.proofs.have.shut_types.Goals as goal

pub returns-in-ParenClose : goal.returns-in-ParenClose
returns-in-ParenClose c read rs b = shut_by (view_at_type2 read b c.args.at) (λ (m : M.State). Gives read c.args.token rs b c.shut_parens.result m) (view_type_opening read c.args.opening) (view_types read c.in-Ok.types.value) (view_types read c.args.types) _ _ (read c.args.token.leaf) c.in-ParenClose.is (ap (view_types read) c.in-Ok.ensures.ok) (c.shut_parens.ensures read rs b)

pub returns-in-AngleClose : goal.returns-in-AngleClose
returns-in-AngleClose c read rs b = shut_by (view_at_type2 read b c.args.at) (λ (m : M.State). Gives read c.args.token rs b c.shut_angles.result m) (view_type_opening read c.args.opening) (view_types read c.in-Ok.types.value) (view_types read c.args.types) _ _ (read c.args.token.leaf) c.in-AngleClose.is (ap (view_types read) c.in-Ok.ensures.ok) (c.shut_angles.ensures read rs b)

pub returns-in_default : goal.returns-in_default
returns-in_default c read rs b = refused_on (view_at_type2 read b c.args.at) c.args.token.start _ _ c.unexpected.ensures (λ k. shut_other k _ _ _ (read c.args.token.leaf) c.in_default.not-ParenClose c.in_default.not-AngleClose)

pub returns-in-Err : goal.returns-in-Err
returns-in-Err c read rs b = on_all (view_at_type2 read b c.args.at) _ (λ k. tt)
