use Rattle.std.proofs.Common.{refl}
use Rattle.cddl_tree.specs.States.{view_rules}
use Rattle.tree_nodes.specs.View.{view_parm}
use Rattle.cddl_tree.proofs.rules.after_parm.Goals as goal
use Rattle.cddl_tree.proofs.Steps.{refuses}
use Rattle.cddl_tree.proofs.Bodies.{given, parm_other}

pub returns-in-Comma : goal.returns-in-Comma
returns-in-Comma c read = given read c.args.token.start c.new_state.result _ _ c.new_state.ensures (rw c.in-Comma.is refl)

pub returns-in-AngleClose : goal.returns-in-AngleClose
returns-in-AngleClose c read = given read c.args.token.start c.new_state-in-AngleClose.result _ _ c.new_state-in-AngleClose.ensures (rw c.in-AngleClose.is refl)

pub returns-in_default : goal.returns-in_default
returns-in_default c read = refuses c.args.token.start _ _ c.unexpected.ensures (parm_other (view_rules read c.args.rules.items) (read c.args.opening) (view_parm read c.args.parameters) c.args.token.kind (read c.args.token.leaf) c.in_default.not-Comma c.in_default.not-AngleClose)
