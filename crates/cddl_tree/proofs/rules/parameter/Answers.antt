use Rattle.cddl_tree.proofs.rules.parameter.Goals as goal
use Rattle.cddl_tree.proofs.Steps.{refuses}
use Rattle.cddl_tree.proofs.Bodies.{given, parm_named, awaited_parm}

pub returns-in-Ok : goal.returns-in-Ok
returns-in-Ok c read = given read c.args.token.start c.new_state.result _ _ c.new_state.ensures (parm_named _ _ _ _ c.args.token.kind (read c.args.token.leaf) c.in-Name.is (c.in-Ok.ensures read))

pub returns-in_default : goal.returns-in_default
returns-in_default c read = refuses c.args.token.start _ _ c.unexpected.ensures (awaited_parm _ _ _ _ (read c.args.token.leaf) c.in_default.not-Name)
