use Rattle.std.proofs.Common.{refl}
use Rattle.cddl_tree.specs.States.{view_rules}
use Rattle.cddl_tree.proofs.rules.next_rule.Goals as goal
use Rattle.cddl_tree.proofs.Steps.{refuses}
use Rattle.cddl_tree.proofs.Bodies.{given, next_other}

pub returns-in-Name : goal.returns-in-Name
returns-in-Name c read = given read c.args.token.start c.new_state.result _ _ c.new_state.ensures (rw c.in-Name.is refl)

pub returns-in-NameOpen : goal.returns-in-NameOpen
returns-in-NameOpen c read = given read c.args.token.start c.new_state-in-NameOpen.result _ _ c.new_state-in-NameOpen.ensures (rw c.in-NameOpen.is refl)

pub returns-in-End : goal.returns-in-End
returns-in-End c read = given read c.args.token.start c.new_state-in-End.result _ _ c.new_state-in-End.ensures (rw c.in-End.is refl)

pub returns-in_default : goal.returns-in_default
returns-in_default c read = refuses c.args.token.start _ _ c.unexpected.ensures (next_other (view_rules read c.args.rules.items) c.args.token.kind (read c.args.token.leaf) c.in_default.not-Name c.in_default.not-NameOpen c.in_default.not-End)
