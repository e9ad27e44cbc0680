use Rattle.cddl_tree.proofs.Elsewhere.{left_position, first_position}
use Rattle.cddl_tree.proofs.open.entry_head.Goals as goal

pub returns-in-Some : goal.returns-in-Some
returns-in-Some c read b = left_position read b c.args.at.now _ c.in-Some.is

pub returns-in-None : goal.returns-in-None
returns-in-None c read = first_position read c.start_of.result c.args.at.now c.deref.result.now c.in-None.is c.deref.ensures (c.start_of.ensures read)
