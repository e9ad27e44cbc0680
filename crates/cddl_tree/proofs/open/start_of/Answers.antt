use Rattle.cddl_tree.proofs.Elsewhere.{start_here, inside_position, value_position, choices_position, argument_position}
use Rattle.cddl_tree.proofs.open.start_of.Goals as goal

pub returns-in-Start : goal.returns-in-Start
returns-in-Start c read b = start_here read b c.args.at.now _ c.in-Nothing.is c.in-Start.is

pub returns-in-Inside : goal.returns-in-Inside
returns-in-Inside c read b = inside_position read b c.args.at.now c.in-Nothing.is c.in-Inside.is

pub returns-in-ValueOf : goal.returns-in-ValueOf
returns-in-ValueOf c read b = value_position read b c.args.at.now _ _ c.in-Nothing.is c.in-ValueOf.is

pub returns-in-Choices : goal.returns-in-Choices
returns-in-Choices c read b = choices_position read b c.args.at.now _ _ c.in-Choices.is

pub returns-in-Arguments : goal.returns-in-Arguments
returns-in-Arguments c read b = argument_position read b c.args.at.now _ c.in-Arguments.is
