use Rattle.cddl_decided.proofs.OfBounds.Operands.{first_operand, last_operand}
use Rattle.cddl_decided.proofs.OfBounds.Sited.{chosen_from}
use Rattle.cddl_decided.proofs.bounds.choices_name_groups.Goals as goal

pub returns-clause-meaning : goal.returns-clause-meaning
returns-clause-meaning c = chosen_from

pub returns-clause-first : goal.returns-clause-first
returns-clause-first c = first_operand

pub returns-clause-last : goal.returns-clause-last
returns-clause-last c = last_operand
