use Rattle.cddl_language.proofs.Choosing.{by_group, by_name}
use Rattle.cddl_language.proofs.chosen_types_say.Goals as goal

pub returns-clause-group : goal.returns-clause-group
returns-clause-group c = by_group

pub returns-clause-name : goal.returns-clause-name
returns-clause-name c = by_name
