use Rattle.cddl_language.specs.Kinds.{opens_group, opens_type}
use Rattle.check_instances.proofs.OfOpenings.Leading.{opened_reached}
use Rattle.check_instances.proofs.openings.laws.opened_is_reached.Goals as goal

pub returns-clause-group : goal.returns-clause-group
returns-clause-group c = λ xs root r g. opened_reached xs root r (opens_group g)

pub returns-clause-content : goal.returns-clause-content
returns-clause-content c = λ xs root r x. opened_reached xs root r (opens_type x)
