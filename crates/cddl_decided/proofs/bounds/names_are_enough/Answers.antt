use Rattle.cddl_decided.proofs.OfBounds.GroupNames.{group_enough}
use Rattle.cddl_decided.proofs.OfBounds.Openings.{opened_enough}
use Rattle.cddl_decided.proofs.bounds.names_are_enough.Goals as goal

pub returns-clause-opened : goal.returns-clause-opened
returns-clause-opened c = λ ds. opened_enough ds (c.more_names_change_nothing.ensures.opened ds)

pub returns-clause-group : goal.returns-clause-group
returns-clause-group c = λ ds. group_enough ds (c.more_names_change_nothing.ensures.group ds)
