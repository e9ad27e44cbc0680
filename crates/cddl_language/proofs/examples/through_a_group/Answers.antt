use Rattle.cddl_language.proofs.ThroughGroup as G
use Rattle.cddl_language.proofs.examples.through_a_group.Goals as goal

pub returns-clause-told : goal.returns-clause-told
returns-clause-told c = G.told

pub returns-clause-not_told : goal.returns-clause-not_told
returns-clause-not_told c = G.not_told
