use Rattle.check_instances.proofs.Standing.{body_stands, entries_stand, entry_stands, group_stands, key_stands, term_stands}
use Rattle.check_instances.proofs.laws.references_stand.Goals as goal

pub returns-clause-term : goal.returns-clause-term
returns-clause-term c = term_stands

pub returns-clause-group : goal.returns-clause-group
returns-clause-group c = group_stands

pub returns-clause-entries : goal.returns-clause-entries
returns-clause-entries c = entries_stand

pub returns-clause-entry : goal.returns-clause-entry
returns-clause-entry c = entry_stands

pub returns-clause-key : goal.returns-clause-key
returns-clause-key c = key_stands

pub returns-clause-body : goal.returns-clause-body
returns-clause-body c = body_stands
