use Rattle.check_terms.proofs.Filling.{term_filled, ref_filled, terms_filled, group_filled, entries_filled, entry_filled, key_filled}
use Rattle.check_terms.proofs.laws.filled_trees.Goals as goal

pub returns-clause-term : goal.returns-clause-term
returns-clause-term c = term_filled

pub returns-clause-reference : goal.returns-clause-reference
returns-clause-reference c = ref_filled

pub returns-clause-arguments : goal.returns-clause-arguments
returns-clause-arguments c = terms_filled

pub returns-clause-group : goal.returns-clause-group
returns-clause-group c = group_filled

pub returns-clause-entries : goal.returns-clause-entries
returns-clause-entries c = entries_filled

pub returns-clause-entry : goal.returns-clause-entry
returns-clause-entry c = entry_filled

pub returns-clause-key : goal.returns-clause-key
returns-clause-key c = key_filled
