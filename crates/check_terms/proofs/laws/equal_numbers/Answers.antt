use Rattle.check_terms.proofs.Holding.{one_number, same}
use Rattle.check_terms.proofs.Inverse.{term_back, ref_back, terms_back, group_back, entries_back, entry_back, key_back, term_from, ref_from, terms_from, group_from, entries_from, entry_from, key_from}
use Rattle.check_terms.specs.Trees.{term_tree, ref_tree, terms_tree, group_tree, entries_tree, entry_tree, key_tree}
use Rattle.check_terms.proofs.laws.equal_numbers.Goals as goal

pub returns-clause-tree : goal.returns-clause-tree
returns-clause-tree c = one_number _ c.len.ensures.table

pub returns-clause-term : goal.returns-clause-term
returns-clause-term c = same term_tree term_from term_back _ c.len.ensures.table

pub returns-clause-reference : goal.returns-clause-reference
returns-clause-reference c = same ref_tree ref_from ref_back _ c.len.ensures.table

pub returns-clause-arguments : goal.returns-clause-arguments
returns-clause-arguments c = same terms_tree terms_from terms_back _ c.len.ensures.table

pub returns-clause-group : goal.returns-clause-group
returns-clause-group c = same group_tree group_from group_back _ c.len.ensures.table

pub returns-clause-entries : goal.returns-clause-entries
returns-clause-entries c = same entries_tree entries_from entries_back _ c.len.ensures.table

pub returns-clause-entry : goal.returns-clause-entry
returns-clause-entry c = same entry_tree entry_from entry_back _ c.len.ensures.table

pub returns-clause-key : goal.returns-clause-key
returns-clause-key c = same key_tree key_from key_back _ c.len.ensures.table
