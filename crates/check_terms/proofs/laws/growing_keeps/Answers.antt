use Rattle.check_terms.proofs.Growing as growing
use Rattle.check_terms.proofs.laws.growing_keeps.Goals as goal

pub returns-clause-same : goal.returns-clause-same
returns-clause-same c = growing.same

pub returns-clause-further : goal.returns-clause-further
returns-clause-further c = growing.further

pub returns-clause-row : goal.returns-clause-row
returns-clause-row c = growing.with_row

pub returns-clause-text : goal.returns-clause-text
returns-clause-text c = growing.with_text

pub returns-clause-part : goal.returns-clause-part
returns-clause-part c = growing.part_kept

pub returns-clause-tree : goal.returns-clause-tree
returns-clause-tree c = growing.tree_kept

pub returns-clause-texts : goal.returns-clause-texts
returns-clause-texts c = growing.texts_kept

pub returns-clause-body : goal.returns-clause-body
returns-clause-body c = growing.body_kept

pub returns-clause-definition : goal.returns-clause-definition
returns-clause-definition c = growing.definition_kept

pub returns-clause-definitions : goal.returns-clause-definitions
returns-clause-definitions c = growing.definitions_kept
