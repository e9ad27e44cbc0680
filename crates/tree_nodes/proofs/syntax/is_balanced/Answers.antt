use Rattle.tree_nodes.proofs.OfSyntax.Verdict.{open_is, none_open, deepest_is}
use Rattle.tree_nodes.proofs.OfSyntax.Nesting.{deepest-append}
use Rattle.tree_nodes.proofs.syntax.is_balanced.Goals as goal

pub returns-clause-state : goal.returns-clause-state
returns-clause-state c = open_is

pub returns-clause-closed : goal.returns-clause-closed
returns-clause-closed c = none_open

pub returns-clause-tree : goal.returns-clause-tree
returns-clause-tree c = deepest_is

pub returns-clause-joined : goal.returns-clause-joined
returns-clause-joined c = deepest-append 0
