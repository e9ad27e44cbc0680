use Rattle.tree_nodes.proofs.OfSyntax.Verdict.{sound, complete}
use Rattle.tree_nodes.proofs.syntax.makes_trees.Goals as goal

pub returns-clause-sound : goal.returns-clause-sound
returns-clause-sound c = sound

pub returns-clause-complete : goal.returns-clause-complete
returns-clause-complete c = complete
