use Rattle.tree_nodes.proofs.OfSyntax.Verdict.{one_tree}
use Rattle.tree_nodes.proofs.syntax.one_tree.Goals as goal

pub returns : goal.returns
returns c = one_tree
