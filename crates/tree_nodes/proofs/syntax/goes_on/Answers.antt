use Rattle.tree_nodes.proofs.OfSyntax.Verdict.{live_begins}
use Rattle.tree_nodes.proofs.syntax.goes_on.Goals as goal

pub returns : goal.returns
returns c = live_begins
