use Rattle.tree_nodes.proofs.OfSyntax.Verdict.{stuck_begins_nothing}
use Rattle.tree_nodes.proofs.syntax.is_stuck.Goals as goal

pub returns : goal.returns
returns c = stuck_begins_nothing
