use Rattle.tree_nodes.proofs.OfSyntax.Verdict.{some_answer}
use Rattle.tree_nodes.proofs.syntax.some_answer.Goals as goal

pub returns : goal.returns
returns c = some_answer
