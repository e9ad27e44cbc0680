use Rattle.tree_nodes.proofs.OfSyntax.Verdict.{apart, one_refusal}
use Rattle.tree_nodes.proofs.syntax.one_answer.Goals as goal

pub returns-clause-apart : goal.returns-clause-apart
returns-clause-apart c = apart

pub returns-clause-refusal : goal.returns-clause-refusal
returns-clause-refusal c = one_refusal
