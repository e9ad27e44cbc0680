use Rattle.cddl_check.proofs.Leaves.{leaves}
use Rattle.cddl_check.proofs.laws.trees_are_of_tokens.Goals as goal

pub returns : goal.returns
returns c = λ text ts x are tree. leaves x ts text are tree
