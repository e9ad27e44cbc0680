use Rattle.cddl_match.proofs.Machines.{few_turns}
use Rattle.cddl_match.proofs.laws.turns_are_few.Goals as goal

pub returns : goal.returns
returns c = λ n m k taken asked turns. few_turns n m k taken asked turns
