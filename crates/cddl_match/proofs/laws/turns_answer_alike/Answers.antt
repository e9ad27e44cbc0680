use Rattle.std.proofs.Common.{arith}
use Rattle.cddl_match.proofs.Machines.{same_by_turns}
use Rattle.cddl_match.proofs.laws.turns_answer_alike.Goals as goal

pub returns : goal.returns
returns c = λ n m k u v f turns a b. same_by_turns n m k u v (omega (arith, f)) turns a b
