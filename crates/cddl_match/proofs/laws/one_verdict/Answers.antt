use Rattle.std.proofs.Common.{arith}
use Rattle.cddl_match.proofs.Machines.{verdict_once}
use Rattle.cddl_match.proofs.laws.one_verdict.Goals as goal

pub returns : goal.returns
returns c = λ table x steps u v f a b. verdict_once table x steps u v (omega (arith, f)) a b
