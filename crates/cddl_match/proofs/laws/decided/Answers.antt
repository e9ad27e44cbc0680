use Rattle.std.proofs.Common.{arith}
use Rattle.cddl_match.proofs.Decides.{decides}
use Rattle.cddl_match.proofs.laws.decided.Goals as goal

pub returns : goal.returns
returns c = λ table x room. decides table x (omega (arith, room))
