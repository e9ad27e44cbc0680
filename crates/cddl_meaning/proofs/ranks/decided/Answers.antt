use Rattle.cddl_meaning.proofs.OfRanks.Some.{is_decided}
use Rattle.cddl_meaning.proofs.ranks.decided.Goals as goal

pub returns : goal.returns
returns c = λ _start l rank bound k n p x h. is_decided l rank bound k n p x h
