use Rattle.cddl_meaning.proofs.OfRanks.Cheaper.{is_cheaper}
use Rattle.cddl_meaning.proofs.ranks.counts_no_more.Goals as goal

pub returns : goal.returns
returns c = λ _start l rank bound k i n p x h. is_cheaper l rank bound k i n p x h
