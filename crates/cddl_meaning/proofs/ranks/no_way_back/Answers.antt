use Rattle.cddl_meaning.proofs.OfRanks.ByForm.{no_return}
use Rattle.cddl_meaning.proofs.OfRanks.Well.{says_nothing}
use Rattle.cddl_meaning.proofs.ranks.no_way_back.Goals as goal

pub returns-clause-ranked : goal.returns-clause-ranked
returns-clause-ranked c = λ _start l rank bound k a h. no_return l rank k a h

pub returns-clause-itself : goal.returns-clause-itself
returns-clause-itself c = λ _start l n p w x a e d. says_nothing l n e d
