use Rattle.cddl_meaning.proofs.OfRanks.Well.{takes_nothing}
use Rattle.cddl_meaning.proofs.ranks.may_be_empty.Goals as goal

pub returns : goal.returns
returns c = λ _start l g p q next far w xs left d e. takes_nothing l d e
