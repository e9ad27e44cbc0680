use Rattle.cddl_meaning.proofs.Lemmas.{size_spelled}
use Rattle.cddl_meaning.proofs.OfRanks.Bytes.{size_preferred}
use Rattle.cddl_meaning.proofs.ranks.no_larger.Goals as goal

pub returns-clause-preferred : goal.returns-clause-preferred
returns-clause-preferred c = size_preferred

pub returns-clause-spelled : goal.returns-clause-spelled
returns-clause-spelled c = size_spelled
