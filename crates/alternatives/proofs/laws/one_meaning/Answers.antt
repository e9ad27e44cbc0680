use Rattle.alternatives.proofs.Once.{once}
use Rattle.alternatives.proofs.laws.one_meaning.Goals as goal

pub returns : goal.returns
returns c = λ parts n mss nss d e. once parts d e
