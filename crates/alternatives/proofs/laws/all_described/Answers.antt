use Rattle.alternatives.proofs.Asked.{described}
use Rattle.alternatives.proofs.laws.all_described.Goals as goal

pub returns : goal.returns
returns c = λ parts ss are n mss d. described parts ss are n mss d
