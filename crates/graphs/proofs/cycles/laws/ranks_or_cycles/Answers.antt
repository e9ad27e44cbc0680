use Rattle.graphs.proofs.OfCycles.Ways.{no_way_back}
use Rattle.graphs.proofs.cycles.laws.ranks_or_cycles.Goals as goal

pub returns : goal.returns
returns c = λ nodes edges ranks h i k. no_way_back nodes edges ranks h i k
