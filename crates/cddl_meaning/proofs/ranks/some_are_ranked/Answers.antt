use Rattle.cddl_meaning.proofs.OfRanks.Example.{example_ranked}
use Rattle.cddl_meaning.proofs.ranks.some_are_ranked.Goals as goal

pub returns : goal.returns
returns c = example_ranked
