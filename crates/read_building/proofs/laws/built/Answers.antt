use Rattle.read_building.proofs.Builds.{built}
use Rattle.read_building.proofs.laws.built.Goals as goal

pub returns : goal.returns
returns c = built
