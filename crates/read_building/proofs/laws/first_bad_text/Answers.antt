use Rattle.read_building.proofs.Builds.{noted}
use Rattle.read_building.proofs.laws.first_bad_text.Goals as goal

pub returns : goal.returns
returns c = noted
