use Rattle.read_building.proofs.Builds.{builds_open, builds_held}
use Rattle.read_building.proofs.laws.counted.Goals as goal

pub returns-clause-few : goal.returns-clause-few
returns-clause-few c = builds_open

pub returns-clause-held : goal.returns-clause-held
returns-clause-held c = builds_held
