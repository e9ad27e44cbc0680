use Rattle.check_groups.proofs.OfChoosing.Settling.{settled}
use Rattle.check_groups.proofs.choosing.laws.growing_sets_settle.Goals as goal

pub returns : goal.returns
returns c = settled
