use Rattle.check_groups.proofs.OfChoosing.Signed.{opened_is_no_group}
use Rattle.check_groups.proofs.choosing.laws.opened_names_are_types.Goals as goal

pub returns : goal.returns
returns c = opened_is_no_group
