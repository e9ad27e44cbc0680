use Rattle.check_groups.proofs.OfChoosing.Signed.{have_entries}
use Rattle.check_groups.proofs.choosing.laws.texts_have_entries.Goals as goal

pub returns : goal.returns
returns c = have_entries
