use Rattle.cddl_language.proofs.Instances.{least}
use Rattle.cddl_language.proofs.instances_are_least.Goals as goal

pub returns : goal.returns
returns c = least
