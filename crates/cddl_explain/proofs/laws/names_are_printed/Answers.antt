use Rattle.cddl_explain.proofs.Naming.{printed}
use Rattle.cddl_explain.proofs.laws.names_are_printed.Goals as goal

pub returns : goal.returns
returns c = printed
