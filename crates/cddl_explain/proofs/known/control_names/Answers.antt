use Rattle.std.proofs.Common.{refl}
use Rattle.cddl_explain.proofs.known.control_names.Goals as goal

pub returns : goal.returns
returns c = refl
