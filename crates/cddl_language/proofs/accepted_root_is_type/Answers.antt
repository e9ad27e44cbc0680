use Rattle.cddl_language.proofs.Rooted.{root_is_type}
use Rattle.cddl_language.proofs.accepted_root_is_type.Goals as goal

pub returns : goal.returns
returns c = root_is_type
