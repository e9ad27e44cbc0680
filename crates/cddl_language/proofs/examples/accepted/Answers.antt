use Rattle.cddl_language.proofs.Accepted as A
use Rattle.cddl_language.proofs.examples.accepted.Goals as goal

pub returns : goal.returns
returns c = A.accepted
