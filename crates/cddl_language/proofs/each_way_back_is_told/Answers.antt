use Rattle.cddl_language.proofs.NoCycle.{told}
use Rattle.cddl_language.proofs.each_way_back_is_told.Goals as goal

pub returns : goal.returns
returns c = told
