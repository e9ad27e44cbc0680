use Rattle.cddl_reasons.proofs.Shares.{spare_more}
use Rattle.cddl_reasons.proofs.greedy.greedy_is_certain.Goals as goal

pub returns : goal.returns
returns c = spare_more
