use Rattle.check_terms.proofs.Defining.{equal_definitions}
use Rattle.check_terms.proofs.laws.equal_definitions.Goals as goal

pub returns : goal.returns
returns c = equal_definitions _ c.len.ensures.table
