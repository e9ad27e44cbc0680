use Rattle.cddl_language.proofs.Tables.{stands}
use Rattle.cddl_language.proofs.examples.table.Goals as goal

pub returns : goal.returns
returns c = stands
