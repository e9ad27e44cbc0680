use Rattle.cddl_language.proofs.OneFault.{one_fault, apart, some}
use Rattle.cddl_language.proofs.one_fault.Goals as goal

pub returns-clause-same : goal.returns-clause-same
returns-clause-same c = one_fault

pub returns-clause-apart : goal.returns-clause-apart
returns-clause-apart c = apart

pub returns-clause-some : goal.returns-clause-some
returns-clause-some c = some
