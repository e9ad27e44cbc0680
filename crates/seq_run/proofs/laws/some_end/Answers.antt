use Rattle.seq_run.proofs.SomeEnd.{some_end, some_free_end}
use Rattle.seq_run.proofs.laws.some_end.Goals as goal

pub returns-clause-within : goal.returns-clause-within
returns-clause-within c = some_end c.some_front.ensures c.decided.ensures

pub returns-clause-freely : goal.returns-clause-freely
returns-clause-freely c = some_free_end c.some_front.ensures c.decided.ensures
