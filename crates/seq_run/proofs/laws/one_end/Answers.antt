use Rattle.seq_run.proofs.OneEnd.{one_end, one_free_end}
use Rattle.seq_run.proofs.laws.one_end.Goals as goal

pub returns-clause-within : goal.returns-clause-within
returns-clause-within c = one_end c.one_fault.ensures c.one_answer.ensures.table

pub returns-clause-freely : goal.returns-clause-freely
returns-clause-freely c = one_free_end c.one_fault.ensures c.one_answer.ensures.table
