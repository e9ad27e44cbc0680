use Rattle.seq_run.proofs.Deciding.{decisive_end}
use Rattle.seq_run.proofs.laws.decisive_end.Goals as goal

pub returns : goal.returns
returns c = decisive_end c.one_answer.ensures.table
