use Rattle.seq_run.proofs.meaning.one_end_by_text.Goals as goal
use Rattle.seq_run.proofs.OfMeaning.OneEnd.{one_text_end, text_read_back}

pub returns-clause-one : goal.returns-clause-one
returns-clause-one c = one_text_end c.one_fault.ensures

pub returns-clause-read_back : goal.returns-clause-read_back
returns-clause-read_back c = text_read_back c.preferred_spells.ensures
