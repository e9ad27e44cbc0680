use Rattle.seq_run.proofs.meaning.text_says_once.Goals as goal
use Rattle.seq_run.proofs.OfMeaning.OneEnd.{text_once}

pub returns : goal.returns
returns c = text_once
