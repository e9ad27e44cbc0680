use Rattle.seq_run.proofs.OfMeaning.SomeEnd.{some_text_end}
use Rattle.seq_run.proofs.meaning.some_end_by_text.Goals as goal

pub returns : goal.returns
returns c = λ worth ds root decided steps l stream are. some_text_end worth ds root decided steps c.some_front.ensures l stream are
