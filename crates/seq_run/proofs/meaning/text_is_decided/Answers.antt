use Rattle.seq_run.proofs.meaning.text_is_decided.Goals as goal
use Rattle.seq_run.proofs.OfMeaning.Texts as T

-- src/lib.rt:45:1
pub returns : goal.returns
returns c = λ worth ds root table h x k. T.text_decided worth ds root table h x (c.decided.ensures table x k)
