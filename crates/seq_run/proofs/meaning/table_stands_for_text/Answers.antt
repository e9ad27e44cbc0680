use Rattle.seq_run.proofs.meaning.table_stands_for_text.Goals as goal
use Rattle.seq_run.proofs.OfMeaning.Texts as T

-- src/lib.rt:28:1
pub returns-clause-item : goal.returns-clause-item
returns-clause-item c = λ worth ds root table h x a w. (T.said worth ds root table h x a w, T.says worth ds root table h x a w)

-- src/lib.rt:28:1
pub returns-clause-stream : goal.returns-clause-stream
returns-clause-stream c = λ worth ds root table h steps l stream found end. (T.by_text worth ds root table h steps l stream found end, T.by_table worth ds root table h steps l stream found end)
