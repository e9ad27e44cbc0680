use Rattle.seq_run.proofs.Heads.{item_put}
use Rattle.seq_run.proofs.room.put_taped_line.Goals as goal

pub returns-clause-put : goal.returns-clause-put
returns-clause-put c = λ depth whole. item_put c.args.number c.args.offset whole.value c.put-start.ensures.put (c.put_notation-after.ensures.put depth whole) c.put_byte.ensures
