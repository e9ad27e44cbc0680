use Rattle.seq_run.proofs.Heads.{exact_put}
use Rattle.seq_run.proofs.head.Heads.put_anew.Goals as goal

pub returns-clause-put : goal.returns-clause-put
returns-clause-put c = exact_put c.template_of-self-inside.result c.args.number c.args.offset c.template_of-self-inside.ensures c.put-after.ensures
