use Rattle.seq_run.proofs.Transitions.{started}
use Rattle.seq_run.proofs.session.Session.new.Goals as goal

pub invariant_of-result : goal.invariant_of-result
invariant_of-result c = started c.new.result c.new-2.result c.new-3.result c.new-4.result c.args.limits c.new-2.ensures c.new-3.ensures c.new-4.ensures
