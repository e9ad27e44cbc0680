use Rattle.check_literals.proofs.Needing.{needs_more}
use Rattle.check_literals.proofs.needs.needs_of.Goals as goal

pub loop-row-preserved : goal.loop-row-preserved
loop-row-preserved c = needs_more c.args.terms.now c.args.closed.now c.args.kinds.now c.loop-row.row c.loop-row.needs.items c.push.new.self.items c.need_of.result c.loop-row.invariant c.need_of.ensures (c.in_ok-push.ensures.items)
