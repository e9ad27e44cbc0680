use Rattle.item_nodes.proofs.Differing.{rises_more}
use Rattle.item_nodes.proofs.apart.is_ascending.Goals as goal

pub loop-i-preserved : goal.loop-i-preserved
loop-i-preserved c = rises_more c.args.strings.now c.loop-i.i _ c.loop-i.auto.i c.loop-i-test.true (c.is_before.ensures c.if-not-is_before.false) c.loop-i.invariant
