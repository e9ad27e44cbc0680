use Rattle.item_nodes.proofs.HeadOrder.{keys_more}
use Rattle.item_nodes.proofs.rising.are_keys_rising.Goals as goal

pub loop-i-preserved : goal.loop-i-preserved
loop-i-preserved c =
    keys_more c.args.pairs.now c.loop-i.i c.index-pairs-i.result c.index-pairs-i-in-loop-i.result c.loop-i.auto.i c.loop-i-test.true (c.comes_before.ensures c.if-not-comes_before.false) c.loop-i.invariant
