use Rattle.std.proofs.Common.{vec_items}
use Rattle.alternatives.proofs.Making.{one_empty}
use Rattle.alternatives.proofs.pieces.empty_ones.Goals as goal

pub loop-preserved : goal.loop-preserved
loop-preserved c = one_empty vec_items c.loop.alternatives.items c.push.new.self.items c.new.result c.loop.counter c.in_ok-push.ensures.items c.new.ensures.items c.loop.invariant
