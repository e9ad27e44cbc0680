use Rattle.std.proofs.Common.{vec_items}
use Rattle.alternatives.proofs.Making.{one_in_turn}
use Rattle.alternatives.proofs.pieces.each_in_turn.Goals as goal

pub loop-number-preserved : goal.loop-number-preserved
loop-number-preserved c = λ ms e. one_in_turn vec_items c.loop-number.alternatives.items c.push.new.self.items c.in_ok-with_needed.field-0 c.args.all.now c.loop-number.number c.loop-number-test.true c.in_ok-push.ensures.items c.in_ok-with_needed.ensures ms e (c.loop-number.invariant ms e)
