use Rattle.std.proofs.Common.{arith}
use Rattle.match_held.proofs.Strings.{all_plain, one_more_plain}
use Rattle.match_held.proofs.reading.plain_items.Goals as goal

pub loop-item-init : goal.loop-item-init
loop-item-init c = rw c.new-plain.ensures.items c.into_iter-item-iterator.ensures.into_iter_gives.0

pub loop-item-preserved : goal.loop-item-preserved
loop-item-preserved c = one_more_plain _ _ _ _ _ _ _ c.in_ok-push.ensures.items c.into_item.ensures.same c.in-Some.ensures.steps.0 c.loop-item.invariant

pub returns : goal.returns
returns c = all_plain _ _ _ (omega (arith, c.in-None.ensures.steps.0, c.loop-item.item-iterator.rest.ok.0)) c.loop-item.invariant
