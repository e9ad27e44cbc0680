use Rattle.std.proofs.Common.{◌<◌, arith}
use Rattle.check_maps.proofs.OfMapCycles.Lists.{length_push}
use Rattle.check_maps.proofs.OfMapCycles.Growing.{targets_push}
use Rattle.check_maps.proofs.map_cycles.targets.targets_of.Goals as goal

pub loop-row-preserved : goal.loop-row-preserved
loop-row-preserved c = record {
  count = length_push c.loop-row.targets.items _ c.target_of.result c.loop-row.row c.loop-row.invariant.count c.in_ok-push.ensures.items;
  told = λ xs root refs cl ki op en. targets_push xs root refs c.args.terms.now c.loop-row.row c.loop-row.targets.items _ c.target_of.result c.loop-row.invariant.count c.in_ok-push.ensures.items (λ e i r. c.target_of.ensures xs root refs e cl ki op en i r) (c.loop-row.invariant.told xs root refs cl ki op en);
}

pub returns : goal.returns
returns c xs root refs cl ki op en n e h i r = let g : n < c.loop-row.row = omega (arith, h, c.loop-row-test.false) in c.loop-row.invariant.told xs root refs cl ki op en n e g i r
