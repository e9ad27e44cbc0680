use Rattle.std.proofs.Common.{◌<◌, arith}
use Rattle.check_recursion.proofs.Pushing.{length_push, parts_push}
use Rattle.check_recursion.proofs.parts.parts_of.Goals as goal

pub loop-row-preserved : goal.loop-row-preserved
loop-row-preserved c = record {
  count = length_push c.loop-row.parts.items _ c.part_of.result c.loop-row.row c.loop-row.invariant.count c.in_ok-push.ensures.items;
  told = λ xs root refs cl ki op. parts_push xs root refs c.args.terms.now c.loop-row.row c.loop-row.parts.items _ c.part_of.result c.loop-row.invariant.count c.in_ok-push.ensures.items (λ x i r. c.part_of.ensures xs root refs x cl ki op i r) (c.loop-row.invariant.told xs root refs cl ki op);
}

pub returns : goal.returns
returns c xs root refs cl ki op n x h i r = let g : n < c.loop-row.row = omega (arith, h, c.loop-row-test.false) in c.loop-row.invariant.told xs root refs cl ki op n x g i r
