use Rattle.std.proofs.Common.{drop_of_length-le}
use Rattle.table_making.specs.Numbers.{IsGroupAt, keys_of}
use Rattle.table_making.specs.Origins.{IsGroupOrigin}
use Rattle.table_making.proofs.Listing.{next_item}
use Rattle.table_making.proofs.Numbering.{group_stays, numbering_begun, numbering_ended, numbering_on}
use Rattle.table_making.proofs.numbers.Numbers.number_groups.Goals as goal

pub loop-origin-init : goal.loop-origin-init
loop-origin-init c = numbering_begun IsGroupAt IsGroupOrigin (keys_of c.args.self.now) c.args.origins.now _ c.new-numbers.ensures.items

pub loop-origin-preserved : goal.loop-origin-preserved
loop-origin-preserved c = numbering_on IsGroupAt IsGroupOrigin group_stays (keys_of c.args.self.now) (keys_of c.loop-origin.self) (keys_of c.number_group.new.self) c.args.origins.now _ _ _ c.loop-origin.numbers.items c.push.new.items.items c.in_ok-number.number (next_item c.args.origins.now c.loop-origin.origin-index _ c.loop-origin-test.true) c.in_ok-push.ensures c.in_ok-number.ensures.grows c.in_ok-number.ensures.there c.in_ok-number.ensures.named c.loop-origin.invariant

pub returns : goal.returns
returns c = record {
  grows = c.loop-origin.invariant.grows;
  there = numbering_ended IsGroupAt IsGroupOrigin (keys_of c.args.self.now) (keys_of c.loop-origin.self) c.args.origins.now _ c.loop-origin.numbers.items (drop_of_length-le c.args.origins.now c.loop-origin-test.false) c.loop-origin.invariant;
  named = c.loop-origin.invariant.named;
}
