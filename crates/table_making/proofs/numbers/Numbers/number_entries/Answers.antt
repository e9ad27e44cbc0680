use Rattle.std.proofs.Common.{drop_of_length-le}
use Rattle.table_making.specs.Numbers.{IsEntryAt, keys_of}
use Rattle.table_making.specs.Origins.{IsEntryOf}
use Rattle.table_making.proofs.Listing.{next_item}
use Rattle.table_making.proofs.Numbering.{entry_stays, numbering_begun, numbering_ended, numbering_on}
use Rattle.table_making.proofs.numbers.Numbers.number_entries.Goals as goal

pub loop-form-init : goal.loop-form-init
loop-form-init c = numbering_begun IsEntryAt IsEntryOf (keys_of c.args.self.now) c.args.forms.now _ c.new-entries.ensures.items

pub loop-form-preserved : goal.loop-form-preserved
loop-form-preserved c = numbering_on IsEntryAt IsEntryOf entry_stays (keys_of c.args.self.now) (keys_of c.loop-form.self) (keys_of c.number_entry.new.self) c.args.forms.now _ _ _ c.loop-form.entries.items c.push.new.items.items c.in_ok-entry.entry (next_item c.args.forms.now c.loop-form.form-index _ c.loop-form-test.true) c.in_ok-push.ensures c.in_ok-entry.ensures.grows c.in_ok-entry.ensures.there c.in_ok-entry.ensures.named c.loop-form.invariant

pub returns : goal.returns
returns c = record {
  grows = c.loop-form.invariant.grows;
  there = numbering_ended IsEntryAt IsEntryOf (keys_of c.args.self.now) (keys_of c.loop-form.self) c.args.forms.now _ c.loop-form.entries.items (drop_of_length-le c.args.forms.now c.loop-form-test.false) c.loop-form.invariant;
  named = c.loop-form.invariant.named;
}
